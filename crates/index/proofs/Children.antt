-- Parents and children by the kinds of records: the last record of a kind, and that the children of a record are those counted up to the
-- next of its kind. Assumes nothing.
use Prim.Native.Nat.{ℕ, zero, suc, ◌+◌, ◌-◌, ◌≤◌, ◌<◌}
use mathlib.Core.Path.{◌≡◌, refl, sym, ap, ◌∙◌}
use mathlib.Core.Bool.{Bool, true, false, cond}
use mathlib.Core.List.{List, [], ◌∷◌, ◌++◌, append-nil}
use native.Mathlib.Omega.{arith}
use lib.Dec.{eqb, leb}
use lib.ListN.{length, get_or, length-append, get_or-append}
use lib.Seq.{append_snoc}
use borrow.Author.Tests.{eq-eqb, ne_eqb, eqb-true, eqb-false, le-leb}
use Rattle.index.specs.Entries.{Kinds, head_of, last_of, parent_of, children_from}
use Rattle.index.specs.Code.{scanned}

module _ (h : ℕ) where
  -- the last of some records with one more in front, by what is said of the others
  last_cons : (j : ℕ) (js : List ℕ) (b : Bool) → eqb (last_of h js) 0 ≡ b → last_of h (j ∷ js) ≡ cond b (cond (eqb j h) 1 0) (1 + last_of h js)
  unfolding last_of
  last_cons j js b e = rw e

  one_le : (b : Bool) → cond b 1 0 ≤ 1
  one_le true = omega arith
  one_le false = omega arith

  le_go : (j : ℕ) (js : List ℕ) (b : Bool) → eqb (last_of h js) 0 ≡ b → last_of h js ≤ length js → last_of h (j ∷ js) ≤ suc (length js)
  le_go j js true e ih = omega (arith, last_cons j js true e, one_le (eqb j h))
  le_go j js false e ih = omega (arith, last_cons j js false e, ih)

  -- it is one of them
  pub last_le : (js : List ℕ) → last_of h js ≤ length js
  unfolding last_of
  last_le [] = omega arith
  last_le (j ∷ js) = le_go j js (eqb (last_of h js) 0) refl (last_le js)

  is_first : (j q : ℕ) (js : List ℕ) (b : Bool) → eqb j h ≡ b → cond b 1 0 ≡ suc q → get_or (j ∷ js) q 0 ≡ h
  is_first j q js true e n =
      let z : 0 ≡ q = omega (arith, n) in
      ap (λ (i : ℕ). get_or (j ∷ js) i 0) (sym z) ∙ eqb-true j h e
  is_first j q js false e n = absurd (omega (arith, n))

  is_go : (j q : ℕ) (js : List ℕ) (b : Bool) → eqb (last_of h js) 0 ≡ b → ((p : ℕ) → last_of h js ≡ suc p → get_or js p 0 ≡ h)
      → last_of h (j ∷ js) ≡ suc q → get_or (j ∷ js) q 0 ≡ h
  is_go j q js true e ih n = is_first j q js (eqb j h) refl (sym (last_cons j js true e) ∙ n)
  is_go j zero js false e ih n =
      let z : last_of h js ≡ 0 = omega (arith, last_cons j js false e, n) in
      absurd (eqb-false (last_of h js) 0 e z)
  is_go j (suc p) js false e ih n = ih p (omega (arith, last_cons j js false e, n))

  -- and of that kind
  pub last_is : (js : List ℕ) (q : ℕ) → last_of h js ≡ suc q → get_or js q 0 ≡ h
  unfolding last_of
  last_is [] q n = absurd (omega (arith, n))
  last_is (j ∷ js) q n = is_go j q js (eqb (last_of h js) 0) refl (last_is js) n

  -- with one more behind
  same_go : (j k : ℕ) (js : List ℕ) (b : Bool) → eqb (last_of h (js ++ k ∷ [])) 0 ≡ b → last_of h (js ++ k ∷ []) ≡ length js + 1 → last_of h (j ∷ (js ++ k ∷ [])) ≡ suc (length js) + 1
  same_go j k js true e ih = absurd (omega (arith, eqb-true (last_of h (js ++ k ∷ [])) 0 e, ih))
  same_go j k js false e ih = omega (arith, last_cons j (js ++ k ∷ []) false e, ih)

  pub last_same : (js : List ℕ) (k : ℕ) → k ≡ h → last_of h (js ++ k ∷ []) ≡ length js + 1
  unfolding last_of
  last_same [] k e = rw (eq-eqb k h e)
  last_same (j ∷ js) k e = same_go j k js (eqb (last_of h (js ++ k ∷ [])) 0) refl (last_same js k e)

  pub last_other : (js : List ℕ) (k : ℕ) → (k ≡ h → ⊥) → last_of h (js ++ k ∷ []) ≡ last_of h js
  unfolding last_of
  last_other [] k e = rw (ne_eqb k h e)
  last_other (j ∷ js) k e = ap (λ (n : ℕ). cond (eqb n 0) (cond (eqb j h) 1 0) (1 + n)) (last_other js k e)

module _ (ks : Kinds) where
  -- a parent stands before its child
  pub parent_le : (before : List ℕ) (j : ℕ) → parent_of ks before j ≤ length before
  unfolding parent_of
  parent_le before j = go (leb 1 (head_of ks j)) refl
    where
      go : (b : Bool) → leb 1 (head_of ks j) ≡ b → parent_of ks before j ≤ length before
      go true e = rw e (last_le (head_of ks j) before)
      go false e = rw e (omega arith)

  -- and is of the kind within which the child stands
  pub parent_kind : (before : List ℕ) (j q : ℕ) → parent_of ks before j ≡ suc q → last_of (head_of ks j) before ≡ suc q
  unfolding parent_of
  parent_kind before j q = go (leb 1 (head_of ks j)) refl
    where
      go : (b : Bool) → leb 1 (head_of ks j) ≡ b → parent_of ks before j ≡ suc q → last_of (head_of ks j) before ≡ suc q
      go true e p = sym (rw e) ∙ p
      go false e p = absurd (omega (arith, rw e at p))

  pub parent_found : (before : List ℕ) (j : ℕ) → 1 ≤ head_of ks j → parent_of ks before j ≡ last_of (head_of ks j) before
  unfolding parent_of
  parent_found before j h = rw (le-leb 1 (head_of ks j) h)

  -- what one record adds to the children of record n
  abbrev adds : ℕ → List ℕ → ℕ → ℕ
  adds n before j = cond (eqb (parent_of ks before j) n) 1 0

  adds_none : (n : ℕ) (before : List ℕ) (j : ℕ) → (parent_of ks before j ≡ n → ⊥) → adds n before j ≡ 0
  adds_none n before j e = rw (ne_eqb (parent_of ks before j) n e)

  -- the records up to record n are no children of it
  pub none_before : (n : ℕ) (before js more : List ℕ) → length before + length js ≤ n
      → children_from ks n before (js ++ more) ≡ children_from ks n (before ++ js) more
  unfolding children_from
  none_before n before [] more h = ap (λ (l : List ℕ). children_from ks n l more) (sym (append-nil before))
  none_before n before (j ∷ js) more h =
      let none = adds_none n before j (λ e. absurd (omega (arith, h, e, parent_le before j))) in
      let one = length-append before (j ∷ []) in
      let later = none_before n (before ++ j ∷ []) js more (omega (arith, h, one)) in
      let same = append_snoc before j js in
      omega (arith, none, later, ap (λ (l : List ℕ). children_from ks n l more) same)

  module _ (k n : ℕ) where
    -- nor are those behind the next record of its kind
    none_after : (before js : List ℕ) (q : ℕ) → n ≡ suc q → get_or before q 0 ≡ k → n < last_of k before → children_from ks n before js ≡ 0
    unfolding children_from
    none_after before [] q e at later = refl
    none_after before (j ∷ js) q e at later =
        let short = last_le k before in
        let no-child = adds_none n before j (λ p.
        let found = parent_kind before j q (p ∙ e) in
        let kind = sym (last_is (head_of ks j) before q found) ∙ at in
        absurd (omega (arith, later, e, ap (λ (h : ℕ). last_of h before) kind, found))) in
        let still = get_or-append before (j ∷ []) 0 q (omega (arith, later, short, e)) ∙ at in
        let more = none_after (before ++ j ∷ []) js q e still (keeps (eqb j k) refl) in
        omega (arith, no-child, more)
      where
        keeps : (b : Bool) → eqb j k ≡ b → n < last_of k (before ++ j ∷ [])
        keeps true s = omega (arith, last_same k before j (eqb-true j k s), last_le k before, later)
        keeps false d = omega (arith, last_other k before j (eqb-false j k d), later)

    -- a record within another kind is none
    other : (before : List ℕ) (j : ℕ) → last_of k before ≡ n → 1 ≤ n → (head_of ks j ≡ k → ⊥) → parent_of ks before j ≡ n → ⊥
    other before j is some d p =
        let e : n ≡ suc (n - 1) = omega (arith, some) in
        d (sym (last_is (head_of ks j) before (n - 1) (parent_kind before j (n - 1) (p ∙ e))) ∙ last_is k before (n - 1) (is ∙ e))

    -- a record is a child exactly where it stands within the kind
    child_is : (before : List ℕ) (j : ℕ) → last_of k before ≡ n → 1 ≤ n → 1 ≤ k → adds n before j ≡ cond (eqb (head_of ks j) k) 1 0
    child_is before j is some real = go (eqb (head_of ks j) k) refl
      where
        go : (b : Bool) → eqb (head_of ks j) k ≡ b → adds n before j ≡ cond (eqb (head_of ks j) k) 1 0
        go true e =
            let s = eqb-true (head_of ks j) k e in
            let found = parent_found before j (omega (arith, real, s)) ∙ ap (λ (h : ℕ). last_of h before) s ∙ is in
            rw (eq-eqb (parent_of ks before j) n found, e)
        go false e = adds_none n before j (other before j is some (eqb-false (head_of ks j) k e)) ∙ rw e

    -- the children of record n, of kind k, among the records behind some, of which it is the last of its kind
    pub scan_right : (before js : List ℕ) → last_of k before ≡ n → 1 ≤ n → 1 ≤ k → children_from ks n before js ≡ scanned ks k js
    unfolding children_from scanned
    scan_right before [] is some real = refl
    scan_right before (j ∷ js) is some real = go (eqb j k) refl (λ d. scan_right (before ++ j ∷ []) js (last_other k before j d ∙ is) some real)
      where
        go : (b : Bool) → eqb j k ≡ b → ((j ≡ k → ⊥) → children_from ks n (before ++ j ∷ []) js ≡ scanned ks k js) → children_from ks n before (j ∷ js) ≡ scanned ks k (j ∷ js)
        go true e later =
            let here : n ≡ suc (n - 1) = omega (arith, some) in
            let short = last_le k before in
            let at = get_or-append before (j ∷ []) 0 (n - 1) (omega (arith, some, is, short)) ∙ last_is k before (n - 1) (is ∙ here) in
            let next = last_same k before j (eqb-true j k e) in
            let none = none_after (before ++ j ∷ []) js (n - 1) here at (omega (arith, next, is, short)) in
            let child = child_is before j is some real in
            let right : scanned ks k (j ∷ js) ≡ cond (eqb (head_of ks j) k) 1 0 + 0 = rw e in
            omega (arith, right, child, none)
        go false e later =
            let more = later (eqb-false j k e) in
            let child = child_is before j is some real in
            let right : scanned ks k (j ∷ js) ≡ cond (eqb (head_of ks j) k) 1 0 + scanned ks k js = rw e in
            omega (arith, right, child, more)

-- so of a record of kind k behind some, in a file
pub children_scanned : (ks : Kinds) (before js : List ℕ) (k : ℕ) → 1 ≤ k → children_from ks (length before + 1) [] (before ++ k ∷ js) ≡ scanned ks k js
children_scanned ks before js k real =
    let n = length before + 1 in
    let long = length-append before (k ∷ []) in
    ap (children_from ks n []) (sym (append_snoc before k js))
    ∙ none_before ks n [] (before ++ k ∷ []) js (omega (arith, long))
    ∙ scan_right ks k n (before ++ k ∷ []) js (last_same k before k refl) (omega arith) real
