-- Each child is counted once: the children of all entries are the records that have a parent, and in an accepted file those are the
-- records that stand within a kind. Assumes nothing.
use Prim.Native.Nat.{ℕ, zero, suc, ◌+◌, ◌≤◌, ◌<◌}
use mathlib.Core.Path.{◌≡◌, refl, sym, ap, ◌∙◌, subst}
use mathlib.Core.Bool.{Bool, true, false, cond}
use mathlib.Core.List.{List, [], ◌∷◌, ◌++◌, map, map-append}
use native.Mathlib.Omega.{arith}
use lib.Dec.{eqb, leb}
use lib.ListN.{length, get_or, length-append, get_or-append}
use lib.Seq.{append_snoc}
use borrow.Author.Tests.{eq-eqb, ne_eqb, leb-true}
use Rattle.record.specs.Records.{records}
use Rattle.flow.specs.Publication.{Flow, layout_for}
use Rattle.flow.specs.Editions.{Asked, a_flow, asked}
use Rattle.flow.specs.Proper.{Proper}
use Rattle.flow.proofs.Proper.{ProperAsked}
use Rattle.flow.proofs.Asking.{asked_proper}
use Rattle.judge.specs.File.{judged, accepted}
use Rattle.judge.specs.Right.{RightFor}
use Rattle.judge.proofs.RightEach.{Each, each_first, each_rest}
use Rattle.judge.proofs.Demand2.{right_asked}
use Rattle.index.specs.Entries.{Kinds, kinds_for, kind_in, kinds_of, head_of, may_head, parent_of, children_from, children, entries_from, entries_of, entries_by, entries_for}
use Rattle.index.specs.Whole.{child_total, within_some}
use Rattle.index.proofs.Children.{last_is, parent_le, parent_kind}
use Rattle.index.proofs.Reading.{head_may}
use Rattle.index.proofs.Nested.{HasParent, right_parents}

-- a number other than 0 counts one
abbrev some : ℕ → ℕ
some p = cond (eqb p 0) 0 1

module _ (ks : Kinds) where
  -- how many of some records, those before them given, have a parent
  unfoldable pub parented : List ℕ → List ℕ → ℕ
  parented before [] = 0
  parented before (j ∷ js) = some (parent_of ks before j) + parented (before ++ j ∷ []) js

  -- the sum of what w says of the numbers of those of some records that may have children, the first being record i
  unfoldable over : (ℕ → ℕ) → ℕ → List ℕ → ℕ
  over w i [] = 0
  over w i (j ∷ js) = cond (may_head ks j) (w i) 0 + over w (suc i) js

  by_may : (w : ℕ → ℕ) (i j : ℕ) (js : List ℕ) (b : Bool) → may_head ks j ≡ b → over w i (j ∷ js) ≡ cond b (w i) 0 + over w (suc i) js
  unfolding over
  by_may w i j js b e = rw e

  over_zero : (i : ℕ) (js : List ℕ) → over (λ _. 0) i js ≡ 0
  unfolding over
  over_zero i [] = refl
  over_zero i (j ∷ js) = go (may_head ks j) refl (over_zero (suc i) js)
    where
      go : (b : Bool) → may_head ks j ≡ b → over (λ _. 0) (suc i) js ≡ 0 → over (λ _. 0) i (j ∷ js) ≡ 0
      go true e ih = omega (arith, by_may (λ _. 0) i j js true e, ih)
      go false e ih = omega (arith, by_may (λ _. 0) i j js false e, ih)

  module _ (u v : ℕ → ℕ) where
    abbrev both : ℕ → ℕ
    both n = u n + v n

    over_both : (i : ℕ) (js : List ℕ) → over both i js ≡ over u i js + over v i js
    unfolding over
    over_both i [] = refl
    over_both i (j ∷ js) = go (may_head ks j) refl (over_both (suc i) js)
      where
        go : (b : Bool) → may_head ks j ≡ b → over both (suc i) js ≡ over u (suc i) js + over v (suc i) js → over both i (j ∷ js) ≡ over u i (j ∷ js) + over v i (j ∷ js)
        go true e ih = omega (arith, by_may both i j js true e, by_may u i j js true e, by_may v i j js true e, ih)
        go false e ih = omega (arith, by_may both i j js false e, by_may u i j js false e, by_may v i j js false e, ih)

  -- of record p one, of any other none: summed up, that is one where p is among them and may have children
  abbrev only : ℕ → ℕ → ℕ
  only p n = cond (eqb p n) 1 0

  only_other : (p n : ℕ) → (p ≡ n → ⊥) → only p n ≡ 0
  only_other p n e = rw (ne_eqb p n e)

  only_same : (p n : ℕ) → p ≡ n → only p n ≡ 1
  only_same p n e = rw (eq-eqb p n e)

  over_past : (p i : ℕ) (js : List ℕ) → p < i → over (only p) i js ≡ 0
  unfolding over
  over_past p i [] h = refl
  over_past p i (j ∷ js) h = go (may_head ks j) refl (over_past p (suc i) js (omega (arith, h)))
    where
      none : only p i ≡ 0
      none = only_other p i (λ e. absurd (omega (arith, e, h)))

      go : (b : Bool) → may_head ks j ≡ b → over (only p) (suc i) js ≡ 0 → over (only p) i (j ∷ js) ≡ 0
      go true e ih = omega (arith, by_may (only p) i j js true e, none, ih)
      go false e ih = omega (arith, by_may (only p) i j js false e, ih)

  over_at : (p i q : ℕ) (js : List ℕ) → p ≡ i + q → q < length js → may_head ks (get_or js q 0) ≡ true → over (only p) i js ≡ 1
  unfolding over
  over_at p i q [] is h may = absurd (omega (arith, h))
  over_at p i zero (j ∷ js) is h may =
      omega (arith, by_may (only p) i j js true may, only_same p i (omega (arith, is)), over_past p (suc i) js (omega (arith, is)))
  over_at p i (suc q) (j ∷ js) is h may = go (may_head ks j) refl (over_at p (suc i) q js (omega (arith, is)) (omega (arith, h)) may)
    where
      none : only p i ≡ 0
      none = only_other p i (λ e. absurd (omega (arith, e, is)))

      go : (b : Bool) → may_head ks j ≡ b → over (only p) (suc i) js ≡ 1 → over (only p) i (j ∷ js) ≡ 1
      go true e ih = omega (arith, by_may (only p) i j js true e, none, ih)
      go false e ih = omega (arith, by_may (only p) i j js false e, ih)

  -- a record with a parent stands within a kind
  pub parent_head : (before : List ℕ) (j q : ℕ) → parent_of ks before j ≡ suc q → 1 ≤ head_of ks j
  unfolding parent_of
  parent_head before j q = go (leb 1 (head_of ks j)) refl
    where
      go : (b : Bool) → leb 1 (head_of ks j) ≡ b → parent_of ks before j ≡ suc q → 1 ≤ head_of ks j
      go true e p = leb-true 1 (head_of ks j) e
      go false e p = absurd (omega (arith, rw e at p))

  -- one record is a child once, of its parent, or not at all where it has none
  child_once : (before rest : List ℕ) (j p : ℕ) → parent_of ks before j ≡ p → over (only p) 1 (before ++ rest) ≡ some p
  child_once before rest j zero e = over_past 0 1 (before ++ rest) (omega arith)
  child_once before rest j (suc q) e =
      let short : q < length before = omega (arith, e, parent_le ks before j) in
      let kind = get_or-append before rest 0 q short ∙ last_is (head_of ks j) before q (parent_kind ks before j q e) in
      rw (ne_eqb (suc q) 0 (λ z. absurd (omega (arith, z))))
      (over_at (suc q) 1 q (before ++ rest) (omega arith) (omega (arith, short, length-append before rest))
      (ap (may_head ks) kind ∙ head_may ks j (parent_head before j q e)))

  -- the children of all records that may have some, among the records behind some
  all_once : (all before js : List ℕ) → before ++ js ≡ all → over (λ n. children_from ks n before js) 1 all ≡ parented before js
  unfolding children_from parented
  all_once all before [] e = over_zero 1 all
  all_once all before (j ∷ js) e =
      let p = parent_of ks before j in
      let here = ap (over (only p) 1) (sym e) ∙ child_once before (j ∷ js) j p refl in
      let later = all_once all (before ++ j ∷ []) js (append_snoc before j js ∙ e) in
      let sum = over_both (only p) (λ n. children_from ks n (before ++ j ∷ []) js) 1 all in
      omega (arith, sum, here, later)

  -- where each record that stands within a kind has a parent, those are the records that have one
  one_within : (js : List ℕ) (j : ℕ) (b : Bool) → leb 1 (head_of ks j) ≡ b → (1 ≤ head_of ks j → 1 ≤ parent_of ks js j) → some (parent_of ks js j) ≡ cond b 1 0
  unfolding parent_of
  one_within js j true e has =
      let p = has (leb-true 1 (head_of ks j) e) in
      rw (ne_eqb (parent_of ks js j) 0 (λ z. absurd (omega (arith, z, p))))
  one_within js j false e has = rw e

  parented_within : (before rs : List (List ℕ)) → Each (HasParent ks) before rs → parented (map (kind_in ks) before) (map (kind_in ks) rs) ≡ within_some ks (map (kind_in ks) rs)
  unfolding parented within_some
  parented_within before [] x = refl
  parented_within before (r ∷ rs) x =
      let k = kind_in ks r in
      let js = map (kind_in ks) before in
      let here = one_within js k (leb 1 (head_of ks k)) refl (each_first (HasParent ks) before r rs x) in
      let later = parented_within (before ++ r ∷ []) rs (each_rest (HasParent ks) before r rs x) in
      omega (arith, here, later, ap (λ (l : List ℕ). parented l (map (kind_in ks) rs)) (map-append (kind_in ks) before (r ∷ [])))

-- the entries are those of the records that may have children
module _ (ks : Kinds) (f : List ℕ) where
  total_go : (before js : List ℕ) (j : ℕ) (b : Bool) → may_head ks j ≡ b → child_total (entries_from ks f (before ++ j ∷ []) js) ≡ over ks (children ks f) (suc (length before + 1)) js
      → child_total (entries_from ks f before (j ∷ js)) ≡ over ks (children ks f) (length before + 1) (j ∷ js)
  unfolding child_total entries_from
  total_go before js j true e later = rw e (omega (arith, by_may ks (children ks f) (length before + 1) j js true e, later))
  total_go before js j false e later = rw e (omega (arith, by_may ks (children ks f) (length before + 1) j js false e, later))

  total_over : (before js : List ℕ) → child_total (entries_from ks f before js) ≡ over ks (children ks f) (length before + 1) js
  unfolding child_total entries_from over
  total_over before [] = refl
  total_over before (j ∷ js) =
      let one : length (before ++ j ∷ []) + 1 ≡ suc (length before + 1) = omega (arith, length-append before (j ∷ [])) in
      total_go before js j (may_head ks j) refl (total_over (before ++ j ∷ []) js ∙ ap (λ (i : ℕ). over ks (children ks f) i js) one)

  -- in any file, the children of all entries are the records that have a parent
  pub all_parented : child_total (entries_of ks f) ≡ parented ks [] (kinds_of ks f)
  all_parented = total_over [] (kinds_of ks f) ∙ all_once ks (kinds_of ks f) [] (kinds_of ks f) refl

-- in a file that is right for a proper flow the children of all entries are the records that stand within a kind
pub right_once : (fl : Flow) → Proper fl → (f : List ℕ) (n : ℕ) → RightFor fl f n → child_total (entries_by (layout_for fl) f) ≡ within_some (kinds_for fl) (kinds_of (kinds_for fl) f)
right_once fl proper f n right = all_parented (kinds_for fl) f ∙ parented_within (kinds_for fl) [] (records f) (right_parents fl proper f n right)

-- so in one that is accepted for what is asked, where that is proper
pub asked_once : (a : Asked) → ProperAsked a → (f : List ℕ) (n : ℕ) → judged a f ≡ accepted n
    → (fl : Flow) × (a ≡ a_flow fl) × (child_total (entries_for a f) ≡ within_some (kinds_for fl) (kinds_of (kinds_for fl) f))
asked_once a proper f n e =
    let r = (right_asked f n a proper).0 e in (
      r.flow,
      r.is_held,
      ap (λ (x : Asked). child_total (entries_for x f)) r.is_held ∙ right_once r.flow (subst ProperAsked r.is_held proper) f n r.file,
    )

pub each_child_once : (words f : List ℕ) (n : ℕ) → judged (asked words) f ≡ accepted n
    → (fl : Flow) × (asked words ≡ a_flow fl) × (child_total (entries_for (asked words) f) ≡ within_some (kinds_for fl) (kinds_of (kinds_for fl) f))
each_child_once words f n e = asked_once (asked words) (asked_proper words) f n e
