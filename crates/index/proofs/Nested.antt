-- In an accepted file each record that stands within a kind has a parent: a record of that kind stands before it. Assumes nothing.
use Prim.Native.Nat.{ℕ, zero, suc, ◌+◌, ◌≤◌, ◌<◌}
use mathlib.Core.Path.{◌≡◌, refl, sym, ap, ◌∙◌, subst}
use mathlib.Core.Bool.{Bool, true, false, not, ◌||◌}
use mathlib.Core.Logic.{◌⊎◌, inl, inr}
use mathlib.Core.List.{List, [], ◌∷◌, ◌++◌, map, map-append}
use native.Mathlib.Omega.{arith}
use lib.Dec.{T, eqb, eqb→eq}
use lib.ListN.{length, get_or, drop, length-map, get_or-map}
use borrow.Author.Tests.{eqb-true, eqb-false}
use Rattle.text.specs.Places.{each}
use Rattle.text.proofs.Places.{each_at, place_most}
use Rattle.text.proofs.Tests.{or_cases, or_second}
use Rattle.record.specs.Records.{records, field, bar}
use Rattle.layout.specs.Layout.{KindRow, Layout, blank, row, row_names, find, among, may_follow}
use Rattle.flow.specs.Publication.{Flow, layout_for}
use Rattle.flow.specs.Editions.{Asked, a_flow, asked}
use Rattle.flow.specs.Proper.{heads, nests, Proper}
use Rattle.flow.proofs.Proper.{ProperAsked}
use Rattle.flow.proofs.Asking.{asked_proper}
use Rattle.fault.specs.Record.{kind_of}
use Rattle.judge.specs.Record.{last_kind}
use Rattle.judge.specs.File.{judged, accepted}
use Rattle.judge.specs.Right.{RightFor}
use Rattle.judge.proofs.Files.{last_snoc}
use Rattle.judge.proofs.RightEach.{Each, each_none, each_cons, each_first, each_rest}
use Rattle.judge.proofs.RightKinds.{Placed, under_placed}
use Rattle.judge.proofs.Demand2.{right_asked}
use Rattle.index.specs.Entries.{Kinds, kinds_by, kinds_for, kind_in, head_of, last_of, parent_of}
use Rattle.index.proofs.Children.{last_same, last_other, parent_found}

module _ (ks : Kinds) where
  -- the kind within which k stands, the kind within which that stands, and so on n times
  unfoldable up : ℕ → ℕ → ℕ
  up zero k = k
  up (suc n) k = up n (head_of ks k)

  up_up : (m n k : ℕ) → up n (up m k) ≡ up (m + n) k
  unfolding up
  up_up zero n k =
      let e : n ≡ 0 + n = omega arith in
      ap (λ (t : ℕ). up t k) e
  up_up (suc m) n k =
      let e : suc (m + n) ≡ suc m + n = omega arith in
      up_up m n (head_of ks k) ∙ ap (λ (t : ℕ). up t k) e

  -- of k and of each kind above it there is a record among these
  abbrev Seen : List ℕ → ℕ → Type 0
  Seen js k = (n : ℕ) → 1 ≤ up n k → 1 ≤ last_of (up n k) js

  still : (h j : ℕ) (js : List ℕ) → 1 ≤ last_of h js → 1 ≤ last_of h (js ++ j ∷ [])
  still h j js s = go (eqb j h) refl
    where
      go : (b : Bool) → eqb j h ≡ b → 1 ≤ last_of h (js ++ j ∷ [])
      go true e = omega (arith, last_same h js j (eqb-true j h e))
      go false e = omega (arith, last_other h js j (eqb-false j h e), s)

  -- so with one more record, whose kind stands within such a kind
  seen_next : (js : List ℕ) (p j m : ℕ) → up m p ≡ head_of ks j → Seen js p → Seen (js ++ j ∷ []) j
  unfolding up
  seen_next js p j m e s zero real = omega (arith, last_same j js j refl)
  seen_next js p j m e s (suc n) real =
      let same = ap (up n) (sym e) ∙ up_up m n p in
      still (up n (head_of ks j)) j js (omega (arith, s (m + n) (omega (arith, real, same)), ap (λ (h : ℕ). last_of h js) same))

  -- a record that stands within a kind has a parent
  abbrev pub HasParent : List (List ℕ) → List ℕ → Type 0
  HasParent before r = 1 ≤ head_of ks (kind_in ks r) → 1 ≤ parent_of ks (map (kind_in ks) before) (kind_in ks r)

  seen_parent : (js : List ℕ) (p j m : ℕ) → up m p ≡ head_of ks j → Seen js p → 1 ≤ head_of ks j → 1 ≤ parent_of ks js j
  seen_parent js p j m e s real = omega (arith, parent_found ks js j real, s m (omega (arith, e, real)), ap (λ (h : ℕ). last_of h js) e)

module _ (fl : Flow) (proper : Proper fl) where
  abbrev l : Layout
  l = layout_for fl

  abbrev ks : Kinds
  ks = kinds_for fl

  kind_same : (r : List ℕ) → kind_of bar l r ≡ kind_in ks r
  unfolding kinds_by find
  kind_same r = refl

  kind_short : (r : List ℕ) → kind_in ks r < length l.rows
  unfolding kinds_by
  kind_short r = omega (arith, place_most (field bar 1 r) (row_names (drop 1 l.rows)), length-map (drop 1 l.rows) (λ (q : KindRow). q.name))

  head_is : (j : ℕ) → (get_or l.rows j blank).head ≡ head_of ks j
  unfolding kinds_by
  head_is j = sym (get_or-map (λ (q : KindRow). q.head) l.rows j blank)

  -- what heads the set that a kind stands in, so many sets deep, is one of the kinds above it
  heads_go : (n h k : ℕ) → (T (heads l n h (row l k).head) → (m : ℕ) × (up ks m (row l k).head ≡ h)) → T (eqb k h) ⊎ T (heads l n h (row l k).head)
      → (m : ℕ) × (up ks m k ≡ h)
  unfolding up
  heads_go n h k ih (inl t) = (0, eqb→eq k h t)
  heads_go n h k ih (inr t) = (suc (ih t).0, ap (up ks (ih t).0) (sym (head_is k)) ∙ (ih t).1)

  heads_up : (n h k : ℕ) → T (heads l n h k) → (m : ℕ) × (up ks m k ≡ h)
  unfolding up heads
  heads_up zero h k t = (0, eqb→eq k h t)
  heads_up (suc n) h k t = heads_go n h k (heads_up n h (row l k).head) (or_cases (eqb k h) (heads l n h (row l k).head) t)

  follows_within : (p j : ℕ) → p < length l.rows → j < length l.rows → may_follow l p j ≡ true → (m : ℕ) × (up ks m p ≡ head_of ks j)
  unfolding nests
  follows_within p j hp hj e =
      let rows = l.rows in
      let nested : T (nests l) = subst T (sym proper.nested) tt in
      let t = each_at (λ p r. each (λ j q. not (among j r.next) || heads l 8 q.head p) 0 rows) blank 0 rows nested p p hp (omega arith) in
      let u = each_at (λ j q. not (among j (get_or rows p blank).next) || heads l 8 q.head p) blank 0 rows t j j hj (omega arith) in
      let v = heads_up 8 (get_or rows j blank).head p (or_second (not (may_follow l p j)) _ (λ n. rw e at n) u) in
      (v.0, v.1 ∙ head_is j)

  none_above : (n : ℕ) → up ks n 0 ≡ 0
  unfolding up kinds_by
  none_above zero = refl
  none_above (suc n) = none_above n

  all_parents : (before rs : List (List ℕ)) (p : ℕ) → last_kind bar l before ≡ p → p < length l.rows → Seen ks (map (kind_in ks) before) p
      → Each (Placed l) before rs → Each (HasParent ks) before rs
  all_parents before [] p is short s x = each_none (HasParent ks) before
  all_parents before (r ∷ rs) p is short s x =
      let k = kind_in ks r in
      let js = map (kind_in ks) before in
      let placed = each_first (Placed l) before r rs x in
      let m = follows_within p k short (kind_short r) (ap (λ (q : ℕ). may_follow l q k) (sym is) ∙ ap (may_follow l (last_kind bar l before)) (sym (kind_same r)) ∙ placed.follows) in
      each_cons (HasParent ks) before r rs (seen_parent ks js p k m.0 m.1 s)
      (all_parents (before ++ r ∷ []) rs k (last_snoc bar l before r ∙ kind_same r) (kind_short r)
      (rw (map-append (kind_in ks) before (r ∷ [])) (seen_next ks js p k m.0 m.1 s))
      (each_rest (Placed l) before r rs x))

  from_start : (rs : List (List ℕ)) → Each (Placed l) [] rs → Each (HasParent ks) [] rs
  unfolding last_kind
  from_start rs x = all_parents [] rs 0 refl (omega arith) (λ n real. absurd (omega (arith, real, none_above n))) x

-- in a file that is right for a proper flow
pub right_parents : (fl : Flow) → Proper fl → (f : List ℕ) (n : ℕ) → RightFor fl f n → Each (HasParent (kinds_for fl)) [] (records f)
right_parents fl proper f n right = from_start fl proper (records f) (under_placed fl proper.agree proper.some (records f) right.grammar)

-- so in one that is accepted for what is asked, where that is proper
pub asked_parents : (a : Asked) → ProperAsked a → (f : List ℕ) (n : ℕ) → judged a f ≡ accepted n
    → (fl : Flow) × (a ≡ a_flow fl) × Each (HasParent (kinds_for fl)) [] (records f)
asked_parents a proper f n e =
    let r = (right_asked f n a proper).0 e in
    (r.flow, r.is_held, right_parents r.flow (subst ProperAsked r.is_held proper) f n r.file)

pub has_parent : (words f : List ℕ) (n : ℕ) → judged (asked words) f ≡ accepted n
    → (fl : Flow) × (asked words ≡ a_flow fl) × Each (HasParent (kinds_for fl)) [] (records f)
has_parent words f n e = asked_parents (asked words) (asked_proper words) f n e
