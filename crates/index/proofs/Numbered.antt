-- Entries are numbered by their place in the file's order, and a parent entry is the entry of the parent's record. Assumes nothing.
use Prim.Native.Nat.{ℕ, zero, suc, ◌+◌, ◌-◌, ◌≤◌, ◌<◌}
use mathlib.Core.Path.{◌≡◌, refl, sym, ap, ◌∙◌, subst}
use mathlib.Core.Bool.{Bool, true, false, cond}
use mathlib.Core.Logic.{◌⊎◌, inl, inr}
use mathlib.Core.List.{List, [], ◌∷◌, ◌++◌, append-nil}
use native.Mathlib.Omega.{arith}
use lib.ListN.{length, get_or, take}
use lib.Seq.{append_snoc, get_or-take, take-take, length-take-le}
use borrow.Author.Tests.{eq-eqb, ne_eqb}
use Rattle.index.specs.declared.Entry.{Entry}
use Rattle.index.specs.Entries.{Kinds, kinds_of, head_of, may_head, heads_in, parent_of, parent_entry, entry_after, entries_from, entries_of}
use Rattle.index.specs.Code.{entry_at}
use Rattle.index.specs.Whole.{kind_at, parent_at}
use Rattle.index.proofs.Children.{last_is, parent_le, parent_kind}
use Rattle.index.proofs.Reading.{head_may}
use Rattle.index.proofs.Once.{parent_head}

module _ (ks : Kinds) where
  by_may : (j : ℕ) (js : List ℕ) (b : Bool) → may_head ks j ≡ b → heads_in ks (j ∷ js) ≡ cond b 1 0 + heads_in ks js
  unfolding heads_in
  by_may j js b e = rw e

  -- the records up to one that may have children are one more such than those before it
  heads_next : (js : List ℕ) (q : ℕ) → q < length js → may_head ks (get_or js q 0) ≡ true → heads_in ks (take (suc q) js) ≡ heads_in ks (take q js) + 1
  unfolding heads_in
  heads_next [] q h e = absurd (omega (arith, h))
  heads_next (j ∷ js) zero h e = omega (arith, by_may j [] true e)
  heads_next (j ∷ js) (suc q) h e = omega (arith, heads_next js q (omega (arith, h)) e)

  heads_le : (js : List ℕ) (n : ℕ) → heads_in ks (take n js) ≤ heads_in ks js
  unfolding heads_in
  heads_le js zero = omega arith
  heads_le [] (suc n) = omega arith
  heads_le (j ∷ js) (suc n) = omega (arith, heads_le js n)

module _ (ks : Kinds) (f : List ℕ) where
  abbrev from : List ℕ → List ℕ → List Entry
  from before js = entries_from ks f before js

  enters : (before js : List ℕ) (j : ℕ) → may_head ks j ≡ true → from before (j ∷ js) ≡ entry_after ks f before j ∷ from (before ++ j ∷ []) js
  unfolding entries_from
  enters before js j e = rw e

  passes : (before js : List ℕ) (j : ℕ) → may_head ks j ≡ false → from before (j ∷ js) ≡ from (before ++ j ∷ []) js
  unfolding entries_from
  passes before js j e = rw e

  -- the entry of a record that may have children stands behind those of the records before it
  later_go : (before js : List ℕ) (j q : ℕ) (b : Bool) → may_head ks j ≡ b
      → entry_at (from (before ++ j ∷ []) js) (heads_in ks (take q js)) ≡ entry_after ks f (before ++ j ∷ take q js) (get_or js q 0)
      → entry_at (from before (j ∷ js)) (heads_in ks (j ∷ take q js)) ≡ entry_after ks f (before ++ j ∷ take q js) (get_or js q 0)
  later_go before js j q true e ih =
      let n = heads_in ks (take q js) in
      let next : heads_in ks (j ∷ take q js) ≡ suc n = omega (arith, by_may ks j (take q js) true e) in
      (λ i. entry_at (enters before js j e i) (next i)) ∙ ih
  later_go before js j q false e ih =
      let n = heads_in ks (take q js) in
      let next : heads_in ks (j ∷ take q js) ≡ n = omega (arith, by_may ks j (take q js) false e) in
      (λ i. entry_at (passes before js j e i) (next i)) ∙ ih

  stands : (before js : List ℕ) (q : ℕ) → q < length js → may_head ks (get_or js q 0) ≡ true
      → entry_at (from before js) (heads_in ks (take q js)) ≡ entry_after ks f (before ++ take q js) (get_or js q 0)
  unfolding heads_in
  stands before [] q h e = absurd (omega (arith, h))
  stands before (j ∷ js) zero h e =
      ap (λ (es : List Entry). entry_at es 0) (enters before js j e) ∙ ap (λ (b : List ℕ). entry_after ks f b j) (sym (append-nil before))
  stands before (j ∷ js) (suc q) h e =
      later_go before js j q (may_head ks j) refl
      (stands (before ++ j ∷ []) js q (omega (arith, h)) e ∙ ap (λ (b : List ℕ). entry_after ks f b (get_or js q 0)) (append_snoc before j (take q js)))

  -- and there is no other entry: the record of entry i
  record Of (js : List ℕ) (i : ℕ) : Type 0 where
    q : ℕ
    short : q < length js
    may : may_head ks (get_or js q 0) ≡ true
    place : i ≡ heads_in ks (take q js)

  of_later : (j : ℕ) (js : List ℕ) (i m : ℕ) (b : Bool) → may_head ks j ≡ b → i ≡ cond b 1 0 + m → Of js m → Of (j ∷ js) i
  of_later j js i m b e is x =
      record {
        q = suc x.q;
        short = omega (arith, x.short);
        may = x.may;
        place = omega (arith, is, x.place, by_may ks j (take x.q js) b e);
      }

  of_go : (before js : List ℕ) (j i : ℕ) (b : Bool) → may_head ks j ≡ b → ((m : ℕ) → m < length (from (before ++ j ∷ []) js) → Of js m)
      → i < length (from before (j ∷ js)) → Of (j ∷ js) i
  unfolding heads_in
  of_go before js j zero true e ih h = record { q = 0; short = omega arith; may = e; place = refl }
  of_go before js j (suc i) true e ih h = of_later j js (suc i) i true e (omega arith) (ih i (omega (arith, h, ap length (enters before js j e))))
  of_go before js j i false e ih h = of_later j js i i false e (omega arith) (ih i (omega (arith, h, ap length (passes before js j e))))

  of : (before js : List ℕ) (i : ℕ) → i < length (from before js) → Of js i
  unfolding entries_from
  of before [] i h = absurd (omega (arith, h))
  of before (j ∷ js) i h = of_go before js j i (may_head ks j) refl (of (before ++ j ∷ []) js) h

  abbrev js : List ℕ
  js = kinds_of ks f

  abbrev es : List Entry
  es = entries_of ks f

  numbered : (q : ℕ) → q < length js → may_head ks (get_or js q 0) ≡ true → (entry_at es (heads_in ks (take (suc q) js) - 1)).«record» ≡ suc q
  numbered q h may =
      let before : heads_in ks (take (suc q) js) - 1 ≡ heads_in ks (take q js) = omega (arith, heads_next ks js q h may) in
      let here : (entry_at es (heads_in ks (take (suc q) js) - 1)).«record» ≡ length (take q js) + 1 =
      ap (λ (i : ℕ). (entry_at es i).«record») before ∙ ap (λ (e : Entry). e.«record») (stands [] js q h may) in
      omega (arith, here, length-take-le q js (omega (arith, h)))

  -- the entry of record n, which may have children, is the one whose number, counted from 1, is that of such records up to n
  pub entry_numbered : (n : ℕ) → 1 ≤ n → n ≤ length (kinds_of ks f) → may_head ks (kind_at ks f n) ≡ true
      → (entry_at (entries_of ks f) (heads_in ks (take n (kinds_of ks f)) - 1)).«record» ≡ n
  entry_numbered zero some h may = absurd (omega (arith, some))
  entry_numbered (suc q) some h may =
      let same : suc q - 1 ≡ q = omega arith in
      numbered q (omega (arith, h)) (ap (λ (i : ℕ). may_head ks (get_or js i 0)) (sym same) ∙ may)

  -- what the parent of the entry at place own is, by the parent p of its record
  abbrev ParentIs : ℕ → ℕ → ℕ → Type 0
  ParentIs own parent p = ((p ≡ 0) × (parent ≡ own + 1)) ⊎ (((entry_at es (parent - 1)).«record» ≡ p) × (1 ≤ parent) × (parent ≤ own))

  no_parent : (before : List ℕ) (k : ℕ) → parent_of ks before k ≡ 0 → parent_entry ks before k ≡ heads_in ks before + 1
  unfolding parent_entry
  no_parent before k e = rw (eq-eqb (parent_of ks before k) 0 e)

  a_parent : (before : List ℕ) (k r : ℕ) → parent_of ks before k ≡ suc r → parent_entry ks before k ≡ heads_in ks (take (suc r) before)
  unfolding parent_entry
  a_parent before k r e = rw (e, ne_eqb (suc r) 0 (λ z. absurd (omega (arith, z))))

  by_parent : (q k p : ℕ) → q < length js → parent_of ks (take q js) k ≡ p → ParentIs (heads_in ks (take q js)) (parent_entry ks (take q js) k) p
  by_parent q k zero h e = inl (refl, no_parent (take q js) k e)
  by_parent q k (suc r) h e =
      let before = take q js in
      let long = length-take-le q js (omega (arith, h)) in
      let short : r < q = omega (arith, e, parent_le ks before k, long) in
      let kind = sym (get_or-take q js r 0 short) ∙ last_is (head_of ks k) before r (parent_kind ks before k r e) in
      let may = ap (may_head ks) kind ∙ head_may ks k (parent_head ks before k r e) in
      let parent = a_parent before k r e ∙ ap (heads_in ks) (take-take (suc r) q js short) in
      let next = heads_next ks js r (omega (arith, short, h)) may in
      let most = heads_le ks before (suc r) in
      inr (
        ap (λ (i : ℕ). (entry_at es (i - 1)).«record») parent ∙ numbered r (omega (arith, short, h)) may,
        omega (arith, parent, next),
        omega (arith, a_parent before k r e, most),
      )

  -- where its record has no parent, an entry is its own parent; else its parent is the entry of the parent's record, and stands before it
  pub parent_is_entry : (i : ℕ) → i < length (entries_of ks f)
      → ((parent_at ks f (entry_at (entries_of ks f) i).«record» ≡ 0) × ((entry_at (entries_of ks f) i).parent ≡ i + 1))
      ⊎ (((entry_at (entries_of ks f) ((entry_at (entries_of ks f) i).parent - 1)).«record» ≡ parent_at ks f (entry_at (entries_of ks f) i).«record»)
      × (1 ≤ (entry_at (entries_of ks f) i).parent)
      × ((entry_at (entries_of ks f) i).parent ≤ i))
  parent_is_entry i h =
      let x = of [] js i h in
      let q = x.q in
      let k = get_or js q 0 in
      let here : entry_at es i ≡ entry_after ks f (take q js) k = ap (entry_at es) x.place ∙ stands [] js q x.short x.may in
      let number : (entry_at es i).«record» - 1 ≡ q = omega (arith, ap (λ (e : Entry). e.«record») here, length-take-le q js (omega (arith, x.short))) in
      let parent : (entry_at es i).parent ≡ parent_entry ks (take q js) k = ap (λ (e : Entry). e.parent) here in
      let record_is : parent_at ks f (entry_at es i).«record» ≡ parent_of ks (take q js) k = ap (λ (n : ℕ). parent_of ks (take n js) (get_or js n 0)) number in
      subst (λ (p : ℕ). ParentIs i (entry_at es i).parent p) (sym record_is)
      (subst (λ (m : ℕ). ParentIs i m (parent_of ks (take q js) k)) (sym parent)
      (subst (λ (o : ℕ). ParentIs o (parent_entry ks (take q js) k) (parent_of ks (take q js) k)) (sym x.place)
      (by_parent q k (parent_of ks (take q js) k) x.short refl)))

  parent_within : (own parent p : ℕ) → ParentIs own parent p → (1 ≤ parent) × (parent ≤ own + 1)
  parent_within own parent p (inl x) = (omega (arith, x.1), omega (arith, x.1))
  parent_within own parent p (inr x) = (x.1, omega (arith, x.2))

  -- so it is an entry, and never stands behind its child
  pub parents_before : (i : ℕ) → i < length (entries_of ks f) → (1 ≤ (entry_at (entries_of ks f) i).parent) × ((entry_at (entries_of ks f) i).parent ≤ i + 1)
  parents_before i h = parent_within i (entry_at es i).parent (parent_at ks f (entry_at es i).«record») (parent_is_entry i h)
