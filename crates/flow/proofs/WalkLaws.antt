-- One step of the walk over bytes. Assumes nothing.
use Prim.Native.Nat.{ℕ, ◌+◌, ◌*◌, ◌<◌, ◌≤◌}
use mathlib.Core.Path.{◌≡◌, refl, sym, ap, ◌∙◌}
use mathlib.Core.Bool.{true, false}
use mathlib.Core.List.{List, ◌∷◌}
use native.Mathlib.Numerals.{add-one}
use native.Mathlib.Omega.{arith}
use borrow.Author.Tests.{ne_eqb}
use lib.ListN.{length, take, drop}
use Rattle.layout.specs.Layout.{Layout, find, kind_named, may_follow}
use Rattle.layout.specs.Numbers.{layout_of}
use Rattle.grammar.specs.Table.{row_of, table_walk}
use Rattle.std.specs.Prelude.{Result, Ok, Err}
use Rattle.flow.specs.ByTable.{kind_names, from_one}
use Rattle.flow.specs.Step.{kinds_in}
use Rattle.flow.proofs.KindsIn.{kinds_first, kinds_end}

-- a kind's row among the names is the layout's
pub row_is_kind : (l : Layout) (k : List ℕ) → row_of (kind_names l) k ≡ kind_named l k
unfolding find
row_is_kind l k = refl

-- the walk from kind last on, with i kinds passed
abbrev pub walk_from : Layout → ℕ → ℕ → List (List ℕ) → Result ℕ ℕ
walk_from l last i ks = from_one (table_walk (kind_names l) (may_follow l) last i ks)

-- the first of some kinds stops the walk or lets it go on
module _ (l : Layout) (last i : ℕ) (k : List ℕ) (ks : List (List ℕ)) (q : ℕ) (named : kind_named l k ≡ q) where
  pub stops_foreign : q ≡ 0 → walk_from l last i (k ∷ ks) ≡ Err (i + 1)
  stops_foreign z = rw (row_is_kind l k, named, z, add-one)

  pub stops_refused : (q ≡ 0 → ⊥) → may_follow l last q ≡ false → walk_from l last i (k ∷ ks) ≡ Err (i + 1)
  stops_refused z e = rw (row_is_kind l k, named, ne_eqb _ _ z, e, add-one)

  pub goes_on : (q ≡ 0 → ⊥) → may_follow l last q ≡ true → walk_from l q (i + 1) ks ≡ walk_from l last i (k ∷ ks)
  goes_on z e = rw (row_is_kind l k, named, ne_eqb _ _ z, e, add-one)

-- the same of the kinds in bytes, so many passed and three bytes to each
module _ (t fixed s : List ℕ) (last passed : ℕ) where
  abbrev l : Layout
  l = layout_of t fixed

  abbrev here : Result ℕ ℕ
  here = walk_from l last passed (kinds_in (drop (3 * passed) s))

  abbrev name : List ℕ
  name = take 3 (drop (3 * passed) s)

  abbrev later : List (List ℕ)
  later = kinds_in (drop (3 * passed + 3) s)

  pub walk_foreign : 3 * passed < length s → kind_named l name ≡ 0 → here ≡ Err (passed + 1)
  walk_foreign h n = ap (walk_from l last passed) (kinds_first s (3 * passed) h) ∙ stops_foreign l last passed name later 0 n refl

  pub walk_refused : 3 * passed < length s → (k : ℕ) → kind_named l name ≡ k → (k ≡ 0 → ⊥) → may_follow l last k ≡ false
      → here ≡ Err (passed + 1)
  walk_refused h k n z e = ap (walk_from l last passed) (kinds_first s (3 * passed) h) ∙ stops_refused l last passed name later k n z e

  pub walk_next : 3 * passed < length s → (k : ℕ) → kind_named l name ≡ k → (k ≡ 0 → ⊥) → may_follow l last k ≡ true
      → walk_from l k (passed + 1) (kinds_in (drop (3 * (passed + 1)) s)) ≡ here
  walk_next h k n z e =
      let far : 3 * (passed + 1) ≡ 3 * passed + 3 = omega arith in
      rw far (goes_on l last passed name later k n z e ∙ sym (ap (walk_from l last passed) (kinds_first s (3 * passed) h)))

  pub walk_end : length s ≤ 3 * passed → here ≡ Ok last
  walk_end h = ap (walk_from l last passed) (kinds_end s (3 * passed) h)
