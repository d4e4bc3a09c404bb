-- The parent entry by the last entries of each kind. Assumes nothing.
use Prim.Native.Nat.{ℕ}
use mathlib.Core.Path.{◌≡◌}
use mathlib.Core.List.{List}
use lib.ListN.{get_or}
use borrow.Author.Tests.{eq-eqb, ne_eqb}
use Rattle.index.specs.Code.{parent_in}

module _ (last : List ℕ) (h own : ℕ) where
  pub no_entry : get_or last h 0 ≡ 0 → own ≡ parent_in last h own
  unfolding parent_in
  no_entry e = rw (eq-eqb (get_or last h 0) 0 e)

  pub an_entry : (get_or last h 0 ≡ 0 → ⊥) → get_or last h 0 ≡ parent_in last h own
  unfolding parent_in
  an_entry e = rw (ne_eqb (get_or last h 0) 0 e)
