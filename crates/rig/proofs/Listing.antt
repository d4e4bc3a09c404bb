-- An index read entry by entry. Assumes nothing.
use Prim.Native.Nat.{ℕ, ◌+◌, ◌≤◌}
use mathlib.Core.Path.{◌≡◌, sym, ap, ◌∙◌, subst}
use mathlib.Core.List.{List}
use native.Mathlib.Numerals.{add-one}
use Rattle.index.specs.Code.{kinds_in, advanced, after}
use Rattle.index.specs.declared.Filling.{Filling}
use Rattle.index.proofs.Reading.{in_step}

module _ (t file : List ℕ) (i : ℕ) (s : Filling) (e : s ≡ after (kinds_in t) file i) where
  -- what reading on asks
  pub may_go_on : (s.entries ≤ s.records) × (s.records ≤ s.at)
  may_go_on = subst (λ (x : Filling). (x.entries ≤ x.records) × (x.records ≤ x.at)) (sym e) (in_step (kinds_in t) file i)

  -- the state at the next entry
  pub one_more_lem : (r : Filling) → r ≡ advanced (kinds_in t) file s → r ≡ after (kinds_in t) file (i + 1)
  unfolding after
  one_more_lem r h = rw add-one (h ∙ ap (advanced (kinds_in t) file) e)
