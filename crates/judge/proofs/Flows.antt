-- The public judge, by what is asked. Assumes nothing.
use mathlib.Core.Path.{◌≡◌, ap, ◌∙◌}
use mathlib.Core.List.{List}
use Prim.Native.Nat.{ℕ}
use Rattle.place.specs.declared.Refusal.{Refusal}
use Rattle.layout.specs.Layout.{Layout}
use Rattle.flow.specs.Publication.{Flow, layout_for}
use Rattle.flow.specs.Editions.{Asked, a_flow, no_flow}
use Rattle.judge.specs.File.{placed_by, judged_for, paper, judged}
use Rattle.std.specs.Prelude.{Result, Err}

module _ (a : Asked) (f : List ℕ) where
  pub no_flow_lem : (r : Refusal) → no_flow r ≡ a → paper (Err r) ≡ judged a f
  unfolding judged judged_for
  no_flow_lem r e = ap (λ (x : Asked). paper (judged_for x f)) e

  pub by_flow : (fl : Flow) → a_flow fl ≡ a → (l : Layout) → l ≡ layout_for fl → (j : Result ℕ Refusal) → j ≡ placed_by l f → paper j ≡ judged a f
  unfolding judged judged_for
  by_flow fl e l is j w = ap paper (w ∙ ap (λ (x : Layout). placed_by x f) is) ∙ ap (λ (x : Asked). paper (judged_for x f)) e
