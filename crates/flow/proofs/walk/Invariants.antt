-- The walk from the kinds passed on is the walk of the whole. Assumes nothing.
use Prim.Native.Nat.{ℕ, ◌*◌}
use mathlib.Core.Path.{◌≡◌}
use mathlib.Core.List.{List}
use lib.ListN.{drop}
use Rattle.layout.specs.Numbers.{layout_of}
use Rattle.flow.specs.ByTable.{walk_by}
use Rattle.flow.specs.Step.{kinds_in}
use Rattle.flow.proofs.WalkLaws.{walk_from}
use Rattle.flow.proofs.walk.Given as goal

abbrev pub invariant-loop-passed : goal.invariant-loop-passed
invariant-loop-passed l =
    (fixed : List ℕ) → walk_from (layout_of l.t fixed) l.last l.passed (kinds_in (drop (3 * l.passed) l.kinds)) ≡ walk_by (layout_of l.t fixed) (kinds_in l.kinds)
