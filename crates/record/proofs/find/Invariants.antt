-- `find` is right: from each place that the loop reaches, the run ends where the run from `at` ends.
use Prim.Native.Nat.{◌+◌}
use mathlib.Core.Path.{◌≡◌}
use lib.ListN.{drop}
use Rattle.record.specs.Records.{run}
use Rattle.record.proofs.find.Given as goal

abbrev pub invariant-loop-i : goal.invariant-loop-i
invariant-loop-i l = l.i + run l.sep (drop l.i l.s) ≡ l.at + run l.sep (drop l.at l.s)
