-- `find_far` is right: from each place that the loop reaches, the run ends where the run from `at` ends.
use Prim.Native.Nat.{◌≤◌, ◌+◌, ◌-◌}
use mathlib.Core.Path.{◌≡◌}
use lib.ListN.{length, drop}
use Rattle.record.specs.Records.{run}
use Rattle.record.proofs.find_far.Given as goal

abbrev pub invariant-loop-eight : goal.invariant-loop-eight
invariant-loop-eight l = (length l.rest ≤ length l.s) × (l.rest ≡ drop (length l.s - length l.rest) l.s)
    × (length l.s - length l.rest + run l.sep l.rest ≡ l.at + run l.sep (drop l.at l.s))

abbrev pub decreases-loop-eight : goal.decreases-loop-eight
decreases-loop-eight l = length l.rest
