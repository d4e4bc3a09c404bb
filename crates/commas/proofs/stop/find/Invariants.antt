-- What stops the walk from i on stops it from the start on.
use mathlib.Core.Path.{◌≡◌}
use lib.ListN.{drop}
use Rattle.commas.specs.Stopping.{stop_from, stop_in}
use Rattle.commas.proofs.stop.find.Given as goal

abbrev pub invariant-loop-i : goal.invariant-loop-i
invariant-loop-i l = stop_from l.st l.i l.mark (drop l.i l.text) ≡ stop_in l.text l.from
