-- Each turn shows one byte more.
use Rattle.std.proofs.Common.{◌≡◌, take, map, length}
use Rattle.pointing.specs.Shown.{column_of}
use Rattle.pointing.proofs.columns.Given as goal

abbrev pub invariant-loop-i : goal.invariant-loop-i
invariant-loop-i l = (length l.line ≡ 64) × (take l.i l.line ≡ map column_of (take l.i l.part))
