-- `fill` is right: the cells before its index hold the pattern. Assumes nothing.
use Rattle.std.proofs.Common.{map}
use Rattle.nightly.proofs.Rooms.{Front}
use Rattle.nightly.proofs.room.fill.Given as goal

abbrev pub invariant-loop-i : goal.invariant-loop-i
invariant-loop-i g l = Front (map g.T.Cell.number l.room) l.i
