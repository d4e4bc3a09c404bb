-- `kept` is right: whether the cells passed hold the pattern, and those left, is whether all do. Assumes nothing.
use Rattle.std.proofs.Common.{◌≡◌, ◌&&◌, drop, map}
use Rattle.nightly.specs.Room.{patterned}
use Rattle.nightly.proofs.room.kept.Given as goal

abbrev pub invariant-loop-i : goal.invariant-loop-i
invariant-loop-i g l = l.all && patterned l.i (drop l.i (map g.T.Cell.number l.room)) ≡ patterned l.at (drop l.at (map g.T.Cell.number l.room))
