-- The bytes that are left fall. Assumes nothing.
use Rattle.std.proofs.Common.{length}
use Rattle.stream.proofs.calls.write_whole.Given as goal

abbrev pub decreases-loop-left : goal.decreases-loop-left
decreases-loop-left g l = length l.left
