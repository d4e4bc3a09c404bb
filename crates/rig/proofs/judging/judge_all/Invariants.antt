-- The tally counts the files of the words before the next.
use Rattle.std.proofs.Common.{◌≡◌, ◌+◌}
use Rattle.rig.proofs.judging.judge_all.Given as goal

abbrev pub invariant-loop-i : goal.invariant-loop-i
invariant-loop-i g l = l.t.accepted + l.t.refused + l.t.unread + 3 ≡ l.i
