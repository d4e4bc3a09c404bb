-- Why put_decimal is right: the digits put and those of what is left are the number's.
use Rattle.sheet.proofs.Numerals.{PutSoFar}
use Rattle.sheet.proofs.put_decimal.Given as goal

abbrev pub invariant-loop-rest : goal.invariant-loop-rest
invariant-loop-rest l = PutSoFar l.initial.out l.out l.end l.v l.rest l.i

abbrev pub decreases-loop-rest : goal.decreases-loop-rest
decreases-loop-rest l = l.rest
