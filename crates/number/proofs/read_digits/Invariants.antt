-- The bytes passed were digits where marks is small, and the number so far then goes on to the whole number. Assumes nothing.
use Rattle.number.proofs.OnePass.{Passed}
use Rattle.number.proofs.read_digits.Given as goal

abbrev pub invariant-loop-byte : goal.invariant-loop-byte
invariant-loop-byte l = Passed l.v l.d l.n l.marks l.byte-index
