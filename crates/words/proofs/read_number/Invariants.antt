-- What is read before an index and the bytes from it on give the answer of the whole. Assumes nothing.
use Rattle.words.proofs.Digits.{ReadTo}
use Rattle.words.proofs.read_number.Given as goal

abbrev pub invariant-loop-b : goal.invariant-loop-b
invariant-loop-b l = ReadTo l.most l.limit l.s l.b-index l.n
