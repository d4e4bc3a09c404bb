-- The loop keeps that the bytes before an index are shown, and that the answer hangs on those from it on. Assumes nothing.
use Rattle.legible.proofs.Showing.{Showing}
use Rattle.legible.proofs.show.Given as goal

abbrev pub invariant-loop-b : goal.invariant-loop-b
invariant-loop-b l = Showing l.s l.initial.out l.out l.b-index l.n
