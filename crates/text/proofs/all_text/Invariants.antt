-- The classes passed so far are below 2 where their bytes are text. Assumes nothing.
use Rattle.text.proofs.Classes.{Seen}
use Rattle.text.proofs.all_text.Given as goal

abbrev pub invariant-loop-b : goal.invariant-loop-b
invariant-loop-b l = Seen l.s l.seen l.b-index
