-- `answer_of` is right: it says what `begin` says, which gives no more entries than there is room for.
use Rattle.index.proofs.Stored.{count_fits}
use Rattle.viewer.proofs.answer_of.Goals as goal

pub returns : goal.returns
returns c = (c.begin.ensures, count_fits _ _ 8 c.begin.result c.begin.ensures)
