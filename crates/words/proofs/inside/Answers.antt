-- The front is taken off, then the end. Assumes nothing.
use Rattle.words.proofs.Insides.{not_begun, ended}
use Rattle.words.proofs.inside.Goals as goal

pub returns-in_err-strip_prefix : goal.returns-in_err-strip_prefix
returns-in_err-strip_prefix c = rw c.from_residual.ensures (not_begun c.args.name.now c.args.s.now c.in_err-strip_prefix.ensures.cases)

pub returns : goal.returns
returns c =
    let begun = c.in_ok-strip_prefix.ensures.cases in
    ended c.args.name.now c.args.s.now c.requires begun.0 c.in_ok-strip_prefix.field-0 begun.1 c.strip_suffix.result c.strip_suffix.ensures.cases
