-- Why line_count is right: each call of next passes one of the lines.
use Rattle.sheet.proofs.Looking.{lines_counted}
use Rattle.sheet.proofs.line_count.Goals as goal

pub returns : goal.returns
returns c = lines_counted c.args.sheet.now c.of.result c.count.result c.of.ensures.0 c.of.ensures.1 c.count.ensures.ran
