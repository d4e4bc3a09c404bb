-- Why has_byte is right: a byte that equals one of them is held by them.
use mathlib.Core.Path.{◌∙◌}
use Rattle.sheet.proofs.Looking.{holds_any}
use Rattle.sheet.proofs.has_byte.Goals as goal

pub returns : goal.returns
returns c = c.contains.ensures.value ∙ holds_any c.args.b c.args.s.now
