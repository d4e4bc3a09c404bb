-- Why given_size is right: a byte that is kept gives one.
use mathlib.Core.Path.{sym, ap, ◌∙◌}
use lib.ListN.{length}
use Rattle.rfc4180.proofs.Steps.{given_one, given_none}
use Rattle.rfc4180.proofs.given_size.Goals as goal

pub returns-then-keeps : goal.returns-then-keeps
returns-then-keeps c =
    let a = c.args in
    sym (ap length (given_one a.st a.b (sym c.keeps.ensures ∙ c.if-keeps.true)))

pub returns-else-keeps : goal.returns-else-keeps
returns-else-keeps c =
    let a = c.args in
    sym (ap length (given_none a.st a.b (sym c.keeps.ensures ∙ c.if-keeps.false)))
