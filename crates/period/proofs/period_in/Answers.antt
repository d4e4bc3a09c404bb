-- Why period_in is right: the kind first, then field 2.
use mathlib.Core.Path.{sym, ap, ◌∙◌}
use Rattle.period.specs.Answer.{period_of, has_a_period, period_in}
use Rattle.period.proofs.period_in.Goals as goal

pub returns-then-not-has_a_period : goal.returns-then-not-has_a_period
unfolding period_in
returns-then-not-has_a_period c =
    let kind = c.part.ensures in
    rw (ap has_a_period (sym kind) ∙ sym c.has_a_period.ensures ∙ c.if-not-has_a_period.true)

pub returns : goal.returns
unfolding period_in
returns c =
    let kind = c.part.ensures in
    rw (ap has_a_period (sym kind) ∙ sym c.has_a_period.ensures ∙ c.if-not-has_a_period.false)
    (c.period_of.ensures ∙ ap period_of c.part-2.ensures)
