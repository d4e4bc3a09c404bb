-- Each return is one test of the calendar.
use mathlib.Core.Path.{refl, sym, ◌∙◌}
use Rattle.findings.proofs.NoDay.{found}
use Rattle.findings.proofs.missing_in.Goals as goal

pub returns-then-not-is_day : goal.returns-then-not-is_day
returns-then-not-is_day c = found _ (sym c.is_day.ensures ∙ c.if-not-is_day.true) refl refl

pub returns-then-not-is_day-2 : goal.returns-then-not-is_day-2
returns-then-not-is_day-2 c = found _ (sym c.is_day.ensures ∙ c.if-not-is_day.false) (sym c.is_day-2.ensures ∙ c.if-not-is_day-2.true) refl

pub returns-then-not-is_date : goal.returns-then-not-is_date
returns-then-not-is_date c =
    found _
    (sym c.is_day.ensures ∙ c.if-not-is_day.false)
    (sym c.is_day-2.ensures ∙ c.if-not-is_day-2.false)
    (sym c.is_date.ensures ∙ c.if-not-is_date.true)

pub returns : goal.returns
returns c =
    found _
    (sym c.is_day.ensures ∙ c.if-not-is_day.false)
    (sym c.is_day-2.ensures ∙ c.if-not-is_day-2.false)
    (sym c.is_date.ensures ∙ c.if-not-is_date.false)
