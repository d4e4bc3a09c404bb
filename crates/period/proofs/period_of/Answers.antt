-- Why period_of is right: the judge's number, where it gives one, is read as it is.
use mathlib.Core.Path.{sym, ap, ◌∙◌}
use Rattle.period.proofs.Periods.{number_said, said_period, read_back, fits}
use Rattle.std.specs.Prelude.{Ok}
use Rattle.period.proofs.period_of.Goals as goal

pub overflow_cast-result : goal.overflow_cast-result
overflow_cast-result c = fits c.args.s.now c.in-Ok-Number.z (sym c.judge_period.ensures ∙ c.in-Ok-Number.is ∙ ap Ok c.in-Ok-Number.field-0-is)

pub returns-in-Ok-Number : goal.returns-in-Ok-Number
returns-in-Ok-Number c = read_back c.args.s.now c.in-Ok-Number.z (sym c.judge_period.ensures ∙ c.in-Ok-Number.is ∙ ap Ok c.in-Ok-Number.field-0-is)

pub returns-in-Ok-Empty : goal.returns-in-Ok-Empty
returns-in-Ok-Empty c = ap number_said (sym (c.in-Ok-Empty.is ∙ ap Ok c.in-Ok-Empty.field-0-is) ∙ c.judge_period.ensures) ∙ said_period c.args.s.now

pub returns-in-Ok-Truth : goal.returns-in-Ok-Truth
returns-in-Ok-Truth c = ap number_said (sym (c.in-Ok-Truth.is ∙ ap Ok c.in-Ok-Truth.field-0-is) ∙ c.judge_period.ensures) ∙ said_period c.args.s.now

pub returns-in-Ok-Text : goal.returns-in-Ok-Text
returns-in-Ok-Text c = ap number_said (sym (c.in-Ok-Text.is ∙ ap Ok c.in-Ok-Text.field-0-is) ∙ c.judge_period.ensures) ∙ said_period c.args.s.now

pub returns-in-Err : goal.returns-in-Err
returns-in-Err c = ap number_said (sym c.in-Err.is ∙ c.judge_period.ensures) ∙ said_period c.args.s.now
