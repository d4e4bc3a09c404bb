-- The words' own refusal is passed on; else the flow's table decodes to its published layout. Assumes nothing.
use mathlib.Core.Path.{sym, ap, ◌∙◌}
use Rattle.flow.specs.Flows.{flow_at}
use Rattle.flow.specs.Editions.{asked, told}
use Rattle.std.proofs.lemmas.Result.{err_from_is_err_and}
use Rattle.judge.proofs.Flows.{no_flow_lem, by_flow}
use Rattle.judge.proofs.judge.Goals as goal

pub returns-in_err-find : goal.returns-in_err-find
returns-in_err-find c =
    let a = c.args in
    let p = err_from_is_err_and c.from_residual.result c.from_residual.ensures.1 in
    rw (p.1, p.2) (no_flow_lem (asked a.flow.now) a.f.now c.in_err-find.field-0.0 (ap told (sym c.in_err-find.was) ∙ c.find.ensures))

pub returns : goal.returns
returns c =
    let a = c.args in
    by_flow (asked a.flow.now) a.f.now (flow_at c.in_ok-find.field-0) (ap told (sym c.in_ok-find.was) ∙ c.find.ensures) _
    c.table_of-table.ensures c.judge_by.result c.judge_by.ensures
