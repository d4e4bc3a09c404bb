-- `value_of` is right: the words' own refusal is passed on, else the value goes by the flow's table.
use mathlib.Core.Path.{sym, ap, ◌∙◌}
use Rattle.flow.specs.Flows.{flow_at}
use Rattle.flow.specs.Editions.{asked, told}
use Rattle.std.proofs.lemmas.Result.{err_from_is_err_and}
use Rattle.value.proofs.OneValue.{right, no_flow_lem, by_flow}
use Rattle.value.proofs.value_of.Goals as goal

pub returns-in_err-find : goal.returns-in_err-find
returns-in_err-find c =
    let a = c.args in
    let it = asked a.flow.now in
    let p = err_from_is_err_and c.from_residual.result c.from_residual.ensures.1 in
    rw (p.1, p.2) (right it a.f.now a.n a.k
    (no_flow_lem it a.f.now a.n a.k c.in_err-find.field-0.0 (ap told (sym c.in_err-find.was) ∙ c.find.ensures)))

pub returns : goal.returns
returns c =
    let a = c.args in
    let it = asked a.flow.now in
    right it a.f.now a.n a.k
    (by_flow it a.f.now a.n a.k (flow_at c.in_ok-find.field-0) (ap told (sym c.in_ok-find.was) ∙ c.find.ensures) _
    c.table_of-table.ensures c.value_by.ensures)
