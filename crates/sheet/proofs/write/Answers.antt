-- Why write is right: the words' own refusal is passed on; else the flow's table decodes to its published layout, whose footer is proper.
use mathlib.Core.Path.{sym, ap, ◌∙◌, subst}
use Rattle.std.proofs.lemmas.Result.{err_from_is_err_and}
use Rattle.flow.specs.Flows.{flow_at}
use Rattle.flow.specs.Editions.{asked, told}
use Rattle.flow.specs.Proper.{ProperFooter}
use Rattle.flow.proofs.Proper.{held_proper}
use Rattle.sheet.proofs.Handing.{wrote_no_flow, wrote_for}
use Rattle.sheet.proofs.write.Goals as goal

pub write_by-requires : goal.write_by-requires
write_by-requires c = subst ProperFooter (sym c.table_of-table.ensures) (held_proper c.in_ok-find.field-0).footer

pub returns-in_err-find : goal.returns-in_err-find
returns-in_err-find c =
    let a = c.args in
    let p = err_from_is_err_and c.from_residual.result c.from_residual.ensures.1 in
    rw (p.1, p.2) (wrote_no_flow (asked a.flow.now) a.sheet.now a.out.now c.in_err-find.field-0.0 (ap told (sym c.in_err-find.was) ∙ c.find.ensures))

pub returns : goal.returns
returns c =
    let a = c.args in
    let s = c.write_by in
    wrote_for (asked a.flow.now) a.sheet.now a.out.now (flow_at c.in_ok-find.field-0) (ap told (sym c.in_ok-find.was) ∙ c.find.ensures) _
    c.table_of-table.ensures s.result s.new.out s.ensures
