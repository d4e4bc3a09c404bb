-- Why has is right: the words' own refusal is passed on; else their first eight characters tell the flow.
use mathlib.Core.Path.{sym, ap, ◌∙◌}
use lib.ListN.{take}
use Rattle.words.proofs.Bytewise.{same_pointwise}
use Rattle.flow.specs.Letters.{P0012001}
use Rattle.flow.specs.Flows.{flow_at}
use Rattle.flow.specs.Editions.{told}
use Rattle.period.specs.Answer.{paper}
use Rattle.std.proofs.lemmas.Result.{err_from_is_err_and}
use Rattle.std.specs.Prelude.{Err}
use Rattle.period.proofs.Flows.{no_flow_lem, another_flow, that_flow}
use Rattle.period.proofs.has.Goals as goal

pub returns-in_err-n : goal.returns-in_err-n
returns-in_err-n c =
    let a = c.args in
    let p = err_from_is_err_and c.from_residual.result c.from_residual.ensures.1 in
    rw (p.1, p.2) (no_flow_lem a.flow.now a.f.now a.period c.in_err-n.field-0.0 (ap told (sym c.in_err-n.was) ∙ c.find.ensures))

pub returns-then-not-starts_with : goal.returns-then-not-starts_with
returns-then-not-starts_with c =
    let a = c.args in
    ap paper (ap Err c.whole.ensures)
    ∙ another_flow a.flow.now a.f.now a.period (flow_at c.in_ok-n.n) (ap told (sym c.in_ok-n.was) ∙ c.find.ensures)
    c.starts_with.result (c.starts_with.ensures.value ∙ sym (same_pointwise P0012001 (take 8 a.flow.now))) c.if-not-starts_with.true

pub returns : goal.returns
returns c =
    let a = c.args in
    that_flow a.flow.now a.f.now a.period (flow_at c.in_ok-n.n) (ap told (sym c.in_ok-n.was) ∙ c.find.ensures)
    c.starts_with.result (c.starts_with.ensures.value ∙ sym (same_pointwise P0012001 (take 8 a.flow.now))) c.if-not-starts_with.false
    c.in_flow.result c.in_flow.ensures
