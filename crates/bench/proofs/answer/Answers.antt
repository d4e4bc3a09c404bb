-- The first line is the first record; each return is one test of the bench. Assumes nothing.
use mathlib.Core.Path.{sym, ap, ◌∙◌}
use native.Mathlib.Omega.{arith}
use Rattle.record.specs.Records.{records}
use Rattle.record.specs.Found.{Stands}
use Rattle.place.specs.declared.Refusal.{Refusal}
use Rattle.flow.specs.Flows.{flow_at}
use Rattle.flow.specs.Editions.{asked, told}
use Rattle.judge.specs.File.{Reply, paper}
use Rattle.std.specs.Prelude.{Err}
use Rattle.std.proofs.lemmas.Result.{err_from_is_err_and}
use Rattle.bench.proofs.Inputs.{no_line, not_ended, no_flow_lem, too_long, the_file}
use Rattle.bench.proofs.answer.Goals as goal

-- what is said of a refusal
abbrev said : Refusal → Reply
said r = paper (Err r)

pub returns-in_default : goal.returns-in_default
returns-in_default c =
    let a = c.args in
    ap said c.whole.ensures ∙ no_line a.input.now ((c.in_default.ensures) (omega arith))

pub returns-then-line-input : goal.returns-then-line-input
returns-then-line-input c =
    let line : Stands (records c.args.input.now) c.args.input.now 1 c.in-Some.line.start c.in-Some.line.end = c.in-Some.ensures in
    let a = c.args in
    ap said c.whole-then-line-input.ensures ∙ not_ended a.input.now c.in-Some.line.start c.in-Some.line.end line c.if-line-input.true

pub returns-in_err-find : goal.returns-in_err-find
returns-in_err-find c =
    let line : Stands (records c.args.input.now) c.args.input.now 1 c.in-Some.line.start c.in-Some.line.end = c.in-Some.ensures in
    let a = c.args in
    let p = err_from_is_err_and c.from_residual.result c.from_residual.ensures.1 in
    rw (p.1, p.2) (no_flow_lem a.input.now c.in-Some.line.start c.in-Some.line.end line c.if-line-input.false c.in_err-find.field-0.0
    (ap told (sym c.in_err-find.was) ∙ c.find.ensures ∙ ap asked c.of-words.ensures))

pub returns-then-file-gt65536 : goal.returns-then-file-gt65536
returns-then-file-gt65536 c =
    let line : Stands (records c.args.input.now) c.args.input.now 1 c.in-Some.line.start c.in-Some.line.end = c.in-Some.ensures in
    let a = c.args in
    ap said c.whole-then-file-gt65536.ensures
    ∙ too_long a.input.now c.in-Some.line.start c.in-Some.line.end line c.if-line-input.false (flow_at c.in_ok-find.field-0)
    (ap told (sym c.in_ok-find.was) ∙ c.find.ensures ∙ ap asked c.of-words.ensures) c.if-file-gt65536.true

pub returns : goal.returns
returns c =
    let line : Stands (records c.args.input.now) c.args.input.now 1 c.in-Some.line.start c.in-Some.line.end = c.in-Some.ensures in
    let a = c.args in
    (rw c.of-words.ensures at c.judge.ensures)
    ∙ the_file a.input.now c.in-Some.line.start c.in-Some.line.end line c.if-line-input.false (flow_at c.in_ok-find.field-0)
    (ap told (sym c.in_ok-find.was) ∙ c.find.ensures ∙ ap asked c.of-words.ensures) c.if-file-gt65536.false
