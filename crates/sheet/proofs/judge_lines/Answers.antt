-- Why judge_lines is right: the lines are judged with tabs, and then the grammar is asked for the footer.
use borrow.Author.Rules.{rules}
use mathlib.Core.Path.{sym, ◌∙◌}
use native.Mathlib.Omega.{arith}
use Rattle.std.proofs.lemmas.Result.{err_from_is_err_and}
use Rattle.layout.specs.Numbers.{layout_of}
use Rattle.sheet.proofs.Verdicts.{lines_stopped, lines_few, lines_no_footer, lines_right}
use Rattle.sheet.proofs.judge_lines.Goals as goal

pub overflow_add-result : goal.overflow_add-result
overflow_add-result c =
    let a = c.args in
    let w = c.in_ok-st.ensures in
    omega (arith, lines_few (layout_of a.t.now a.fixed.now) a.sheet.now c.in_ok-st.st w.1 (search rules))

pub returns-then-not-may_follow : goal.returns-then-not-may_follow
returns-then-not-may_follow c =
    let a = c.args in
    let w = c.in_ok-st.ensures in
    lines_no_footer (layout_of a.t.now a.fixed.now) a.sheet.now c.in_ok-st.st w.1 c.footer_kind.result _ w.0
    (c.footer_kind.ensures a.fixed.now) (sym (c.may_follow.ensures a.fixed.now) ∙ c.if-not-may_follow.true)

pub overflow_add-result-2 : goal.overflow_add-result-2
overflow_add-result-2 c =
    let a = c.args in
    let w = c.in_ok-st.ensures in
    omega (arith, lines_few (layout_of a.t.now a.fixed.now) a.sheet.now c.in_ok-st.st w.1 (search rules))

pub returns-in_err-st : goal.returns-in_err-st
returns-in_err-st c =
    let a = c.args in
    let p = err_from_is_err_and c.from_residual.result c.from_residual.ensures.1 in
    rw (p.1, p.2) (lines_stopped (layout_of a.t.now a.fixed.now) a.sheet.now _ c.in_err-st.ensures)

pub returns : goal.returns
returns c =
    let a = c.args in
    let w = c.in_ok-st.ensures in
    lines_right (layout_of a.t.now a.fixed.now) a.sheet.now c.in_ok-st.st w.1 c.footer_kind.result _ w.0
    (c.footer_kind.ensures a.fixed.now) (sym (c.may_follow.ensures a.fixed.now) ∙ c.if-not-may_follow.false)
