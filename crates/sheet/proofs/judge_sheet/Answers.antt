-- Why judge_sheet is right: its tests are the writer's, in their order, and then the lines are judged by the table.
use mathlib.Core.Path.{sym, ◌∙◌}
use native.Mathlib.Omega.{arith}
use Rattle.layout.specs.Numbers.{layout_of}
use Rattle.sheet.proofs.Verdicts.{sheet_long, sheet_bar, sheet_open, sheet_judged}
use Rattle.sheet.proofs.judge_sheet.Goals as goal

pub returns-then-sheet-gt1048000 : goal.returns-then-sheet-gt1048000
returns-then-sheet-gt1048000 c =
    let a = c.args in
    sheet_long (layout_of a.t.now a.fixed.now) a.sheet.now (omega arith)

pub returns-then-has_byte : goal.returns-then-has_byte
returns-then-has_byte c =
    let a = c.args in
    rw c.first_bar_line.ensures
    (sheet_bar (layout_of a.t.now a.fixed.now) a.sheet.now (omega arith) (sym c.has_byte.ensures ∙ c.if-has_byte.true))

pub returns-then-not-lines_ended : goal.returns-then-not-lines_ended
returns-then-not-lines_ended c =
    let a = c.args in
    rw c.line_count.ensures
    (sheet_open (layout_of a.t.now a.fixed.now) a.sheet.now (omega arith) (sym c.has_byte.ensures ∙ c.if-has_byte.false)
    (sym c.lines_ended.ensures ∙ c.if-not-lines_ended.true))

pub returns : goal.returns
returns c =
    let a = c.args in
    sheet_judged (layout_of a.t.now a.fixed.now) a.sheet.now (omega arith) (sym c.has_byte.ensures ∙ c.if-has_byte.false) c.requires
    (sym c.lines_ended.ensures ∙ c.if-not-lines_ended.false) (λ i. omega (arith, c.type_inv.sheet i))
    c.judge_lines.result c.judge_lines.ensures
