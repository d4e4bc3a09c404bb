-- Why verdict_by is right: its answer is that of the records, or of the end where none is refused.
use Rattle.std.proofs.lemmas.Result.{err_from_is_err_and}
use Rattle.layout.specs.Numbers.{layout_of}
use Rattle.judge.proofs.Files.{file_long, file_stopped, file_through, count_fits}
use Rattle.judge.proofs.verdict_by.Goals as goal

pub returns-then-f-gt1048576 : goal.returns-then-f-gt1048576
returns-then-f-gt1048576 c = file_long _ _ c.if-f-gt1048576.true

pub returns-in_err-st : goal.returns-in_err-st
returns-in_err-st c =
    let a = c.args in
    let p = err_from_is_err_and c.from_residual.result c.from_residual.ensures.1 in
    rw (p.1, p.2) (file_stopped (layout_of a.t.now a.fixed.now) a.f.now _ c.if-f-gt1048576.false c.in_err-st.ensures)

pub ended-requires : goal.ended-requires
ended-requires c =
    let a = c.args in
    count_fits (layout_of a.t.now a.fixed.now) a.f.now c.in_ok-st.st c.if-f-gt1048576.false c.in_ok-st.ensures.1

pub returns : goal.returns
returns c =
    let a = c.args in
    let w = c.in_ok-st.ensures in
    file_through (layout_of a.t.now a.fixed.now) a.f.now c.in_ok-st.st _ _ c.if-f-gt1048576.false w.0 w.1 (c.ended.ensures a.fixed.now)
