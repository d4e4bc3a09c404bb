-- `value_by` is right: the reader's refusal is passed on, and of an accepted file the value follows.
use Rattle.std.proofs.lemmas.Result.{err_from_is_err_and}
use Rattle.layout.specs.Numbers.{layout_of}
use Rattle.value.proofs.OneValue.{reader_refused, reader_accepted}
use Rattle.value.proofs.value_by.Goals as goal

pub returns-in_err-judge_by : goal.returns-in_err-judge_by
returns-in_err-judge_by c =
    let a = c.args in
    let j = c.judge_by in
    let p = err_from_is_err_and c.from_residual.result c.from_residual.ensures.1 in
    rw (p.1, p.2) (reader_refused (layout_of a.t.now a.fixed.now) a.f.now a.n a.k j.result j.ensures c.in_err-judge_by.was)

pub returns : goal.returns
returns c =
    let a = c.args in
    let j = c.judge_by in
    reader_accepted (layout_of a.t.now a.fixed.now) a.f.now a.n a.k j.result j.ensures c.in_ok-judge_by.was c.value_at.ensures
