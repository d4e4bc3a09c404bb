-- Why read is right: what stands before the last record is all records but the last, each with its line feed.
use Rattle.std.proofs.lemmas.Result.{err_from_is_err_and}
use Rattle.flow.specs.Editions.{asked}
use Rattle.sheet.proofs.Handing.{read_refused, read_no_room, read_done}
use Rattle.sheet.proofs.read.Goals as goal

pub returns-then-out-end : goal.returns-then-out-end
returns-then-out-end c =
    let a = c.args in
    let s = c.last_start-end in
    read_no_room (asked a.flow.now) a.file.now a.out.now c.in_ok-records.records s.result (c.in_ok-records.ensures) s.ensures.0 s.ensures.1 c.whole.ensures c.if-out-end.true

pub returns-in_err-records : goal.returns-in_err-records
returns-in_err-records c =
    let a = c.args in
    let p = err_from_is_err_and c.from_residual.result c.from_residual.ensures.1 in
    rw (p.1, p.2) (read_refused (asked a.flow.now) a.file.now a.out.now _ c.in_err-records.ensures)

pub returns : goal.returns
returns c =
    let a = c.args in
    let s = c.last_start-end in
    read_done (asked a.flow.now) a.file.now a.out.now c.in_ok-records.records s.result (c.in_ok-records.ensures) s.ensures.0 s.ensures.1
    c.put_turned.new.out c.if-out-end.false c.put_turned.ensures
