-- `Cursor::step` is right: the record ends where the first line feed stands, or the file ends.
use native.Mathlib.Omega.{arith}
use Rattle.record.proofs.Cursors.{record_mid, record_last, records_end}
use Rattle.record.proofs.Cursor.step.Goals as goal

pub returns-then-s-start : goal.returns-then-s-start
returns-then-s-start c = records_end _ _ c.if-s-start.true

pub returns-then-end-s : goal.returns-then-end-s
returns-then-end-s c =
    let a = c.args in
    record_mid a.s.now a.self.at c.find_far-end.result (omega arith) c.find_far-end.ensures c.if-end-s.true

pub returns-else-end-s : goal.returns-else-end-s
returns-else-end-s c =
    let a = c.args in
    record_last a.s.now a.self.at c.find_far-end.result (omega arith) c.find_far-end.ensures c.if-end-s.false
