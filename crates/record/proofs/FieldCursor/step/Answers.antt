-- `FieldCursor::step` is right: the field ends where the first separator stands, or the record ends.
use native.Mathlib.Omega.{arith}
use Rattle.record.proofs.Cursors.{field_found}
use Rattle.record.proofs.FieldCursor.step.Goals as goal

pub overflow_add-result : goal.overflow_add-result
overflow_add-result c =
    let a = c.args in
    let f = field_found a.sep a.r.now a.self.at c.find-end.result (omega arith) c.find-end.ensures in
    omega (arith, f.within)

pub returns : goal.returns
returns c =
    let a = c.args in
    field_found a.sep a.r.now a.self.at c.find-end.result (omega arith) c.find-end.ensures
