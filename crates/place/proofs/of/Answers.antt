-- `of` is right: record 0, a record past the end, a field that is not there, and one that is, each as the definition says.
use mathlib.Core.Path.{sym}
use native.Mathlib.Omega.{arith}
use Rattle.record.specs.Records.{records, fields}
use Rattle.record.specs.Found.{Stands}
use Rattle.place.proofs.Points.{at_zero, past_end, found_no_field, found_field}
use Rattle.place.proofs.of.Goals as goal

pub returns-then-n-eq0 : goal.returns-then-n-eq0
returns-then-n-eq0 c =
    let a = c.args in
    sym (at_zero a.sep a.s.now a.n a.k c.if-n-eq0.true)

pub returns-in_default : goal.returns-in_default
returns-in_default c =
    let a = c.args in
    let none = c.in_default.ensures in
    sym (past_end a.sep a.s.now a.n a.k (none (omega (arith, c.if-n-eq0.false))))

pub of-requires : goal.of-requires
of-requires c =
    let here : let a = c.args in Stands (records a.s.now) a.s.now a.n c.in-Some.record.start c.in-Some.record.end = c.in-Some.ensures in
    (here.is.ordered, here.is.within)

pub returns-in_default-field_at : goal.returns-in_default-field_at
returns-in_default-field_at c =
    let a = c.args in
    found_no_field a.sep a.s.now a.n a.k c.in-Some.ensures (rw c.of.ensures at c.in_default-field_at.ensures)

pub overflow_add-result : goal.overflow_add-result
overflow_add-result c =
    let a = c.args in
    let here : Stands (records a.s.now) a.s.now a.n c.in-Some.record.start c.in-Some.record.end = c.in-Some.ensures in
    let r = c.of.result.now in
    let inside : Stands (fields a.sep r) r a.k c.in-Some-field_at.field.start c.in-Some-field_at.field.end = c.in-Some-field_at.ensures in
    let x = here.is in
    let y = inside.is in
    omega (arith, y.ordered, y.within, x.ordered, x.within)

pub returns : goal.returns
returns c =
    let a = c.args in
    found_field a.sep a.s.now a.n a.k c.in-Some.ensures (rw c.of.ensures at c.in-Some-field_at.ensures)
