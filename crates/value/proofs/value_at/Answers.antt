-- `value_at` is right: a record or a field that is not there is 18, a kind is its bytes, and any other field goes by its rule.
use mathlib.Core.Path.{◌≡◌, ap, ◌∙◌}
use native.Mathlib.Omega.{arith}
use borrow.Author.Rules.{rules}
use Rattle.record.specs.Records.{records, fields, bar}
use Rattle.record.specs.Found.{Stands}
use Rattle.layout.specs.Numbers.{layout_of}
use Rattle.std.specs.Prelude.{Err}
use Rattle.value.specs.Value.{numbered}
use Rattle.value.proofs.Ruled.{no_record, no_field, kind_value, ruled_value}
use Rattle.value.proofs.value_at.Goals as goal

pub returns-in_default : goal.returns-in_default
returns-in_default c =
    let a = c.args in
    ap Err c.at.ensures ∙ no_record (layout_of a.t.now a.fixed.now) a.f.now a.n a.k c.in_default.ensures

pub of-r-requires : goal.of-r-requires
of-r-requires c =
    let here : let a = c.args in Stands (records a.f.now) a.f.now a.n c.in-Some.record.start c.in-Some.record.end = c.in-Some.ensures in
    (here.is.ordered, here.is.within)

pub returns-in_default-field_at : goal.returns-in_default-field_at
returns-in_default-field_at c =
    let a = c.args in
    ap Err c.at-in_default-field_at.ensures
    ∙ no_field (layout_of a.t.now a.fixed.now) a.f.now a.n a.k c.in-Some.ensures (rw c.of-r.ensures at c.in_default-field_at.ensures)

pub of-requires : goal.of-requires
of-requires c =
    let inside : let a = c.args in let r = c.of-r.result.now in Stands (fields bar r) r a.k c.in-Some-field_at.field.start c.in-Some-field_at.field.end = c.in-Some-field_at.ensures in
    (inside.is.ordered, inside.is.within)

pub overflow_add-from : goal.overflow_add-from
overflow_add-from c =
    let here : let a = c.args in Stands (records a.f.now) a.f.now a.n c.in-Some.record.start c.in-Some.record.end = c.in-Some.ensures in
    let r = c.of-r.result.now in
    let inside : Stands (fields bar r) r c.args.k c.in-Some-field_at.field.start c.in-Some-field_at.field.end = c.in-Some-field_at.ensures in
    omega (arith, inside.is.ordered, inside.is.within, here.is.ordered, here.is.within)

pub returns-then-k-eq1 : goal.returns-then-k-eq1
returns-then-k-eq1 c =
    let a = c.args in
    kind_value (layout_of a.t.now a.fixed.now) a.f.now a.n a.k c.in-Some.ensures (rw c.of-r.ensures at c.in-Some-field_at.ensures) c.if-k-eq1.true

pub returns : goal.returns
returns c =
    let a = c.args in
    let same : c.map_err.result ≡ numbered c.answer_by-answer.result = search rules in
    ruled_value (layout_of a.t.now a.fixed.now) a.f.now a.n a.k c.in-Some.ensures (rw c.of-r.ensures at c.in-Some-field_at.ensures)
    c.if-k-eq1.false (rw c.of-r.ensures at c.kind_of-j.ensures.0 a.fixed.now) (rw (c.of.ensures, c.of-r.ensures) at c.answer_by-answer.ensures) (rw same at c.as_value.ensures)
