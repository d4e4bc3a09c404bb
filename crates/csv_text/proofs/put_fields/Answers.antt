-- Why put_fields is right: the fields that the loop has not passed are left to take.
use mathlib.Core.Path.{◌≡◌, sym, ap, ◌∙◌}
use borrow.Author.Rules.{rules}
use Rattle.record.specs.Records.{bar}
use Rattle.record.specs.Step.{IsField}
use Rattle.record.proofs.Fields.{from_start}
use Rattle.csv_text.specs.Export.{line_of}
use Rattle.csv_text.proofs.Lines.{line_ended}
use Rattle.csv_text.proofs.Taken.{left_all, left_as, left_byte, left_next, left_field, left_last_field, left_none, room_field}
use Rattle.csv_text.proofs.put_fields.Goals as goal

pub loop-field-init : goal.loop-field-init
loop-field-init g c =
    let a = c.args in
    let sep : c.into_iter-field-iterator.result.sep ≡ bar = search rules in
    let bytes : c.into_iter-field-iterator.result.bytes.now ≡ a.r.now = search rules in
    let at : c.into_iter-field-iterator.result.at ≡ 0 = search rules in
    (sep, bytes, rw at (left_as (left_all a.sink.now _ c.requires) (ap line_of (sym (from_start bar a.r.now)))))

pub put_field-requires : goal.put_field-requires
put_field-requires g c =
    let l = c.loop-field in
    let x = c.in-Some.field in
    let s : IsField bar c.args.r.now l.field-iterator.at x.start x.end c.next.new.self.at = rw (l.invariant.0, l.invariant.1) at c.in-Some.ensures.steps.2 in
    room_field g.met.S.Sink.laws l.invariant.2 s c.of.ensures

pub put-requires : goal.put-requires
put-requires g c =
    let laws = g.met.S.Sink.laws in
    let l = c.loop-field in
    let x = c.in-Some.field in
    let s : IsField bar c.args.r.now l.field-iterator.at x.start x.end c.next.new.self.at = rw (l.invariant.0, l.invariant.1) at c.in-Some.ensures.steps.2 in
    left_byte laws (left_field laws l.invariant.2 s c.if-field-r.true (rw c.of.ensures at c.put_field.ensures))

pub loop-field-preserved-then-field-r : goal.loop-field-preserved-then-field-r
loop-field-preserved-then-field-r g c =
    let laws = g.met.S.Sink.laws in
    let l = c.loop-field in
    let x = c.in-Some.field in
    let step = c.in-Some.ensures.steps in
    let s : IsField bar c.args.r.now l.field-iterator.at x.start x.end c.next.new.self.at = rw (l.invariant.0, l.invariant.1) at c.in-Some.ensures.steps.2 in (
      step.0 ∙ l.invariant.0,
      step.1 ∙ l.invariant.1,
      left_next laws (left_field laws l.invariant.2 s c.if-field-r.true (rw c.of.ensures at c.put_field.ensures)) c.put.ensures,
    )

pub loop-field-preserved : goal.loop-field-preserved
loop-field-preserved g c =
    let l = c.loop-field in
    let x = c.in-Some.field in
    let step = c.in-Some.ensures.steps in
    let s : IsField bar c.args.r.now l.field-iterator.at x.start x.end c.next.new.self.at = rw (l.invariant.0, l.invariant.1) at c.in-Some.ensures.steps.2 in (
      step.0 ∙ l.invariant.0,
      step.1 ∙ l.invariant.1,
      left_last_field g.met.S.Sink.laws l.invariant.2 s c.if-field-r.false (rw c.of.ensures at c.put_field.ensures),
    )

pub returns : goal.returns
returns g c =
    let l = c.loop-field in
    left_none g.met.S.Sink.laws (left_as l.invariant.2 (line_ended _ _ (rw l.invariant.1 at c.in-None.ensures.steps.2)))
