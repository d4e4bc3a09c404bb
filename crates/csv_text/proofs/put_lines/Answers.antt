-- Why put_lines is right: the records that the loop has not passed are left to take.
use mathlib.Core.Path.{◌∙◌}
use Rattle.record.specs.Step.{IsRecord}
use Rattle.csv_text.proofs.Lines.{at_end_lem}
use Rattle.csv_text.proofs.Taken.{left_as, left_byte, left_next, left_line, left_none, room_line}
use Rattle.csv_text.proofs.put_lines.Goals as goal

pub put_line-requires : goal.put_line-requires
put_line-requires g c =
    let l = c.loop-record in
    let x = c.in-Some.record in
    let s : IsRecord c.args.s.now l.record-iterator.at x.start x.end c.next.new.self.at = rw l.invariant.0 at c.in-Some.ensures.steps.1 in
    room_line g.met.S.Sink.laws l.invariant.1 s c.of.ensures

pub put-requires : goal.put-requires
put-requires g c =
    let laws = g.met.S.Sink.laws in
    let l = c.loop-record in
    let x = c.in-Some.record in
    let s : IsRecord c.args.s.now l.record-iterator.at x.start x.end c.next.new.self.at = rw l.invariant.0 at c.in-Some.ensures.steps.1 in
    left_byte laws (left_line laws l.invariant.1 s (rw c.of.ensures at c.put_line.ensures))

pub put-requires-in-loop-record : goal.put-requires-in-loop-record
put-requires-in-loop-record g c =
    let laws = g.met.S.Sink.laws in
    let l = c.loop-record in
    let x = c.in-Some.record in
    let s : IsRecord c.args.s.now l.record-iterator.at x.start x.end c.next.new.self.at = rw l.invariant.0 at c.in-Some.ensures.steps.1 in
    left_byte laws (left_next laws (left_line laws l.invariant.1 s (rw c.of.ensures at c.put_line.ensures)) c.put.ensures)

pub loop-record-preserved : goal.loop-record-preserved
loop-record-preserved g c =
    let laws = g.met.S.Sink.laws in
    let l = c.loop-record in
    let x = c.in-Some.record in
    let s : IsRecord c.args.s.now l.record-iterator.at x.start x.end c.next.new.self.at = rw l.invariant.0 at c.in-Some.ensures.steps.1 in
    (c.in-Some.ensures.steps.0 ∙ l.invariant.0, left_next laws (left_next laws (left_line laws l.invariant.1 s (rw c.of.ensures at c.put_line.ensures)) c.put.ensures) c.put-in-loop-record.ensures)

pub returns : goal.returns
returns g c =
    let l = c.loop-record in
    left_none g.met.S.Sink.laws (left_as l.invariant.1 (at_end_lem _ l.record-iterator.at (rw l.invariant.0 at c.in-None.ensures.steps.1)))
