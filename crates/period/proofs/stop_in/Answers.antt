-- Why stop_in is right: what is left to read has the stop of the whole file.
use mathlib.Core.Path.{◌≡◌, ◌∙◌}
use borrow.Author.Rules.{rules}
use Rattle.record.specs.Step.{IsRecord}
use Rattle.period.proofs.Stops.{from_start, no_stop, stop_here, stop_later}
use Rattle.period.proofs.stop_in.Goals as goal

pub loop-record-init : goal.loop-record-init
loop-record-init c =
    let bytes : c.into_iter-record-iterator.result.bytes.now ≡ c.args.f.now = search rules in
    let at : c.into_iter-record-iterator.result.at ≡ 0 = search rules in
    (bytes, rw at (from_start c.args.f.now c.args.period))

pub returns : goal.returns
returns c =
    let a = c.args in
    let l = c.loop-record in
    no_stop a.f.now a.period l.record-iterator.at l.invariant.1 (rw l.invariant.0 at c.in-None.ensures.steps.1)

pub of-requires : goal.of-requires
of-requires c =
    let l = c.loop-record in
    let s : IsRecord c.args.f.now l.record-iterator.at c.in-Some.record.start c.in-Some.record.end c.next.new.self.at = rw l.invariant.0 at c.in-Some.ensures.steps.1 in
    (s.ordered, s.within)

pub returns-then-period-found : goal.returns-then-period-found
returns-then-period-found c =
    let a = c.args in
    let l = c.loop-record in
    let s : IsRecord a.f.now l.record-iterator.at c.in-Some.record.start c.in-Some.record.end c.next.new.self.at = rw l.invariant.0 at c.in-Some.ensures.steps.1 in
    stop_here a.f.now a.period l.record-iterator.at l.invariant.1 s c.period_in-found.result (rw c.of.ensures at c.period_in-found.ensures) c.if-period-found.true

pub loop-record-preserved : goal.loop-record-preserved
loop-record-preserved c =
    let a = c.args in
    let l = c.loop-record in
    let step = c.in-Some.ensures.steps in
    let s : IsRecord a.f.now l.record-iterator.at c.in-Some.record.start c.in-Some.record.end c.next.new.self.at = rw l.invariant.0 at step.1 in (
      step.0 ∙ l.invariant.0,
      stop_later a.f.now a.period l.record-iterator.at l.invariant.1 s c.period_in-found.result (rw c.of.ensures at c.period_in-found.ensures) c.if-period-found.false,
    )
