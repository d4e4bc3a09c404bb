-- `advance` is right: reading on from the record to come is reading on from the state.
use mathlib.Core.Path.{sym, ap, ◌∙◌}
use mathlib.Core.List.{[]}
use native.Mathlib.Omega.{arith}
use Rattle.record.specs.Step.{IsRecord}
use Rattle.index.specs.Code.{kinds_in, entered}
use Rattle.index.proofs.Tables.{kind_found}
use Rattle.index.proofs.Onward.{no_more, enters, passes}
use Rattle.index.proofs.advance.Goals as goal

pub returns : goal.returns
returns c =
    let a = c.args in
    let l = c.loop-record in
    sym (no_more (kinds_in a.t.now) a.f.now a.s l.n l.records.at (rw l.invariant.0 at c.in_default.ensures.steps.1)) ∙ l.invariant.3

pub returns-then-s-k : goal.returns-then-s-k
returns-then-s-k c =
    let a = c.args in
    let l = c.loop-record in
    let t = a.t.now in
    let x : IsRecord a.f.now l.records.at c.in-Some.record.start c.in-Some.record.end c.next.new.self.at = rw l.invariant.0 at c.in-Some.ensures.steps.1 in
    c.enter.ensures
    ∙ ap (entered (kinds_in t) a.s _ _ _ _) c.children_from-children.ensures
    ∙ sym (enters (kinds_in t) a.f.now a.s x l.n c.kind_of-k.result (rw c.of.ensures at (c.kind_of-k.ensures.0 []) ∙ kind_found t _) c.if-s-k.true)
    ∙ l.invariant.3

pub loop-record-preserved : goal.loop-record-preserved
loop-record-preserved c =
    let a = c.args in
    let l = c.loop-record in
    let t = a.t.now in
    let step = c.in-Some.ensures.steps in
    let x : IsRecord a.f.now l.records.at c.in-Some.record.start c.in-Some.record.end c.next.new.self.at = rw l.invariant.0 at step.1 in (
      step.0 ∙ l.invariant.0,
      omega (arith, l.invariant.1),
      omega (arith, l.invariant.2, x.onward),
      sym (passes (kinds_in t) a.f.now a.s x l.n c.kind_of-k.result (rw c.of.ensures at (c.kind_of-k.ensures.0 []) ∙ kind_found t _) c.if-s-k.false) ∙ l.invariant.3,
    )
