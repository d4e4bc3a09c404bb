-- `children_from` is right: those counted, with those among the records to come, are all.
use mathlib.Core.Path.{◌≡◌, ◌∙◌}
use mathlib.Core.List.{[]}
use native.Mathlib.Omega.{arith}
use borrow.Author.Rules.{rules}
use Rattle.record.specs.Step.{IsRecord}
use Rattle.index.specs.Code.{kinds_in}
use Rattle.index.proofs.Tables.{kind_found, head_read}
use Rattle.index.proofs.Scans.{at_most_one, kinds_next, kinds_end, child_on, child_last, children_done}
use Rattle.index.proofs.children_from.Goals as goal

pub loop-record-init : goal.loop-record-init
loop-record-init c =
    let bytes : c.into_iter-record-iterator.result.bytes.now ≡ c.args.f.now = search rules in
    let at : c.into_iter-record-iterator.result.at ≡ c.args.at = search rules in
    (bytes, omega arith, rw at search rules)

pub returns : goal.returns
returns c =
    let a = c.args in
    let l = c.loop-record in
    children_done (kinds_in a.t.now) a.k l.count _ l.invariant.2 (kinds_end (kinds_in a.t.now) a.f.now l.record-iterator.at (rw l.invariant.0 at c.in-None.ensures.steps.1))

pub returns-then-j-k : goal.returns-then-j-k
returns-then-j-k c =
    let a = c.args in
    let l = c.loop-record in
    let t = a.t.now in
    let x : IsRecord a.f.now l.record-iterator.at c.in-Some.record.start c.in-Some.record.end c.next.new.self.at = rw l.invariant.0 at c.in-Some.ensures.steps.1 in
    let next = kinds_next (kinds_in t) a.f.now x (rw c.of.ensures at (c.kind_of-j.ensures.0 []) ∙ kind_found t _) in
    child_last (kinds_in t) a.k l.count _ l.invariant.2 next (c.head_of.ensures.0 [] ∙ head_read t _) c.from-count.ensures c.if-j-k.true

pub loop-record-preserved : goal.loop-record-preserved
loop-record-preserved c =
    let a = c.args in
    let l = c.loop-record in
    let t = a.t.now in
    let step = c.in-Some.ensures.steps in
    let x : IsRecord a.f.now l.record-iterator.at c.in-Some.record.start c.in-Some.record.end c.next.new.self.at = rw l.invariant.0 at step.1 in
    let next = kinds_next (kinds_in t) a.f.now x (rw c.of.ensures at (c.kind_of-j.ensures.0 []) ∙ kind_found t _) in (
      step.0 ∙ l.invariant.0,
      omega (arith, l.invariant.1, at_most_one _ _ c.from-count.ensures, x.onward),
      child_on (kinds_in t) a.k l.count _ l.invariant.2 next (c.head_of.ensures.0 [] ∙ head_read t _) c.from-count.ensures c.if-j-k.false,
    )
