-- `count_entries` is right: those counted, with those among the records to come, are all.
use mathlib.Core.Path.{◌≡◌, ◌∙◌}
use mathlib.Core.List.{[]}
use native.Mathlib.Omega.{arith}
use borrow.Author.Rules.{rules}
use Rattle.record.specs.Step.{IsRecord}
use Rattle.index.specs.Code.{kinds_in}
use Rattle.index.proofs.Tables.{kind_found, head_listed}
use Rattle.index.proofs.Scans.{at_most_one, kinds_next, kinds_end, head_on, heads_done}
use Rattle.index.proofs.count_entries.Goals as goal

pub loop-record-init : goal.loop-record-init
loop-record-init c =
    let bytes : c.into_iter-record-iterator.result.bytes.now ≡ c.args.f.now = search rules in
    let at : c.into_iter-record-iterator.result.at ≡ 0 = search rules in
    (bytes, rw at (omega arith), rw at search rules)

pub returns : goal.returns
returns c =
    let a = c.args in
    let l = c.loop-record in
    heads_done (kinds_in a.t.now) l.count _ l.invariant.2 (kinds_end (kinds_in a.t.now) a.f.now l.record-iterator.at (rw l.invariant.0 at c.in-None.ensures.steps.1))

pub loop-record-preserved : goal.loop-record-preserved
loop-record-preserved c =
    let a = c.args in
    let l = c.loop-record in
    let t = a.t.now in
    let step = c.in-Some.ensures.steps in
    let x : IsRecord a.f.now l.record-iterator.at c.in-Some.record.start c.in-Some.record.end c.next.new.self.at = rw l.invariant.0 at step.1 in
    let next = kinds_next (kinds_in t) a.f.now x (rw c.of.ensures at (c.kind_of-k.ensures.0 []) ∙ kind_found t _) in
    let head = head_listed (kinds_in t) a.heads.now _ c.requires c.kind_of-k.ensures.1 in (
      step.0 ∙ l.invariant.0,
      omega (arith, l.invariant.1, at_most_one _ _ c.from-count.ensures, x.onward),
      head_on (kinds_in t) l.count _ l.invariant.2 _ next head c.from-count.ensures,
    )
