-- Why last_of_kind is right: the last of all the records before record n is the last of those left, given the last of those passed.
use Prim.Native.Nat.{◌-◌}
use mathlib.Core.Path.{◌≡◌, refl, sym, ◌∙◌}
use borrow.Author.Rules.{rules}
use Rattle.record.specs.Step.{IsRecord}
use Rattle.findings.specs.Lines.{last_of_kind}
use Rattle.findings.proofs.Passing.{all_passed, one_passed}
use Rattle.findings.proofs.last_of_kind.Goals as goal

pub loop-record-init : goal.loop-record-init
unfolding last_of_kind
loop-record-init c =
    let bytes : c.into_iter-record-iterator.result.iter.bytes.now ≡ c.args.file.now = search rules in
    let at : c.into_iter-record-iterator.result.iter.at ≡ 0 = search rules in
    let left : c.into_iter-record-iterator.result.n ≡ c.args.n - 1 = search rules in
    (bytes, rw (at, left) (λ fixed. refl))

pub of-requires-in-loop-record : goal.of-requires-in-loop-record
of-requires-in-loop-record c =
    let l = c.loop-record in
    let s : IsRecord c.args.file.now l.record-iterator.iter.at c.in-Some.record.start c.in-Some.record.end c.next.new.self.iter.at = rw l.invariant.0 at c.in-Some.ensures.steps.0.1 in
    (s.ordered, s.within)

pub loop-record-preserved : goal.loop-record-preserved
loop-record-preserved c =
    let l = c.loop-record in
    let step = c.in-Some.ensures.steps in
    let s : IsRecord c.args.file.now l.record-iterator.iter.at c.in-Some.record.start c.in-Some.record.end c.next.new.self.iter.at = rw l.invariant.0 at step.0.1 in (
      step.0.0 ∙ l.invariant.0,
      λ fixed. sym (one_passed _ _ l.record-iterator.n _ _ _ _ _ s.splits (rw c.of-in-loop-record.ensures at c.with_one-last.ensures fixed) step.1) ∙ l.invariant.1 fixed,
    )

pub returns : goal.returns
returns c =
    let l = c.loop-record in
    λ fixed. sym (all_passed _ _ l.record-iterator.n _ (λ more. rw l.invariant.0 at (c.in-None.ensures.steps more).1)) ∙ l.invariant.1 fixed
