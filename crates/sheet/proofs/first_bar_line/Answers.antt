-- Why first_bar_line is right: the first of all lines that has a bar is the first of those that are left.
use Prim.Native.Nat.{ℕ, ◌+◌}
use mathlib.Core.Path.{sym, ap, ◌∙◌}
use Rattle.record.specs.Step.{IsRecord}
use Rattle.sheet.proofs.Looking.{bar_here, bar_next, bar_none}
use Rattle.sheet.proofs.first_bar_line.Goals as goal

pub returns-then-has_byte : goal.returns-then-has_byte
returns-then-has_byte c =
    let l = c.loop-passed in
    let step = c.in-Some.ensures.steps in
    let s : IsRecord c.args.sheet.now l.passed-iterator.iter.at c.in-Some.line.start c.in-Some.line.end c.next.new.self.iter.at = rw l.invariant.0 at step.0.1 in
    ap (λ (n : ℕ). n + 1) step.1 ∙ bar_here l.passed-iterator.count _ _ _ s.splits (rw c.of-in-loop-passed.ensures at (sym c.has_byte.ensures ∙ c.if-has_byte.true)) ∙ l.invariant.1

pub loop-passed-preserved : goal.loop-passed-preserved
loop-passed-preserved c =
    let l = c.loop-passed in
    let step = c.in-Some.ensures.steps in
    let s : IsRecord c.args.sheet.now l.passed-iterator.iter.at c.in-Some.line.start c.in-Some.line.end c.next.new.self.iter.at = rw l.invariant.0 at step.0.1 in
    (step.0.0 ∙ l.invariant.0, rw step.2 (bar_next l.passed-iterator.count _ _ _ s.splits (rw c.of-in-loop-passed.ensures at (sym c.has_byte.ensures ∙ c.if-has_byte.false)) ∙ l.invariant.1))

pub returns : goal.returns
returns c =
    let l = c.loop-passed in
    bar_none (l.passed-iterator.count + 1) _ (rw l.invariant.0 at c.in-None.ensures.steps.0.1) ∙ l.invariant.1
