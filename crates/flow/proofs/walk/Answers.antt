-- The walk from the kinds passed on is the walk of the whole. Assumes nothing.
use Prim.Native.Nat.{◌<◌, ◌≤◌, ◌*◌}
use mathlib.Core.Path.{sym, ◌∙◌}
use lib.ListN.{length}
use borrow.Author.Rules.{rules}
use Rattle.flow.proofs.WalkLaws.{walk_foreign, walk_refused, walk_next, walk_end}
use Rattle.flow.proofs.walk.Goals as goal
use Rattle.flow.proofs.walk.Goals.{then-k-eq0-via-then-k-eq0, then-k-eq0-via-else-k-eq0+then-not-may_follow}

pub returns-then-k-eq0 : goal.returns-then-k-eq0
returns-then-k-eq0 c =
    let a = c.args in
    let l = c.loop-passed in
    let n = c.kind_named-k in
    let h : 3 * l.passed < length a.kinds.now = search rules in
    elim c.then-k-eq0.branch [
      | then-k-eq0-via-then-k-eq0 w ↦
          (λ fixed. sym (sym (l.invariant fixed)
          ∙ walk_foreign a.t.now fixed a.kinds.now l.last l.passed h (sym (rw c.part.ensures at (n.ensures.0 fixed)) ∙ w.if-k-eq0.true)))
      | then-k-eq0-via-else-k-eq0+then-not-may_follow w ↦
          (λ fixed. sym (sym (l.invariant fixed)
          ∙ walk_refused a.t.now fixed a.kinds.now l.last l.passed h n.result (sym (rw c.part.ensures at (n.ensures.0 fixed)))
          w.if-k-eq0.false (sym (w.may_follow.ensures fixed) ∙ w.if-not-may_follow.true)))
    ]

pub loop-passed-preserved : goal.loop-passed-preserved
loop-passed-preserved c =
    let a = c.args in
    let l = c.loop-passed in
    let n = c.kind_named-k in
    let h : 3 * l.passed < length a.kinds.now = search rules in
    λ fixed. walk_next a.t.now fixed a.kinds.now l.last l.passed h n.result (sym (rw c.part.ensures at (n.ensures.0 fixed)))
    c.if-k-eq0.false (sym (c.may_follow.ensures fixed) ∙ c.if-not-may_follow.false) ∙ l.invariant fixed

pub returns : goal.returns
returns c =
    let a = c.args in
    let l = c.loop-passed in
    let h : length a.kinds.now ≤ 3 * l.passed = search rules in
    λ fixed. sym (sym (l.invariant fixed) ∙ walk_end a.t.now fixed a.kinds.now l.last l.passed h)
