-- `answer_by` is right: type, mark and fixed bytes are those of the rule for field `k`, or null's where the kind has no such rule.
use mathlib.Core.List.{[]}
use native.Mathlib.Omega.{arith}
use Rattle.value.proofs.Ruled.{ruled, unruled}
use Rattle.value.proofs.answer_by.Goals as goal

pub returns-then-rules-k : goal.returns-then-rules-k
returns-then-rules-k c =
    let a = c.args in
    let rules = c.rules_of-rules in
    let fixed = a.fixed.now in
    unruled a.t.now fixed a.j rules.result.place rules.result.count (rules.ensures fixed) a.k a.s.now
    c.if-rules-k.true c.judge_marked.ensures

pub overflow_mul-p : goal.overflow_mul-p
overflow_mul-p c = omega (arith, (c.rules_of-rules.ensures []).within)

pub overflow_add-p : goal.overflow_add-p
overflow_add-p c = omega (arith, (c.rules_of-rules.ensures []).within)

pub type_at-kind-requires : goal.type_at-kind-requires
type_at-kind-requires c = omega (arith, (c.rules_of-rules.ensures []).within)

pub mark_at-mark-requires : goal.mark_at-mark-requires
mark_at-mark-requires c = omega (arith, (c.rules_of-rules.ensures []).within)

pub fixed_at-value-requires : goal.fixed_at-value-requires
fixed_at-value-requires c = omega (arith, (c.rules_of-rules.ensures []).within)

pub returns : goal.returns
returns c =
    let a = c.args in
    let rules = c.rules_of-rules in
    let type = c.type_at-kind in
    let mark = c.mark_at-mark in
    let value = c.fixed_at-value in
    let fixed = a.fixed.now in
    ruled a.t.now fixed a.j rules.result.place rules.result.count (rules.ensures fixed) a.k a.s.now
    c.if-rules-k.false mark.result type.ensures.0 (mark.ensures fixed) value.ensures c.judge_marked-2.ensures
