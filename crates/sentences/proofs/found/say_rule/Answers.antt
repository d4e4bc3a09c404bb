-- `say_rule` is safe: the rule for field `k` stands within the table.
use mathlib.Core.List.{[]}
use native.Mathlib.Omega.{arith}
use Rattle.sentences.proofs.found.say_rule.Goals as goal

pub overflow_mul-p : goal.overflow_mul-p
overflow_mul-p g c = omega (arith, (c.rules_of-rules.ensures []).within)

pub overflow_add-p : goal.overflow_add-p
overflow_add-p g c = omega (arith, (c.rules_of-rules.ensures []).within)

pub type_at-form-requires : goal.type_at-form-requires
type_at-form-requires g c = omega (arith, (c.rules_of-rules.ensures []).within)

pub mark_at-mark-requires : goal.mark_at-mark-requires
mark_at-mark-requires g c = omega (arith, (c.rules_of-rules.ensures []).within)

pub fixed_at-value-requires : goal.fixed_at-value-requires
fixed_at-value-requires g c = omega (arith, (c.rules_of-rules.ensures []).within)
