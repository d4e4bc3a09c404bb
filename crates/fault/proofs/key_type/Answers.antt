-- `key_type` is right: the key's type is that of the rule two places before the key's number.
use mathlib.Core.List.{[]}
use native.Mathlib.Omega.{arith}
use Rattle.fault.proofs.key_type.Goals as goal

pub overflow_add-rules : goal.overflow_add-rules
overflow_add-rules c = omega (arith, (c.rules_of-rules.ensures []).within)

pub type_at-requires : goal.type_at-requires
type_at-requires c = omega (arith, (c.rules_of-rules.ensures []).within)
