-- `field_count` is right: the rules of a kind are as many as the table's numbers say.
use Prim.Native.Nat.{ℕ, ◌+◌}
use mathlib.Core.Path.{sym, ap}
use mathlib.Core.List.{[]}
use native.Mathlib.Omega.{arith}
use Rattle.layout.proofs.FieldRules.{rules_length}
use Rattle.findings.proofs.field_count.Goals as goal

pub overflow_add-result : goal.overflow_add-result
overflow_add-result c = omega (arith, (c.rules_of-rules.ensures []).within)

pub returns : goal.returns
returns c fixed =
    let a = c.args in
    let r = c.rules_of-rules in
    ap (λ (n : ℕ). n + 1) (sym (rules_length a.t.now fixed a.kind r.result.place r.result.count (r.ensures fixed)))
