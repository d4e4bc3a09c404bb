-- The numbers decode to the layout of 711, by computing. Assumes nothing.
use Rattle.layout.specs.Numbers.{layout_of, each, row_of, rules_from, rule_of, type_of, mark_of, fixed_of}
use mathlib.Core.Path.{refl}
use Rattle.flow.proofs.p0133_in_711.Goals as goal

pub returns : goal.returns
unfolding layout_of each row_of rules_from rule_of type_of mark_of fixed_of
returns c = refl
