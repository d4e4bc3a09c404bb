-- Each constant decodes to its published layout, by computing. Assumes nothing.
use mathlib.Core.Path.{sym, ap}
use Rattle.layout.specs.Numbers.{layout_of, each, row_of, rules_from, rule_of, type_of, mark_of, fixed_of}
use Rattle.flow.specs.Publication.{layout_for}
use Rattle.flow.proofs.Held.{flow_first}
use Rattle.flow.proofs.table_of.Goals as goal

pub returns-in-2 : goal.returns-in-2
unfolding layout_of each row_of rules_from rule_of type_of mark_of fixed_of
returns-in-2 c = rw c.in-2.is

pub returns-in-3 : goal.returns-in-3
unfolding layout_of each row_of rules_from rule_of type_of mark_of fixed_of
returns-in-3 c = rw c.in-3.is

pub returns-in-4 : goal.returns-in-4
unfolding layout_of each row_of rules_from rule_of type_of mark_of fixed_of
returns-in-4 c = rw c.in-4.is

pub returns-in-5 : goal.returns-in-5
unfolding layout_of each row_of rules_from rule_of type_of mark_of fixed_of
returns-in-5 c = rw c.in-5.is

pub returns-in-6 : goal.returns-in-6
unfolding layout_of each row_of rules_from rule_of type_of mark_of fixed_of
returns-in-6 c = rw c.in-6.is

pub returns-in_default : goal.returns-in_default
unfolding layout_of each row_of rules_from rule_of type_of mark_of fixed_of
returns-in_default c =
    let k = c.in_default.in_default-own.rest in
    ap layout_for (sym (flow_first c.args.n k.0.0.0.0.0.1 k.0.0.0.0.1 k.0.0.0.1 k.0.0.1 k.0.1 k.1))
