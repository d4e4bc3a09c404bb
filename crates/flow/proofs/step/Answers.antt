-- The table is that of the flow asked for, which is proper; so its step is right for the flow. Assumes nothing.
use mathlib.Core.Path.{◌≡◌, sym, ap, ◌∙◌, subst}
use Rattle.std.specs.Prelude.{Result}
use Rattle.layout.specs.Layout.{Layout}
use Rattle.flow.specs.Flows.{flow_at}
use borrow.Author.Rules.{rules}
use Rattle.flow.specs.Editions.{Asked, a_flow, told}
use Rattle.flow.specs.declared.Through.{Through}
use Rattle.flow.specs.declared.NoStep.{NoStep}
use Rattle.flow.specs.ByTable.{SteppedBy}
use Rattle.flow.specs.Step.{StepRight}
use Rattle.flow.proofs.Proper.{held_proper}
use Rattle.flow.proofs.Answers.{step_answer, step_right}
use Rattle.flow.proofs.step.Goals as goal

pub returns : goal.returns
returns c =
    let a = c.args in
    let n = c.in_ok-find.field-0 in
    let is = ap told (sym c.in_ok-find.was) ∙ c.find.ensures in
    let t = c.table_of in
    let s = c.step_by in
    let new = s.new.follow in
    let right = step_right (flow_at n) (held_proper n) a.kinds.now s.result a.follow.now new
    (subst (λ (l : Layout). SteppedBy l a.kinds.now s.result a.follow.now new) t.ensures (s.ensures t.result.fixed)) in
    let same : step_answer s.result ≡ c.map_err.result = search rules in
    subst (λ (x : Asked). StepRight x a.kinds.now c.map_err.result a.follow.now new) is
    (subst (λ (r : Result Through NoStep). StepRight (a_flow (flow_at n)) a.kinds.now r a.follow.now new) same right)
