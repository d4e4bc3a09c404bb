-- `judge_fields` is right: what is known of the fields that are read stays so with each field more.
use mathlib.Core.Path.{refl, sym, ◌∙◌, ap}
use Prim.Native.Nat.{◌+◌, ◌*◌}
use lib.Dec.{eqb}
use lib.ListN.{length}
use Rattle.record.specs.Records.{fields}
use Rattle.layout.specs.Numbers.{rule_of}
use Rattle.field.specs.Judge.{refusal_of}
use Rattle.fault.specs.Fields.{field_fault}
use Rattle.fault.proofs.Fields.{reading_kind, reading_next, reading_wrong, reading_short, reading_done, shape_wrong, number_some}
use Rattle.fault.proofs.judge_fields.Goals as goal

pub loop-f-init : goal.loop-f-init
loop-f-init c =
    let a = c.args in
    (refl, refl, reading_kind a.t.now a.fixed.now a.rules.place a.rules.count a.sep a.key a.r.now c.requires.2 c.keep-found.ensures)

pub returns-in_default : goal.returns-in_default
returns-in_default c =
    let a = c.args in
    let i = c.loop-f.invariant in
    reading_short a.t.now a.fixed.now a.rules.place a.rules.count a.sep a.key a.r.now i.2 c.loop-f-test.true (rw i.1 at c.in_default.ensures.steps.2)

pub returns-in-Err : goal.returns-in-Err
returns-in-Err c =
    let a = c.args in
    let i = c.loop-f.invariant in
    let here = rw (i.0, i.1) at c.in-Some.ensures.steps.2 in
    let is = sym (ap refusal_of c.in-Err.is) ∙ c.judge_field.ensures ∙ ap (field_fault (rule_of a.t.now a.fixed.now (a.rules.place + 3 * c.loop-f.f))) c.of.ensures in
    shape_wrong (eqb (length (fields a.sep a.r.now)) (a.rules.count + 1)) _ _ c.field_wrong.ensures
    (reading_wrong a.t.now a.fixed.now a.rules.place a.rules.count a.sep a.key a.r.now i.2 here c.loop-f-test.true is (number_some c.in-Err.wrong))

pub loop-f-preserved : goal.loop-f-preserved
loop-f-preserved c =
    let a = c.args in
    let i = c.loop-f.invariant in
    let step = c.in-Some.ensures.steps in
    let here = rw (i.0, i.1) at step.2 in
    let is = sym (ap refusal_of c.in_default-judge_field.is) ∙ c.judge_field.ensures ∙ ap (field_fault (rule_of a.t.now a.fixed.now (a.rules.place + 3 * c.loop-f.f))) c.of.ensures in
    (step.0 ∙ i.0, step.1 ∙ i.1, reading_next a.t.now a.fixed.now a.rules.place a.rules.count a.sep a.key a.r.now i.2 here c.loop-f-test.true is refl c.keep-found-in-loop-f.ensures)

pub returns-in-None : goal.returns-in-None
returns-in-None c =
    let a = c.args in
    let i = c.loop-f.invariant in
    reading_done a.t.now a.fixed.now a.rules.place a.rules.count a.sep a.key a.r.now i.2 c.loop-f-test.false (rw i.1 at c.in-None.ensures.steps.2)
