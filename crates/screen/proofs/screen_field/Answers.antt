-- `screen_field` is right: 18 for a code that is none, else the field's answer, turned to numbers.
use mathlib.Core.Path.{◌≡◌, refl, ap, ◌∙◌}
use borrow.Author.Rules.{rules}
use borrow.Author.Tests.{lt-leb, le-leb}
use Rattle.field.specs.Judge.{field_judged}
use Rattle.value.specs.Value.{numbered, paper}
use Rattle.value.specs.declared.Value.{Value}
use Rattle.place.specs.declared.Refusal.{Refusal}
use Rattle.std.specs.Prelude.{Result}
use Rattle.screen.specs.Numbers.{value_cells, field_cells, field_asked}
use Rattle.screen.proofs.FieldValues.{field_value_lem}
use Rattle.screen.proofs.screen_field.Goals as goal

pub returns-then-kind-gt7 : goal.returns-then-kind-gt7
unfolding field_asked
returns-then-kind-gt7 c = rw (lt-leb _ 7 c.if-kind-gt7.true) refl

pub returns-then-mark-gt2 : goal.returns-then-mark-gt2
unfolding field_asked
returns-then-mark-gt2 c = rw (le-leb _ 7 c.if-kind-gt7.false, lt-leb _ 2 c.if-mark-gt2.true) refl

pub returns : goal.returns
unfolding field_asked
returns c =
    let a = c.args in
    let s = a.bytes.now in
    let type = c.type_coded.ensures in
    let mark = c.mark_coded.ensures a.fixed.now in
    let answer = c.judge-a in
    let same : c.map_err-numbered.result ≡ numbered answer.result = search rules in
    rw (le-leb _ 7 c.if-kind-gt7.false, le-leb _ 2 c.if-mark-gt2.false)
    (c.value_cells.ensures s ∙ ap (λ (v : Result Value Refusal). value_cells (paper s v)) (rw same at c.as_value.ensures)
    ∙ field_value_lem s s answer.result ∙ ap field_cells (answer.ensures ∙ (λ i. field_judged (type i) (mark i) s)))
