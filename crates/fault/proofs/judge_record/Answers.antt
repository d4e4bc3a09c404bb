-- `judge_record` is right: its tests are those of 3, of 4 and 5, of 6 to 10, and of 11 to 13, in their order.
use mathlib.Core.Path.{◌≡◌, sym, ◌∙◌}
use Rattle.std.specs.Prelude.{Err}
use Rattle.std.proofs.Common.{rules}
use Rattle.layout.specs.Numbers.{layout_of}
use Rattle.fault.specs.Code.{key_in_slots, record_fault}
use Rattle.fault.proofs.Fields.{kind_ends}
use Rattle.fault.proofs.Leaves.{placed_known, stop_shape, closed}
use Rattle.fault.proofs.judge_record.Goals as goal

pub check_shape-requires : goal.check_shape-requires
check_shape-requires c =
    let a = c.args in
    let fixed = a.fixed.now in
    let placed = sym (c.check_place.ensures fixed) ∙ c.in_ok-check_place.was in (
      c.requires.1,
      kind_ends a.sep a.t.now fixed a.r.now (λ e. placed_known (layout_of a.t.now fixed) a.st.last c.kind_of-k.result placed (c.kind_of-k.ensures.0 fixed ∙ e)),
    )

pub returns-in_err-key : goal.returns-in_err-key
returns-in_err-key c =
    let a = c.args in
    let fixed = a.fixed.now in
    let l = layout_of a.t.now fixed in
    let placed = sym (c.check_place.ensures fixed) ∙ c.in_ok-check_place.was in
    let stopped : record_fault a.sep l a.st (key_in_slots l a.file.now a.slots.now) a.r.now ≡ Err c.in_err-key.field-0.0 =
    stop_shape a.sep l a.st (key_in_slots l a.file.now a.slots.now) a.r.now c.if-r-gt512.false (c.kind_of-k.ensures.0 fixed) placed c.in_err-key.field-0.0 (c.in_err-key.ensures fixed) in
    search (rules, stopped)

pub close_record-requires : goal.close_record-requires
close_record-requires c = (c.requires.0, c.kind_of-k.ensures.1, λ bytes. (c.in_ok-key.ensures bytes).1)

pub returns : goal.returns
returns c =
    let a = c.args in
    let fixed = a.fixed.now in
    let l = layout_of a.t.now fixed in
    let placed = sym (c.check_place.ensures fixed) ∙ c.in_ok-check_place.was in
    closed a.sep l a.st (key_in_slots l a.file.now a.slots.now) a.r.now c.if-r-gt512.false (c.kind_of-k.ensures.0 fixed) placed
    (c.in_ok-key.ensures fixed).0 c.close_record.result (c.close_record.ensures fixed)
