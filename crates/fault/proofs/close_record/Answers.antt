-- `close_record` is right: the key that it is given is the record's, and its tests are those of 11, 12 and 13, in their order.
use Prim.Native.Nat.{ℕ, ◌+◌}
use mathlib.Core.Path.{sym, ◌∙◌, ap}
use mathlib.Core.List.{[]}
use Rattle.layout.specs.Numbers.{layout_of}
use Rattle.fault.specs.Record.{key_fault}
use Rattle.fault.specs.Code.{key_in_slots, close_fault}
use Rattle.fault.proofs.Leaves.{also_fine}
use Rattle.fault.proofs.close_record.Goals as goal

pub slice_bounds-check_key-count : goal.slice_bounds-check_key-count
slice_bounds-check_key-count c = (c.requires.2 []).ordered

pub slice_bounds-check_key-start : goal.slice_bounds-check_key-start
slice_bounds-check_key-start c = (c.requires.2 []).ordered

pub slice_bounds-check_key-end : goal.slice_bounds-check_key-end
slice_bounds-check_key-end c = (c.requires.2 []).within

pub returns : goal.returns
unfolding close_fault
returns c =
    let a = c.args in
    λ fixed.
    let l = layout_of a.t.now fixed in
    let key = c.requires.2 fixed in (
      also_fine
          (ap (key_fault l a.k (key_in_slots l a.file.now a.slots.now a.k)) (sym key.is) ∙ sym (c.check_key.ensures fixed) ∙ c.in_ok-check_key.was)
          (sym (c.check_footer.ensures fixed) ∙ c.in_ok-check_footer.was),
      ap (λ (s : ℕ). record { count = a.st.count + 1; last = a.k; sum = s }) c.add_line.ensures,
      key,
    )
