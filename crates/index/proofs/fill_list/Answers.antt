-- `fill_list` is right: as many entries are stored as `begin_by` says by the flow's table, and there is room for them.
use mathlib.Core.Path.{sym, ap, ◌∙◌}
use Rattle.std.specs.Prelude.{Ok}
use Rattle.layout.specs.Numbers.{layout_of}
use Rattle.index.specs.Entries.{answer_by}
use Rattle.index.proofs.Stored.{agreed_by}
use Rattle.index.proofs.fill_list.Goals as goal

pub store_first-requires : goal.store_first-requires
store_first-requires g c =
    let a = c.args in
    let t = c.table_of-table.result in
    let said = sym c.in_ok-filled.was ∙ c.begin_by.ensures ∙ ap (answer_by (layout_of t.numbers t.fixed) a.f.now) c.room.ensures in
    (agreed_by t.numbers t.fixed a.f.now (g.T.Slot.room a.list.now) (Ok c.in_ok-filled.filled) said).fits
