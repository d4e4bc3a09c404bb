-- `fill_cells` is right: cells are filled as any list.
use Rattle.flow.specs.Editions.{asked}
use Rattle.index.proofs.Cells.{cells_right}
use Rattle.index.proofs.fill_cells.Goals as goal

pub returns : goal.returns
returns c =
    let a = c.args in
    cells_right (asked a.flow.now) a.f.now a.cells.now c.fill_list.new.list c.fill_list.result c.fill_list.ensures
