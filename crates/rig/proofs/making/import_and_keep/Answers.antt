-- A refusal of import has its place in the text.
use Rattle.rig.proofs.Points.{imported_placed}
use Rattle.rig.proofs.making.import_and_keep.Goals as goal

pub keep_sheet-requires : goal.keep_sheet-requires
keep_sheet-requires g c = imported_placed c.import-made.result c.import-made.ensures
