-- A refusal of the writer has its place in the sheet.
use Rattle.rig.proofs.Points.{wrote_placed}
use Rattle.rig.proofs.making.write_file.Goals as goal

pub make_by-requires-clause-placed : goal.make_by-requires-clause-placed
make_by-requires-clause-placed g c = λ flow given out made left w. wrote_placed flow.now given.now w
