-- A refusal of export has its place in the file.
use Rattle.rig.proofs.Points.{exported_placed}
use Rattle.rig.proofs.making.export_file.Goals as goal

pub make_by-requires-clause-placed : goal.make_by-requires-clause-placed
make_by-requires-clause-placed g c = λ flow given out made left w. exported_placed flow.now given.now w
