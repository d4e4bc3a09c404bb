-- A refusal of the reader has its place in the file.
use Rattle.rig.proofs.Points.{read_placed}
use Rattle.rig.proofs.making.read_file.Goals as goal

pub make_by-requires-clause-placed : goal.make_by-requires-clause-placed
make_by-requires-clause-placed g c = λ flow given out made left w. read_placed flow.now given.now w
