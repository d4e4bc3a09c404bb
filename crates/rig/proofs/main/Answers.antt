-- `main` lends the whole room.
use Rattle.rig.proofs.Rooms.{filled}
use Rattle.rig.proofs.main.Goals as goal

pub slice_bounds-run-end : goal.slice_bounds-run-end
slice_bounds-run-end c = filled 1048577
