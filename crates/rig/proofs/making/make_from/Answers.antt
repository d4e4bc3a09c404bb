-- `make_from` lends the whole room.
use Rattle.rig.proofs.Rooms.{filled}
use Rattle.rig.proofs.making.make_from.Goals as goal

pub slice_bounds-make_and_keep-end-2 : goal.slice_bounds-make_and_keep-end-2
slice_bounds-make_and_keep-end-2 g c = filled 3145728
