-- `import_from` lends the whole room.
use Rattle.rig.proofs.Rooms.{filled}
use Rattle.rig.proofs.making.import_from.Goals as goal

pub slice_bounds-import_and_keep-end : goal.slice_bounds-import_and_keep-end
slice_bounds-import_and_keep-end g c = filled 1048001
