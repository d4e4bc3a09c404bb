-- A refusal of a value has its place.
use Rattle.rig.proofs.Points.{valued_placed}
use Rattle.rig.proofs.asking.value_in.Goals as goal

pub refuse-requires : goal.refuse-requires
refuse-requires g c =
    let a = c.args in
    valued_placed a.flow.now a.file.now a.«record» a.field c.in-Err.r (c.in-Err.ensures.0)
