-- A refusal where a period is asked for has its place.
use Rattle.rig.proofs.Points.{has_placed}
use Rattle.rig.proofs.asking.period_in.Goals as goal

pub refuse_period-requires : goal.refuse_period-requires
refuse_period-requires g c =
    let a = c.args in
    has_placed a.flow.now a.file.now a.period c.in-Err.r (c.in-Err.ensures)
