-- A refusal of the judge has its place.
use Rattle.rig.proofs.Points.{judged_placed}
use Rattle.rig.proofs.judging.judge_bytes.Goals as goal

pub print_refusal-requires : goal.print_refusal-requires
print_refusal-requires g c =
    let a = c.args in
    judged_placed a.flow.now a.file.now c.in-Err.r (c.in-Err.ensures)
