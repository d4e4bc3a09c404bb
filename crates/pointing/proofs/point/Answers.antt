-- The place of a refusal lies in its record, or right behind it.
use native.Mathlib.Omega.{arith}
use Rattle.pointing.proofs.Inside.{place_inside}
use Rattle.pointing.proofs.point.Goals as goal

pub print_record-requires : goal.print_record-requires
print_record-requires g c =
    let a = c.args in
    let here = c.in-Some.ensures in
    let inside = place_inside a.sep a.s.now a.r.«record» a.r.field here in
    (omega (arith, inside.0, c.requires), omega (arith, inside.1, c.requires), here.is.within)
