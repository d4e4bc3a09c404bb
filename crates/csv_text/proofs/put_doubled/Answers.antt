-- Why put_doubled is right: the bytes from i on are left to take.
use mathlib.Core.List.{[], ◌∷◌}
use lib.ListN.{drop, get_or}
use Prim.Native.Nat.{◌+◌}
use native.Mathlib.Omega.{arith}
use Rattle.csv_text.specs.Export.{doubled}
use Rattle.csv_text.proofs.Doubling.{doubled_next, doubled_end}
use Rattle.csv_text.proofs.Taken.{left_all, left_as, left_part, left_room, left_none}
use Rattle.csv_text.proofs.put_doubled.Goals as goal

pub loop-b-init : goal.loop-b-init
loop-b-init g c = left_all _ _ c.requires

pub put_byte-requires : goal.put_byte-requires
put_byte-requires g c =
    let l = c.loop-b in
    let x = c.args.x.now in
    left_room g.met.S.Sink.laws (doubled (get_or x l.b-index 0 ∷ [])) (doubled (drop (l.b-index + 1) x)) (left_as l.invariant (doubled_next x l.b-index (omega arith)))

pub loop-b-preserved : goal.loop-b-preserved
loop-b-preserved g c =
    let l = c.loop-b in
    let x = c.args.x.now in
    left_part g.met.S.Sink.laws (doubled (get_or x l.b-index 0 ∷ [])) (doubled (drop (l.b-index + 1) x))
    (left_as l.invariant (doubled_next x l.b-index (omega arith))) c.put_byte.ensures

pub returns : goal.returns
returns g c =
    let l = c.loop-b in
    left_none g.met.S.Sink.laws (left_as l.invariant (doubled_end c.args.x.now l.b-index (omega arith)))
