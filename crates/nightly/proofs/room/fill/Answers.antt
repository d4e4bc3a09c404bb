-- Each turn fills one cell more.
use Rattle.std.proofs.Common.{◌<◌, map, length, ◌∙◌, arith}
use Rattle.std.proofs.lemmas.List.{map-set}
use lib.ListN.{length-map}
use Rattle.nightly.proofs.Rooms.{front_next}
use Rattle.nightly.proofs.room.fill.Goals as goal

pub loop-i-preserved : goal.loop-i-preserved
loop-i-preserved g c =
    let l = c.loop-i in
    let number = g.T.Cell.number in
    let inside : l.i < length (map number l.room) = simp length-map (omega arith) in
    λ j k. rw map-set (front_next (map number l.room) l.i (number c.of.result) inside (c.of.ensures ∙ c.pattern.ensures) l.invariant j k)
