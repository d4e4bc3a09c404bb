-- Each turn looks at one cell more.
use Rattle.std.proofs.Common.{◌&&◌, sym, ap, ◌∙◌, arith}
use Rattle.std.proofs.Math.Bool.{and_assoc}
use Rattle.nightly.proofs.Rooms.{looked}
use Rattle.nightly.proofs.room.kept.Goals as goal

pub loop-i-preserved : goal.loop-i-preserved
loop-i-preserved g c =
    let l = c.loop-i in
    let e = rw c.pattern.ensures at c.is-all.ensures in
    and_assoc l.all c.is-all.result _
    ∙ ap (λ b. l.all && b) (sym (looked g.T.Cell.number c.args.room.now l.i c.index-room-i.result (omega arith) c.index-room-i.is c.is-all.result e))
    ∙ l.invariant
