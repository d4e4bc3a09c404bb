-- The loop keeps that the bytes before an index are shown, and that the answer hangs on those from it on. Assumes nothing.
use native.Mathlib.Omega.{arith}
use Rattle.legible.proofs.Showing.{same, ended, stopped, next}
use Rattle.legible.proofs.show.Goals as goal

pub returns-then-out-n : goal.returns-then-out-n
returns-then-out-n c =
    let a = c.args in
    let l = c.loop-b in
    let e = same a.s.now a.out.now l.out l.b-index l.n l.invariant in
    stopped a.s.now a.out.now l.out l.b-index l.n l.invariant (omega arith) (omega (arith, e, c.shown_width-width.ensures))

pub loop-b-preserved : goal.loop-b-preserved
loop-b-preserved c =
    let a = c.args in
    let l = c.loop-b in
    let e = same a.s.now a.out.now l.out l.b-index l.n l.invariant in
    let w = c.shown_width-width in
    rw (c.put_shown.ensures, w.ensures)
    (next a.s.now a.out.now l.out l.b-index l.n l.invariant (omega arith) (omega (arith, e, w.ensures)))

pub returns : goal.returns
returns c =
    let a = c.args in
    let l = c.loop-b in
    ended a.s.now a.out.now l.out l.b-index l.n l.invariant (omega arith)
