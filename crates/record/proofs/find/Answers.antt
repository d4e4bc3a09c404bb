-- `find` is right: from each place that the loop reaches, the run ends where the run from `at` ends.
use native.Mathlib.Omega.{arith}
use Rattle.record.proofs.Runs.{run_here, run_next, run_end}
use Rattle.record.proofs.find.Goals as goal

pub returns-then-s-i : goal.returns-then-s-i
returns-then-s-i c =
    let a = c.args in
    let i = c.loop-i.i in
    omega (arith, run_here a.sep a.s.now i (omega arith) c.if-s-i.true)

pub loop-i-preserved : goal.loop-i-preserved
loop-i-preserved c =
    let a = c.args in
    let i = c.loop-i.i in
    omega (arith, run_next a.sep a.s.now i (omega arith) c.if-s-i.false)

pub returns : goal.returns
returns c =
    let a = c.args in
    omega (arith, run_end a.sep a.s.now c.loop-i.i (omega arith))
