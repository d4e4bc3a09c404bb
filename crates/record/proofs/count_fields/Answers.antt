-- `count_fields` is right: a record has one field more than separators.
use Rattle.std.proofs.Common.{arith}
use lib.Seq.{take_all}
use Rattle.record.proofs.Runs.{fields_and_bars, bars_counted}
use Rattle.record.proofs.count_fields.Goals as goal

pub returns : goal.returns
returns c =
    let a = c.args in
    let n = rw (take_all c.loop-b.b-index a.r.now c.loop-b-test.false) at c.loop-b.invariant in
    omega (arith, n, bars_counted a.sep a.r.now, fields_and_bars a.sep a.r.now)
