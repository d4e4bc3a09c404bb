-- Why last_start is right: one record is left from i on, and it starts behind a line feed, or at the file's start.
use Prim.Native.Nat.{◌+◌, ◌-◌}
use mathlib.Core.Path.{◌≡◌}
use native.Mathlib.Omega.{arith}
use Rattle.sheet.proofs.Starts.{one_last, one_more_lem, start_found, start_first, start_none}
use Rattle.sheet.proofs.last_start.Goals as goal

pub returns-then-is_empty : goal.returns-then-is_empty
returns-then-is_empty c = (omega arith, start_none c.args.f.now (grind arith))

pub loop-i-init : goal.loop-i-init
loop-i-init c = (omega arith, one_last c.args.f.now (grind arith))

pub returns-then-f-i-eq-FEED : goal.returns-then-f-i-eq-FEED
returns-then-f-i-eq-FEED c =
    let f = c.args.f.now in
    let l = c.loop-i in
    let back : l.i - 1 + 1 ≡ l.i = omega arith in
    (omega arith, rw back (start_found f l.i (omega arith) l.invariant.0 c.if-f-i-eq-FEED.true l.invariant.1))

pub loop-i-preserved : goal.loop-i-preserved
loop-i-preserved c =
    let f = c.args.f.now in
    let l = c.loop-i in
    (omega arith, one_more_lem f l.i (omega arith) l.invariant.0 c.if-f-i-eq-FEED.false l.invariant.1)

pub returns : goal.returns
returns c =
    let f = c.args.f.now in
    let l = c.loop-i in
    let first : l.i ≡ 0 = omega arith in
    (omega arith, start_first f (rw first at l.invariant.1))
