-- Why put_decimal is right: the digits put and those of what is left are the number's.
use borrow.Author.Rules.{rules}
use native.Mathlib.Omega.{arith}
use Rattle.sheet.proofs.Numerals.{put_more, put_last, so_long, count_more, count_one}
use Rattle.sheet.proofs.put_decimal.Goals as goal

pub overflow_sub-i : goal.overflow_sub-i
overflow_sub-i c = omega (arith, count_more c.loop-rest.rest c.loop-rest-test.true)

pub bounds-out-i : goal.bounds-out-i
bounds-out-i c =
    let a = c.args in
    let l = c.loop-rest in
    omega (arith, count_more l.rest c.loop-rest-test.true, so_long a.out.now a.end a.v (search rules) (search rules) l.out l.rest l.i l.invariant)

pub loop-rest-preserved : goal.loop-rest-preserved
loop-rest-preserved c =
    let a = c.args in
    let l = c.loop-rest in
    rw c.digit.ensures (put_more a.out.now a.end a.v (search rules) (search rules) l.out l.rest l.i l.invariant c.loop-rest-test.true)

pub overflow_sub-out : goal.overflow_sub-out
overflow_sub-out c = omega (arith, count_one c.loop-rest.rest c.loop-rest-test.false)

pub bounds-out-i-2 : goal.bounds-out-i-2
bounds-out-i-2 c =
    let a = c.args in
    let l = c.loop-rest in
    omega (arith, count_one l.rest c.loop-rest-test.false, so_long a.out.now a.end a.v (search rules) (search rules) l.out l.rest l.i l.invariant)

pub returns : goal.returns
returns c =
    let a = c.args in
    let l = c.loop-rest in
    rw c.digit-2.ensures (put_last a.out.now a.end a.v (search rules) (search rules) l.out l.rest l.i l.invariant c.loop-rest-test.false)
