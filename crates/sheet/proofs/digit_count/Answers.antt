-- Why digit_count is right: the digits counted and those of what is left are one more than all.
use native.Mathlib.Omega.{arith}
use Rattle.sheet.proofs.Numerals.{count_more, count_one, count_most}
use Rattle.sheet.proofs.digit_count.Goals as goal

pub overflow_add-n : goal.overflow_add-n
overflow_add-n c = omega (arith, count_most c.args.v (omega arith))

pub loop-rest-preserved : goal.loop-rest-preserved
loop-rest-preserved c = omega (arith, count_more c.loop-rest.rest c.loop-rest-test.true)

pub returns : goal.returns
returns c =
    let one = count_one c.loop-rest.rest c.loop-rest-test.false in
    (omega arith, omega (arith, count_most c.args.v (omega arith)))
