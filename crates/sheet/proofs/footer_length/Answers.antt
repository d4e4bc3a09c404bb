-- Why footer_length is right: a footer is its two numbers, ZPT and two bars; with its line feed one byte more.
use native.Mathlib.Omega.{arith}
use Rattle.sheet.proofs.Footers.{foot_length}
use Rattle.sheet.proofs.footer_length.Goals as goal

pub returns : goal.returns
returns c =
    let a = c.args in (
      omega (arith, foot_length a.records a.sum, c.digit_count.ensures.0, c.digit_count-2.ensures.0),
      omega (arith, c.digit_count.ensures.1, c.digit_count-2.ensures.1),
    )
