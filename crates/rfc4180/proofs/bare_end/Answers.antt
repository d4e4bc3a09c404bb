-- Why bare_end is right: all bytes before i are bare.
use mathlib.Core.Path.{sym, ◌∙◌}
use native.Mathlib.Omega.{arith}
use Rattle.rfc4180.proofs.Skimming.{bare_next, bare_here, bare_end}
use Rattle.rfc4180.proofs.bare_end.Goals as goal

pub returns-then-not-is_bare : goal.returns-then-not-is_bare
returns-then-not-is_bare c =
    let t = c.args.text.now in
    let l = c.loop-i in
    omega (arith, bare_here t l.i (omega arith) (sym c.is_bare.ensures ∙ c.if-not-is_bare.true))

pub loop-i-preserved : goal.loop-i-preserved
loop-i-preserved c =
    let t = c.args.text.now in
    let l = c.loop-i in
    omega (arith, bare_next t l.i (omega arith) (sym c.is_bare.ensures ∙ c.if-not-is_bare.false))

pub returns : goal.returns
returns c =
    let t = c.args.text.now in
    let l = c.loop-i in
    omega (arith, bare_end t l.i (omega arith))
