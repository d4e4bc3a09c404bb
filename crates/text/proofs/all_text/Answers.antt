-- The classes passed so far are below 2 where their bytes are text. Assumes nothing.
use mathlib.Core.Path.{sym, subst}
use Prim.Native.Nat.{ℕ, ◌<◌, ◌+◌}
use native.Mathlib.Omega.{arith}
use lib.Bits.{bit_or}
use lib.ListN.{get_or}
use Rattle.text.proofs.Classes.{Seen, seen_next}
use Rattle.text.proofs.all_text.Goals as goal

pub loop-b-preserved : goal.loop-b-preserved
loop-b-preserved c =
    let byte : get_or c.args.s.now c.loop-b.b-index 0 < 256 = omega (arith, c.type_inv.s c.loop-b.b-index) in
    let l = c.loop-b in
    let s = c.args.s.now in
    let class-is = c.requires _ byte in
    subst (λ (k : ℕ). Seen s (bit_or l.seen k) (l.b-index + 1)) (sym class-is) (seen_next s l.seen l.b-index l.invariant c.loop-b-test.true)
