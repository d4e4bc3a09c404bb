-- `run_in_eight` is right: below the first hit stand eight zeros for each byte before the first `sep`.
use Prim.Native.Nat.{ℕ, ◌*◌, ◌/◌}
use mathlib.Core.Path.{ap₂, ◌∙◌}
use native.Mathlib.Omega.{arith}
use lib.Count.{count_trailing_zeros}
use Rattle.std.proofs.Common.{rules}
use Rattle.record.proofs.Lanes.{hits, eight_run, low_from_le}
use Rattle.record.proofs.run_in_eight.Goals as goal

pub returns : goal.returns
returns c =
    let a = c.args in
    let l = a.bytes.now in
    ap₂ (λ (w b : ℕ). count_trailing_zeros 64 (hits 8 w (b * 0x0101010101010101)) / 8) (c.from_le_bytes.ensures ∙ low_from_le l (search rules)) c.from.ensures
    ∙ eight_run a.sep l (search rules) (omega arith) (λ j. search rules)
