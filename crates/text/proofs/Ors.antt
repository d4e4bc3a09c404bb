-- Marks that are or-ed and tested once. Assumes nothing.
use mathlib.Core.Path.{◌≡◌, refl}
use mathlib.Core.Bool.{Bool, true, false, ◌&&◌}
use Prim.Native.Nat.{ℕ, ◌≤◌, ◌^◌}
use native.Mathlib.Omega.{arith}
use lib.Bits.{bit_or, or_lt, or_add_and, and_le_l, and_le_r}
use lib.Dec.{ltb}
use borrow.Author.Tests.{lt-ltb, le-ltb, ltb-true, ltb-false}

-- an or is below a power of two where both sides are
pub or_below : (k a b : ℕ) (s t : Bool) → ltb a (2 ^ k) ≡ s → ltb b (2 ^ k) ≡ t → ltb (bit_or a b) (2 ^ k) ≡ (s && t)
or_below k a b true true p q = lt-ltb (bit_or a b) (2 ^ k) (or_lt k a b (ltb-true a (2 ^ k) p) (ltb-true b (2 ^ k) q))
or_below k a b true false p q =
    let h : 2 ^ k ≤ b = ltb-false b (2 ^ k) q in
    le-ltb (bit_or a b) (2 ^ k) (omega (arith, or_add_and a b, and_le_l a b))
or_below k a b false t p q =
    let h : 2 ^ k ≤ a = ltb-false a (2 ^ k) p in
    le-ltb (bit_or a b) (2 ^ k) (omega (arith, or_add_and a b, and_le_r a b))

-- three tests in one
pub grouped : (a b c : Bool) → (a && b && c) ≡ (a && (b && c))
grouped true b c = refl
grouped false b c = refl
