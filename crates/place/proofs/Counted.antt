-- Numbers counted from 1. Assumes nothing.
use Prim.Native.Nat.{ℕ, zero, suc, ◌≤◌, ◌<◌}
use mathlib.Core.Path.{◌≡◌, refl}
use mathlib.Core.Bool.{true, false}
use native.Mathlib.Omega.{arith}
use borrow.Author.Tests.{le-leb, lt-leb}
use Rattle.text.specs.Characters.{from_to}

-- a number from 1 to n, and one that is 0 or above n
pub counts : (n k : ℕ) → 1 ≤ k → k ≤ n → from_to 1 n k ≡ true
counts n k h g = rw (le-leb 1 k h, le-leb k n g)

pub counts_not : (n k : ℕ) → (1 ≤ k → n < k) → from_to 1 n k ≡ false
counts_not n zero h = refl
counts_not n (suc k) h = rw (le-leb 1 (suc k) (omega arith), lt-leb (suc k) n (h (omega arith)))
