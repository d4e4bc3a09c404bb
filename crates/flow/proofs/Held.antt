-- The flows by their numbers, and the two layouts of SB1. Assumes nothing.
use Prim.Native.Nat.{ℕ, ◌+◌, ◌-◌, ◌≤◌}
use mathlib.Core.Path.{◌≡◌, refl}
use mathlib.Core.Bool.{Bool, true, false}
use native.Mathlib.Omega.{arith}
use borrow.Author.Tests.{leb-true, leb-false}
use lib.Dec.{leb}
use lib.ListN.{length, get_or-eq_default}
use Rattle.flow.specs.Flows.{flows_and_editions, flow_at, p0012, sb1, sb1_in_711}

beyond : (m n : ℕ) → m ≤ n → (n ≡ m → ⊥) → (n ≡ m + 1 → ⊥) → (n ≡ m + 2 → ⊥) → m + 3 ≤ n
beyond m n h a b c = omega arith

under : (n : ℕ) → n ≤ 1 → n - 1 ≡ 0
under n h = omega arith

past : (n : ℕ) → 8 ≤ n → length flows_and_editions ≤ n - 1
past n h = omega arith

-- a number that is none of 2 to 7 reads as the first flow
pub flow_first : (n : ℕ) → (n ≡ 2 → ⊥) → (n ≡ 3 → ⊥) → (n ≡ 4 → ⊥) → (n ≡ 5 → ⊥) → (n ≡ 6 → ⊥) → (n ≡ 7 → ⊥) → flow_at n ≡ p0012
flow_first n a b c d e f = go (leb n 1) refl
  where
    go : (t : Bool) → leb n 1 ≡ t → flow_at n ≡ p0012
    go true h = let z : n - 1 ≡ 0 = under n (leb-true n 1 h) in rw z
    go false h = get_or-eq_default flows_and_editions p0012 {n = n - 1} (past n (beyond 5 n (beyond 2 n (leb-false n 1 h) a b c) d e f))

-- an SB1 has not as many fields in one edition as in the other
pub sb1_counts : length sb1.fields ≡ length sb1_in_711.fields → ⊥
sb1_counts e = omega (arith, e)
