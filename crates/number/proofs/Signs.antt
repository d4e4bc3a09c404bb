-- A number with its sign, as 64 bits hold it. Assumes nothing.
use mathlib.Core.Path.{◌≡◌, sym, ◌∙◌, ap, subst}
use Prim.Native.Nat.{ℕ, zero, suc, ◌<◌, ◌^◌}
use native.Mathlib.Omega.{arith}
use lib.Dec.{lit<}
use lib.IntN.{ℤ, pos, neg_ℤ, ◌-ℤ◌, +ℤ_idl}
use lib.Signed.{mag}
use mir.Syntax.{w64}
use mir.Val.{SFits, to_z, of_z}
use mir.ValLaws.{to_z_pos, to_z-of_z}

neg_mag : (n : ℕ) → n < 2 ^ 63 → mag (neg_ℤ (pos n)) < 2 ^ 63
neg_mag zero h = lit< tt
neg_mag (suc n) h = omega arith

-- what the machine takes from zero is the number below zero
neg_is : (n : ℕ) → n < 2 ^ 63 → pos 0 -ℤ to_z w64 n ≡ neg_ℤ (pos n)
neg_is n h = ap (λ (z : ℤ). pos 0 -ℤ z) (to_z_pos w64 n h) ∙ +ℤ_idl (neg_ℤ (pos n))

-- `0 - x` does not wrap, and is the number below zero
pub neg_fits : (n : ℕ) → n < 2 ^ 63 → SFits w64 (pos 0 -ℤ to_z w64 n)
neg_fits n h = subst (SFits w64) (sym (neg_is n h)) (record { sfits = neg_mag n h })

pub neg_read : (n : ℕ) → n < 2 ^ 63 → to_z w64 (of_z w64 (pos 0 -ℤ to_z w64 n)) ≡ neg_ℤ (pos n)
neg_read n h = to_z-of_z w64 _ (neg_fits n h) ∙ neg_is n h
