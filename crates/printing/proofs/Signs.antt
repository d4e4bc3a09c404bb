-- The size of a whole number, as 64 bits hold it. Assumes nothing.
use Prim.Native.Nat.{ℕ, suc, ◌+◌, ◌-◌, ◌<◌, ◌^◌}
use mathlib.Core.Path.{◌≡◌, sym, ◌∙◌, ap, subst}
use mathlib.Core.Bool.{Bool, true, false}
use native.Mathlib.Omega.{arith}
use native.Mathlib.Numerals.{add-one}
use lib.Dec.{T, ltb→lt}
use lib.IntN.{ℤ, pos, negsuc, nat_abs}
use lib.Signed.{mag, lt_z, non_neg}
use mir.Syntax.{w64}
use mir.Val.{Fits, SFits, to_z, of_z}
use mir.ValLaws.{to_z_pos, to_z-of_z}

-- the test of a number against zero
abbrev pub below : ℤ → Bool
below z = lt_z (to_z w64 (of_z w64 z)) (pos 0)

not_below : (n : ℕ) → SFits w64 (pos n) → below (pos n) ≡ true → ⊥
not_below n f t =
    let h : n < 0 = ltb→lt n 0 (subst T (sym t ∙ ap (λ (z : ℤ). lt_z z (pos 0)) (to_z-of_z w64 (pos n) f)) tt) in
    omega arith

-- below zero the flipped bits are one less than the size
pub flipped : (z : ℤ) → SFits w64 z → below z ≡ true → to_z w64 (18446744073709551615 - of_z w64 z) ≡ pos (mag z)
flipped (pos n) f t = absurd (not_below n f t)
flipped (negsuc k) f t =
    let h : k < 2 ^ 63 = f.sfits in
    let e : 18446744073709551615 - (2 ^ 64 - suc k) ≡ k = omega arith in
    ap (to_z w64) e ∙ to_z_pos w64 k h

pub one_more_lem : (z : ℤ) → SFits w64 z → below z ≡ true → mag z + 1 ≡ nat_abs z
one_more_lem (pos n) f t = absurd (not_below n f t)
one_more_lem (negsuc k) f t = add-one k

-- from zero on the bits are the size
plain_read : (z : ℤ) → SFits w64 z → lt_z z (pos 0) ≡ false → T (non_neg z) × Fits w64 (nat_abs z)
plain_read (pos n) f t = let h : n < 2 ^ 63 = f.sfits in (tt, record { fits = omega arith })
plain_read (negsuc k) f t = let no : ◌≡◌ {A = ℕ} 0 1 = cc in absurd (omega (arith, no))

pub plain : (z : ℤ) → SFits w64 z → below z ≡ false → T (non_neg (to_z w64 (of_z w64 z))) × Fits w64 (nat_abs (to_z w64 (of_z w64 z)))
plain z f t =
    let e = to_z-of_z w64 z f in
    subst (λ (y : ℤ). T (non_neg y) × Fits w64 (nat_abs y)) (sym e) (plain_read z f (ap (λ (y : ℤ). lt_z y (pos 0)) (sym e) ∙ t))
