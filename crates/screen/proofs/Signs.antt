-- The size of a signed number, as 64 bits hold it. Assumes nothing.
use mathlib.Core.Path.{◌≡◌, refl, sym, ap, ◌∙◌, subst}
use mathlib.Core.Bool.{Bool, true, false, cond}
use mathlib.Core.List.{◌∷◌, []}
use Prim.Native.Nat.{ℕ, suc, ◌+◌, ◌-◌, ◌<◌, ◌≤◌, ◌^◌, zero-le}
use native.Mathlib.Omega.{arith}
use lib.Dec.{T, le→leb}
use borrow.Author.Tests.{le-ltb}
use lib.IntN.{ℤ, pos, negsuc, nat_abs, ◌-ℤ◌}
use lib.Signed.{mag, le_z, non_neg}
use mir.Syntax.{w64}
use mir.Val.{Fits, SFits, to_z, of_z}
use mir.ValLaws.{to_z-of_z}
use Rattle.screen.specs.Numbers.{sign, number_cells}

-- what the machine reads of the bits of z
abbrev read : ℤ → ℤ
read z = to_z w64 (of_z w64 z)

-- a number from zero on is its size
at_least : (z : ℤ) → le_z (pos 0) z ≡ true → SFits w64 z → T (non_neg z) × Fits w64 (nat_abs z) × (sign z ≡ 0)
at_least (pos n) t h = let s : n < 2 ^ 63 = h.sfits in (tt, record { fits = omega arith }, refl)
at_least (negsuc n) t h = absurd (subst T (sym t) tt)

from_minus_one : (n : ℕ) → negsuc 0 -ℤ negsuc n ≡ pos n
from_minus_one n =
    let h : 1 ≤ suc n = omega arith in
    let e : suc n - 1 ≡ n = omega arith in
    ap (λ (t : Bool). cond t (negsuc (1 - suc (suc n))) (pos (suc n - 1))) (le-ltb (suc n) 1 h) ∙ ap pos e

-- the size of a number below zero is one more than its distance from -1
below : (z : ℤ) → le_z (pos 0) z ≡ false → (negsuc 0 -ℤ z ≡ pos (mag z)) × (mag z + 1 ≡ nat_abs z) × (sign z ≡ 1)
below (pos n) t = absurd (subst T t (le→leb 0 n zero-le))
below (negsuc n) t = (from_minus_one n, omega arith, refl)

module _ (z : ℤ) (h : SFits w64 z) where
  is_z : read z ≡ z
  is_z = to_z-of_z w64 z h

  from_zero : le_z (pos 0) (read z) ≡ true → T (non_neg z) × Fits w64 (nat_abs z) × (sign z ≡ 0)
  from_zero t = at_least z (sym (ap (le_z (pos 0)) is_z) ∙ t) h

  pub plain_fits : le_z (pos 0) (read z) ≡ true → T (non_neg (read z)) × Fits w64 (nat_abs (read z))
  plain_fits t = subst (λ (y : ℤ). T (non_neg y) × Fits w64 (nat_abs y)) (sym is_z) ((from_zero t).0, (from_zero t).1)

  pub plain_cells : le_z (pos 0) (read z) ≡ true → 0 ∷ 2 ∷ nat_abs (read z) ∷ 0 ∷ [] ≡ number_cells z
  plain_cells t = λ i. 0 ∷ 2 ∷ nat_abs (is_z i) ∷ sym (from_zero t).2 i ∷ []

  module _ (t : le_z (pos 0) (read z) ≡ false) where
    b : (negsuc 0 -ℤ z ≡ pos (mag z)) × (mag z + 1 ≡ nat_abs z) × (sign z ≡ 1)
    b = below z (sym (ap (le_z (pos 0)) is_z) ∙ t)

    turned : negsuc 0 -ℤ read z ≡ pos (mag z)
    turned = ap (λ (y : ℤ). negsuc 0 -ℤ y) is_z ∙ b.0

    pub turned_fits : SFits w64 (negsuc 0 -ℤ read z)
    turned_fits = subst (SFits w64) (sym turned) (record { sfits = h.sfits })

    is_turned : read (negsuc 0 -ℤ read z) ≡ pos (mag z)
    is_turned = to_z-of_z w64 _ turned_fits ∙ turned

    small : mag z < 2 ^ 63
    small = h.sfits

    pub size_fits : T (non_neg (read (negsuc 0 -ℤ read z))) × Fits w64 (nat_abs (read (negsuc 0 -ℤ read z)))
    size_fits =
        let s = small in
        subst (λ (y : ℤ). T (non_neg y) × Fits w64 (nat_abs y)) (sym is_turned) (tt, record { fits = omega arith })

    pub sum_fits : Fits w64 (nat_abs (read (negsuc 0 -ℤ read z)) + 1)
    sum_fits =
        let s = small in
        subst (λ (y : ℤ). Fits w64 (nat_abs y + 1)) (sym is_turned) (record { fits = omega arith })

    pub below_cells : 0 ∷ 2 ∷ (nat_abs (read (negsuc 0 -ℤ read z)) + 1) ∷ 1 ∷ [] ≡ number_cells z
    below_cells =
        let e : nat_abs (read (negsuc 0 -ℤ read z)) + 1 ≡ nat_abs z = ap (λ (y : ℤ). nat_abs y + 1) is_turned ∙ b.1 in
        λ i. 0 ∷ 2 ∷ e i ∷ sym b.2 i ∷ []
