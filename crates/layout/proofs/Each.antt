-- Laws of a list made by a function of the place. Assumes nothing.
use Prim.Native.Nat.{ℕ, zero, suc, ◌+◌, ◌≤◌, ◌<◌}
use mathlib.Core.Path.{◌≡◌, refl, sym, ap, ◌∙◌}
use mathlib.Core.List.{[], ◌∷◌}
use native.Mathlib.Nat.{add-zero, zero-add, add-suc, suc-add}
use native.Mathlib.Numerals.{add-one}
use native.Mathlib.Omega.{arith}
use lib.ListN.{length, get_or, drop, drop_of_length-le, get_or-eq_default}
use lib.Seq.{drop-cons}
use Rattle.layout.specs.Numbers.{each}

module _ {ℓ} {A : Type ℓ} (f : ℕ → A) where
  pub each_length : (i n : ℕ) → length (each f i n) ≡ n
  unfolding each
  each_length i zero = refl
  each_length i (suc n) = ap suc (each_length (suc i) n)

  each_from : (d : A) (i n k : ℕ) → k < n → get_or (each f i n) k d ≡ f (i + k)
  unfolding each
  each_from d i zero k h = absurd (omega arith)
  each_from d i (suc n) zero h = ap f (sym (add-zero i))
  each_from d i (suc n) (suc k) h = each_from d (suc i) n k (omega arith) ∙ ap f (suc-add i k ∙ sym (add-suc i k))

  -- its value at k
  pub each_at : (d : A) (n k : ℕ) → k < n → get_or (each f 0 n) k d ≡ f k
  each_at d n k h = each_from d 0 n k h ∙ ap f (zero-add k)

  -- nothing stands past its end
  pub each_past : (d : A) (n k : ℕ) → n ≤ k → get_or (each f 0 n) k d ≡ d
  each_past d n k h = get_or-eq_default (each f 0 n) d {n = k} (omega (arith, each_length 0 n))

  -- what is left of it from k on begins with its value at k
  pub each_drop : (n k : ℕ) → k < n → drop k (each f 0 n) ≡ f k ∷ drop (k + 1) (each f 0 n)
  each_drop n k h =
      let l : k < length (each f 0 n) = omega (arith, each_length 0 n) in
      rw (add-one, drop-cons (each f 0 n) k (f k) l, each_at (f k) n k h)

  -- nothing is left of it at the end
  pub each_done : (n k : ℕ) → n ≤ k → drop k (each f 0 n) ≡ []
  each_done n k h = drop_of_length-le (each f 0 n) {i = k} (omega (arith, each_length 0 n))
