-- What is kept of the first of some records, one after the other. Assumes nothing.
use Prim.Native.Nat.{ℕ, zero, suc, ◌+◌, ◌<◌}
use mathlib.Core.Path.{◌≡◌, refl, sym, ap, ◌∙◌}
use mathlib.Core.List.{List, [], ◌∷◌, foldl}
use native.Mathlib.Omega.{arith}
use lib.ListN.{take}

module _ (keep : List ℕ → List ℕ → List ℕ) (last : List ℕ) where
  -- none is to be passed, or no record is left
  pub all_passed : (left : ℕ) (rs : List (List ℕ)) → (0 < left → rs ≡ []) → foldl keep last (take left rs) ≡ last
  all_passed zero rs e = refl
  all_passed (suc left) rs e = ap (λ (x : List (List ℕ)). foldl keep last (take (suc left) x)) (e (omega arith))

  -- one is passed
  pub one_passed : (left : ℕ) (rs : List (List ℕ)) (r : List ℕ) (rest : List (List ℕ)) (new : List ℕ) (less : ℕ) → rs ≡ r ∷ rest → new ≡ keep last r
      → less + 1 ≡ left → foldl keep last (take left rs) ≡ foldl keep new (take less rest)
  one_passed left rs r rest new less e f h =
      let more : left ≡ suc less = omega (arith, h) in
      (λ i. foldl keep last (take (more i) (e i))) ∙ ap (λ (x : List ℕ). foldl keep x (take less rest)) (sym f)
