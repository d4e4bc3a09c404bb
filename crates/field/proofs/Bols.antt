-- What a yes or no is spelled like.
use Prim.Native.Nat.{ℕ, suc}
use mathlib.Core.Path.{◌≡◌, refl, sym, ap, ◌∙◌}
use mathlib.Core.Bool.{Bool, true, false, ◌&&◌, ◌||◌, false≢true}
use mathlib.Core.Logic.{◌↔◌, ◌⊎◌, inl, inr}
use mathlib.Core.List.{List, [], ◌∷◌}
use lib.Dec.{eqb}
use native.Mathlib.Omega.{arith}
use lib.ListN.{length}
use borrow.Author.Tests.{eqb-true, ne_eqb}
use Rattle.text.specs.Characters.{bytes}
use Rattle.field.specs.Types.{bol_form}

-- one of two bytes
letter : (b : ℕ) (t : Bool) → eqb b 84 ≡ t → (t || eqb b 70) ≡ true → (b ∷ [] ≡ bytes "T") ⊎ (b ∷ [] ≡ bytes "F")
letter b true e h = inl (ap (λ (x : ℕ). x ∷ []) (eqb-true b 84 e))
letter b false e h = inr (ap (λ (x : ℕ). x ∷ []) (eqb-true b 70 h))

spelled : (s : List ℕ) → bol_form s ≡ true → (s ≡ bytes "T") ⊎ (s ≡ bytes "F")
unfolding bol_form
spelled [] h = absurd (false≢true h)
spelled (b ∷ []) h = letter b (eqb b 84) refl h
spelled (b ∷ c ∷ s) h =
    let long : eqb (length (b ∷ c ∷ s)) 1 ≡ false = ne_eqb (length (b ∷ c ∷ s)) 1 (λ (e : suc (suc (length s)) ≡ 1). omega arith) in
    absurd (false≢true (sym (ap (λ (t : Bool). t && (eqb b 84 || eqb b 70)) long) ∙ h))

taken : (s : List ℕ) → (s ≡ bytes "T") ⊎ (s ≡ bytes "F") → bol_form s ≡ true
unfolding bol_form
taken s (inl e) = ap bol_form e ∙ refl
taken s (inr e) = ap bol_form e ∙ refl

-- T or F, and nothing else
pub t_or_f : (s : List ℕ) → (bol_form s ≡ true) ↔ ((s ≡ bytes "T") ⊎ (s ≡ bytes "F"))
t_or_f s = (spelled s, taken s)
