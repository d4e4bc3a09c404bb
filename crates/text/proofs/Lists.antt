-- One step of a loop that goes through a list by `drop i`, and what the same bytes are. Assumes nothing.
use mathlib.Core.Path.{◌≡◌, refl, ap, ap₂}
use mathlib.Core.Bool.{Bool, true, false, ◌&&◌}
use mathlib.Core.List.{List, [], ◌∷◌}
use Prim.Native.Nat.{ℕ, ◌+◌, ◌-◌, ◌≤◌, ◌<◌}
use native.Mathlib.Nat.{le_of_eq}
use native.Mathlib.Numerals.{add-one}
use native.Mathlib.Omega.{arith}
use lib.ListN.{length, get_or, drop, take, drop_of_length-le, length-drop}
use lib.Dec.{T, eqb}
use lib.Seq.{drop-cons, take_all}
use borrow.Author.Tests.{eq-eqb, eqb-true}
use Rattle.std.specs.List.{list_all}
use Rattle.text.specs.Characters.{all}
use Rattle.text.specs.Order.{same_bytes}

module _ (p : ℕ → Bool) (s : List ℕ) (i : ℕ) where
  -- the rest fails where its first byte fails
  pub all_fails : i < length s → p (get_or s i 0) ≡ false → all p (drop i s) ≡ false
  all_fails h e = rw (drop-cons s i 0 h, e)

  -- where its first byte passes, the rest is what follows
  pub all_next : i < length s → p (get_or s i 0) ≡ true → all p (drop (i + 1) s) ≡ all p (drop i s)
  all_next h e = rw (add-one, drop-cons s i 0 h, e)

  -- its first byte and what follows
  pub all_here : i < length s → all p (drop i s) ≡ (p (get_or s i 0) && all p (drop (i + 1) s))
  all_here h = rw (add-one, drop-cons s i 0 h)

  -- nothing is left at the end
  pub all_end : length s ≤ i → all p (drop i s) ≡ true
  all_end h = rw (drop_of_length-le s h)

-- the library's test of all
pub list_all_is : (p : ℕ → Bool) (s : List ℕ) → list_all p s ≡ all p s
list_all_is p [] = refl
list_all_is p (x ∷ s) = ap (λ (t : Bool). p x && t) (list_all_is p s)

-- the part of a slice from i to its end
pub rest : (i : ℕ) (s : List ℕ) → take (length s - i) (drop i s) ≡ drop i s
rest i s = take_all (length s - i) (drop i s) (le_of_eq (length-drop i s))

-- bytes that are the same are equal, and a list is the same as itself
pub same→≡ : (a b : List ℕ) → T (same_bytes a b) → a ≡ b
same→≡ [] [] t = refl
same→≡ [] (y ∷ ys) t = absurd t
same→≡ (x ∷ xs) [] t = absurd t
same→≡ (x ∷ xs) (y ∷ ys) t = go (eqb x y) refl (λ u. same→≡ xs ys u) t
  where
    go : (b : Bool) → eqb x y ≡ b → (T (same_bytes xs ys) → xs ≡ ys) → T (b && same_bytes xs ys) → x ∷ xs ≡ y ∷ ys
    go true e later t = ap₂ ◌∷◌ (eqb-true x y e) (later t)
    go false e later t = absurd t

pub same_refl : (a : List ℕ) → same_bytes a a ≡ true
same_refl [] = refl
same_refl (x ∷ xs) = rw (eq-eqb x x refl) (same_refl xs)

-- a list of three is its three elements
pub three_of {ℓ} : {A : Type ℓ} (d : A) (s : List A) → length s ≡ 3 → s ≡ get_or s 0 d ∷ get_or s 1 d ∷ get_or s 2 d ∷ []
three_of d [] h = absurd (omega arith)
three_of d (a ∷ []) h = absurd (omega arith)
three_of d (a ∷ b ∷ []) h = absurd (omega arith)
three_of d (a ∷ b ∷ c ∷ []) h = refl
three_of d (a ∷ b ∷ c ∷ e ∷ s) h = absurd (omega arith)
