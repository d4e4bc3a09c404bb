-- Laws of places in a list. Assumes nothing.
use Prim.Native.Nat.{ℕ, zero, suc, ◌+◌, ◌≤◌, ◌<◌}
use native.Mathlib.Nat.{add-zero, le_of_suc-le-suc, not-suc-le-zero}
use native.Mathlib.Omega.{arith}
use mathlib.Core.Path.{◌≡◌, refl, sym, ap, ◌∙◌}
use mathlib.Core.Bool.{Bool, true, false}
use mathlib.Core.List.{List, [], ◌∷◌}
use lib.Dec.{T}
use lib.ListN.{length, get_or}
use Rattle.text.specs.Characters.{all}
use Rattle.text.specs.Order.{same_bytes}
use Rattle.text.specs.Places.{each, place_of}
use Rattle.text.proofs.Lists.{same→≡}
use Rattle.text.proofs.Tests.{and_left, and_right, cond_true, cond_false, by_test}

-- a test of each passes at each place
pub each_at {ℓ} : {A : Type ℓ} (test : ℕ → A → Bool) (d : A) (i : ℕ) (xs : List A) → T (each test i xs)
    → (m n : ℕ) → m < length xs → n ≡ i + m → T (test n (get_or xs m d))
each_at test d i [] t m n h e = absurd (not-suc-le-zero h)
each_at test d i (x ∷ xs) t zero n h e = rw (e, add-zero i) (and_left (test i x) (each test (suc i) xs) t)
each_at test d i (x ∷ xs) t (suc m) n h e =
    each_at test d (suc i) xs (and_right (test i x) (each test (suc i) xs) t) m n (le_of_suc-le-suc h) (omega arith)

-- a test that each passes, and what stands for none of them, passes at any place
pub all_at {ℓ} : {A : Type ℓ} (test : A → Bool) (d : A) (xs : List A) → T (all test xs) → T (test d) → (i : ℕ) → T (test (get_or xs i d))
all_at test d [] t h i = h
all_at test d (x ∷ xs) t h zero = and_left (test x) (all test xs) t
all_at test d (x ∷ xs) t h (suc i) = all_at test d xs (and_right (test x) (all test xs) t) h i

-- a chain of tests, name by name: those before place i are passed, and these are left
pub record Sought (names : List (List ℕ)) (name : List ℕ) (i : ℕ) (left : List (List ℕ)) : Type 0 where
  pub is : place_of name 1 names ≡ place_of name i left

pub sought_all : {names : List (List ℕ)} {name : List ℕ} → Sought names name 1 names
sought_all = record { is = refl }

module _ {names : List (List ℕ)} {name x : List ℕ} {i : ℕ} {left : List (List ℕ)} (s : Sought names name i (x ∷ left)) where
  -- the first name that is the same decides
  pub sought_here : same_bytes x name ≡ true → place_of name 1 names ≡ i
  sought_here e = s.is ∙ rw e

  -- one that is not leaves the others
  pub sought_next : same_bytes x name ≡ false → Sought names name (suc i) left
  sought_next e = record { is = s.is ∙ rw e }

-- at a place that is not 0 the name stands
place_from : (name : List ℕ) (i : ℕ) (xs : List (List ℕ)) (j : ℕ) → place_of name (suc i) xs ≡ suc j
    → (m : ℕ) × (j ≡ i + m) × (m < length xs) × (get_or xs m [] ≡ name)
place_from name i [] j e = absurd (omega arith)
place_from name i (x ∷ xs) j e =
    by_test (same_bytes x name)
    (λ (t : T (same_bytes x name)).
    let f : suc i ≡ suc j = sym (cond_true (same_bytes x name) _ _ t) ∙ e in
    (0, omega arith, omega arith, same→≡ x name t))
    (λ (t : T (same_bytes x name) → ⊥).
    let q : (m : ℕ) × (j ≡ suc i + m) × (m < length xs) × (get_or xs m [] ≡ name) =
    place_from name (suc i) xs j (sym (cond_false (same_bytes x name) _ _ t) ∙ e) in
    (suc q.0, omega (arith, q.1), omega (arith, q.2), q.3))

module _ (name : List ℕ) (names : List (List ℕ)) where
  pub place_name : (j : ℕ) → place_of name 1 names ≡ suc j → (j < length names) × (get_or names j [] ≡ name)
  place_name j e =
      let q : (m : ℕ) × (j ≡ 0 + m) × (m < length names) × (get_or names m [] ≡ name) = place_from name 0 names j e in
      let f : j ≡ q.0 = omega (arith, q.1) in
      (omega (arith, q.2, f), ap (λ (m : ℕ). get_or names m []) f ∙ q.3)

  -- no place is past the last
  most_go : (k : ℕ) → place_of name 1 names ≡ k → k ≤ length names
  most_go zero e = omega arith
  most_go (suc j) e = omega (arith, (place_name j e).0)

  pub place_most : place_of name 1 names ≤ length names
  place_most = most_go (place_of name 1 names) refl
