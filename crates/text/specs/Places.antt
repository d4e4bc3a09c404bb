-- Places in a list, counted from a number: a test of each with its place, and the place of a name. Assumes nothing.
use Rattle.std.specs.Prelude.{ℕ, suc, Bool, true, cond, ◌&&◌, List, [], ◌∷◌}
use Rattle.text.specs.Order.{same_bytes}

-- each of a list passes a test with its place, the first being at place i
abbrev pub each {ℓ} : {A : Type ℓ} → (ℕ → A → Bool) → ℕ → List A → Bool
each test i [] = true
each test i (x ∷ xs) = test i x && each test (suc i) xs

-- the place of a name among names, the first being at place i; 0 where it is none of them
abbrev pub place_of : List ℕ → ℕ → List (List ℕ) → ℕ
place_of name i [] = 0
place_of name i (x ∷ xs) = cond (same_bytes x name) i (place_of name (suc i) xs)
