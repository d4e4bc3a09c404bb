-- Rows of a table: the row of a kind. Assumes nothing.
use Prim.Native.Nat.{ℕ, zero, suc, ◌<◌}
use native.Mathlib.Nat.{le_of_suc-le-suc, not-suc-le-zero}
use native.Mathlib.Omega.{arith}
use mathlib.Core.Path.{◌≡◌, refl, sym, ap₂, ◌∙◌}
use mathlib.Core.Logic.{⊎_elim}
use mathlib.Core.List.{List, [], ◌∷◌}
use lib.Dec.{T}
use lib.ListN.{length, get_or}
use Rattle.text.specs.Order.{same_bytes}
use Rattle.text.specs.Places.{place_of}
use Rattle.text.proofs.Lists.{same→≡, same_refl}
use Rattle.grammar.specs.Walk.{among}
use Rattle.grammar.specs.Table.{row_of, same_names}
use Rattle.text.proofs.Tests.{or_cases, or_left, or_right, and_left, and_right, cond_true, cond_false, by_test, holds}

-- the same names are equal
pub names_same : (xs ys : List (List ℕ)) → T (same_names xs ys) → xs ≡ ys
names_same [] [] t = refl
names_same [] (y ∷ ys) t = absurd t
names_same (x ∷ xs) [] t = absurd t
names_same (x ∷ xs) (y ∷ ys) t =
    ap₂ ◌∷◌ (same→≡ x y (and_left (same_bytes x y) (same_names xs ys) t)) (names_same xs ys (and_right (same_bytes x y) (same_names xs ys) t))

-- a kind whose row is 0 is none of the names
row_none_from : (i : ℕ) (xs : List (List ℕ)) (k : List ℕ) → place_of k (suc i) xs ≡ 0 → T (among k xs) → ⊥
row_none_from i [] k e t = t
row_none_from i (x ∷ xs) k e t =
    by_test (same_bytes x k)
    (λ (s : T (same_bytes x k)). let f : suc i ≡ 0 = sym (cond_true (same_bytes x k) _ _ s) ∙ e in omega arith)
    (λ (s : T (same_bytes x k) → ⊥).
    ⊎_elim s (λ (p : T (among k xs)). row_none_from (suc i) xs k (sym (cond_false (same_bytes x k) _ _ s) ∙ e) p)
    (or_cases (same_bytes x k) (among k xs) t))

pub row_none : (names : List (List ℕ)) (k : List ℕ) → row_of names k ≡ 0 → T (among k names) → ⊥
row_none names k e t = row_none_from 0 names k e t

-- each name is one of the names
pub among_at : (xs : List (List ℕ)) (m : ℕ) → m < length xs → T (among (get_or xs m []) xs)
among_at [] m h = absurd (not-suc-le-zero h)
among_at (x ∷ xs) zero h = or_left (same_bytes x x) (among x xs) (holds (same_refl x))
among_at (x ∷ xs) (suc m) h = or_right (same_bytes x (get_or xs m [])) (among (get_or xs m []) xs) (among_at xs m (le_of_suc-le-suc h))
