-- A word compared by its length and then byte by byte. Assumes nothing.
use mathlib.Core.Path.{◌≡◌, refl, ◌∙◌}
use mathlib.Core.Bool.{Bool, true, false, ◌&&◌}
use mathlib.Core.List.{List, [], ◌∷◌}
use Prim.Native.Nat.{ℕ, suc}
use Prim.Native.Nat.compare.{suc-suc}
use native.Mathlib.Omega.{arith}
use borrow.Author.Tests.{ne_eqb}
use lib.Dec.{eqb}
use lib.ListN.{length, get_or}
use lib.Pointwise.{pointwise}
use Rattle.std.proofs.Common.{nat_eq}
use Rattle.std.proofs.lemmas.Bool.Decides.{nat_tests}
use Rattle.text.specs.Order.{same_bytes}

-- the bytes of p stand in s from i on
abbrev pub reads : List ℕ → ℕ → List ℕ → Bool
reads s i [] = true
reads s i (c ∷ p) = eqb (get_or s i 0) c && reads s (suc i) p

shifted : (x : ℕ) (s : List ℕ) (i : ℕ) (p : List ℕ) → reads (x ∷ s) (suc i) p ≡ reads s i p
shifted x s i [] = refl
shifted x s i (c ∷ p) = rw (shifted x s (suc i) p)

pub same_by_reads : (s p : List ℕ) → same_bytes s p ≡ (eqb (length s) (length p) && reads s 0 p)
same_by_reads [] [] = refl
same_by_reads [] (c ∷ p) = rw (ne_eqb 0 (suc (length p)) (λ e. omega (arith, e)))
same_by_reads (x ∷ s) [] = rw (ne_eqb (suc (length s)) 0 (λ e. omega (arith, e)))
same_by_reads (x ∷ s) (c ∷ p) = rw (shifted x s 0 p, same_by_reads s p, suc-suc (length s) (length p)) (swapped (eqb x c) (eqb (length s) (length p)) (reads s 0 p))
  where
    swapped : (a b r : Bool) → (a && (b && r)) ≡ (b && (a && r))
    swapped true b r = refl
    swapped false true r = refl
    swapped false false r = refl

-- std's comparison of slices is the same
pub same_pointwise : (s p : List ℕ) → same_bytes s p ≡ pointwise nat_eq s p
same_pointwise [] [] = refl
same_pointwise [] (y ∷ p) = refl
same_pointwise (x ∷ s) [] = refl
same_pointwise (x ∷ s) (y ∷ p) = rw (same_pointwise s p)

-- what tells a word in a match on words
pub ruleset by_bytes = (same_by_reads, nat_tests)

-- and where the definition has the word first
pub flipped : (a b : List ℕ) → same_bytes a b ≡ same_bytes b a
flipped [] [] = refl
flipped [] (y ∷ b) = refl
flipped (x ∷ a) [] = refl
flipped (x ∷ a) (y ∷ b) = rw (eqb_flip x y, flipped a b)
  where
    eqb_flip : (x y : ℕ) → eqb x y ≡ eqb y x
    eqb_flip x y = grind (arith, nat_tests)

pub first_by_reads : (p s : List ℕ) → same_bytes p s ≡ (eqb (length s) (length p) && reads s 0 p)
first_by_reads p s = flipped p s ∙ same_by_reads s p

pub ruleset by_bytes_first = (first_by_reads, nat_tests)
