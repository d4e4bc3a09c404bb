-- The order of two numbers and of two texts. Assumes nothing.
use mathlib.Core.Path.{◌≡◌, refl, ap₂, ◌∙◌}
use mathlib.Core.Bool.{Bool, true, false, cond}
use mathlib.Core.List.{List, [], ◌∷◌}
use Prim.Native.Nat.{ℕ, ◌≤◌, ◌<◌}
use native.Mathlib.Omega.{arith}
use lib.Dec.{eqb, ltb}
use borrow.Author.Tests.{lt-ltb, le-ltb, ltb-true, ltb-false, eq-eqb, ne_eqb}
use Rattle.std.specs.Cmp.Lexicographic.{slice_cmp}
use Rattle.std.specs.Ordering.{nat_cmp, ordering_then}
use Rattle.std.specs.declared.cmp.Ordering.{Ordering}
use Rattle.std.specs.declared.cmp.Ordering.TheVariants.{Less, Equal, Greater}
use Rattle.text.specs.Order.{number_order, text_order, else}

pub number_below : (x y : ℕ) → x < y → number_order x y ≡ Less
unfolding number_order
number_below x y h = rw (lt-ltb x y h)

pub number_above : (x y : ℕ) → y < x → number_order x y ≡ Greater
unfolding number_order
number_above x y h = let k : y ≤ x = omega arith in rw (le-ltb x y k, lt-ltb y x h)

pub number_equal : (x y : ℕ) → y ≤ x → x ≤ y → number_order x y ≡ Equal
unfolding number_order
number_equal x y h k = rw (le-ltb x y h, le-ltb y x k)

-- the library's comparison of two numbers is this order
pub nat_cmp_is : (x y : ℕ) → nat_cmp x y ≡ number_order x y
unfolding number_order
nat_cmp_is x y = go (ltb x y) (ltb y x) refl refl
  where
    go : (s t : Bool) → ltb x y ≡ s → ltb y x ≡ t → cond s Less (cond (eqb x y) Equal Greater) ≡ cond s Less (cond t Greater Equal)
    go true t p q = refl
    go false true p q = let h : y < x = ltb-true y x q in rw (ne_eqb x y (λ e. omega arith))
    go false false p q = rw (eq-eqb x y (omega (arith, ltb-false x y p, ltb-false y x q)))

then_is : (o later : Ordering) → ordering_then o later ≡ else o later
then_is Less later = refl
then_is Equal later = refl
then_is Greater later = refl

-- and its comparison of two slices of bytes is the order of texts
pub slice_cmp_is : (a b : List ℕ) → slice_cmp nat_cmp a b ≡ text_order a b
unfolding text_order
slice_cmp_is [] [] = refl
slice_cmp_is [] (y ∷ ys) = refl
slice_cmp_is (x ∷ xs) [] = refl
slice_cmp_is (x ∷ xs) (y ∷ ys) = ap₂ ordering_then (nat_cmp_is x y) (slice_cmp_is xs ys) ∙ then_is (number_order x y) (text_order xs ys)

-- only equal numbers, and only equal texts, stand Equal
number_same : (x y : ℕ) (s t : Bool) → ltb x y ≡ s → ltb y x ≡ t → cond s Less (cond t Greater Equal) ≡ Equal → x ≡ y
number_same x y true t p q e = let z : ◌≡◌ {A = ℕ} 0 1 = cc in absurd (omega arith)
number_same x y false true p q e = let z : ◌≡◌ {A = ℕ} 0 1 = cc in absurd (omega arith)
number_same x y false false p q e = omega (arith, ltb-false x y p, ltb-false y x q)

pub number_order_same : (x y : ℕ) → number_order x y ≡ Equal → x ≡ y
unfolding number_order
number_order_same x y e = number_same x y (ltb x y) (ltb y x) refl refl e

pub text_order_same : (a b : List ℕ) → text_order a b ≡ Equal → a ≡ b
unfolding text_order
text_order_same [] [] e = refl
text_order_same [] (y ∷ ys) e = let z : ◌≡◌ {A = ℕ} 0 1 = cc in absurd (omega arith)
text_order_same (x ∷ xs) [] e = let z : ◌≡◌ {A = ℕ} 0 1 = cc in absurd (omega arith)
text_order_same (x ∷ xs) (y ∷ ys) e = go (number_order x y) refl (λ q. text_order_same xs ys q) e
  where
    go : (o : Ordering) → number_order x y ≡ o → (text_order xs ys ≡ Equal → xs ≡ ys) → else o (text_order xs ys) ≡ Equal → x ∷ xs ≡ y ∷ ys
    go Less p later q = let z : ◌≡◌ {A = ℕ} 0 1 = cc in absurd (omega arith)
    go Equal p later q = ap₂ ◌∷◌ (number_order_same x y p) (later q)
    go Greater p later q = let z : ◌≡◌ {A = ℕ} 0 1 = cc in absurd (omega arith)
