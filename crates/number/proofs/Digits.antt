-- The numbers that digits spell. Assumes nothing.
use mathlib.Core.Path.{◌≡◌, refl}
use mathlib.Core.Bool.{Bool, true, false, ◌&&◌, ◌||◌, not, and-true, false≢true}
use mathlib.Core.List.{List, [], ◌∷◌, ◌++◌}
use Prim.Native.Nat.{ℕ, ◌+◌, ◌-◌, ◌*◌, ◌^◌, ◌≤◌, ◌<◌}
use native.Mathlib.Numerals.{add-one}
use native.Mathlib.Nat.{le_refl, lt_of_lt_of_le, mul_assoc, mul-le-mul_right, pow-zero, pow-succ'}
use native.Mathlib.Omega.{arith}
use borrow.Author.Tests.{leb-true, le-leb}
use lib.Dec.{leb, eqb}
use lib.ListN.{length, get_or, drop, drop_of_length-le}
use lib.Seq.{drop-cons}
use Rattle.text.specs.Characters.{all, is_digit}
use Rattle.number.specs.Numbers.{number_from, minus, unsigned, plain, int_form}

pub and_left : (a b : Bool) → (a && b) ≡ true → a ≡ true
and_left true b e = refl
and_left false b e = e

pub and_right : (a b : Bool) → (a && b) ≡ true → b ≡ true
and_right true b e = e
and_right false true e = refl
and_right false false e = e

pub all_append : (p : ℕ → Bool) (a b : List ℕ) → all p a ≡ true → all p b ≡ true → all p (a ++ b) ≡ true
all_append p [] b e f = f
all_append p (x ∷ a) b e f = rw (and_left (p x) (all p a) e) (all_append p a b (and_right (p x) (all p a) e) f)

pub digit_low : (b : ℕ) → is_digit b ≡ true → 48 ≤ b
unfolding is_digit
digit_low b e = leb-true 48 b (and_left (leb 48 b) (leb b 57) e)

pub digit_high : (b : ℕ) → is_digit b ≡ true → b ≤ 57
unfolding is_digit
digit_high b e = leb-true b 57 (and_right (leb 48 b) (leb b 57) e)

pub digit_is : (b : ℕ) → 48 ≤ b → b ≤ 57 → is_digit b ≡ true
unfolding is_digit
digit_is b k h = rw (le-leb _ _ k, le-leb _ _ h)

-- a number only grows with more digits
pub grows : (v : ℕ) (d : List ℕ) → v ≤ number_from v d
grows v [] = le_refl v
grows v (x ∷ xs) = omega (arith, grows (v * 10 + (x - 48)) xs)

-- n digits more keep a number below the next one moved up by n digits
pub upper : (v : ℕ) (d : List ℕ) → all is_digit d ≡ true → number_from v d < (v + 1) * 10 ^ length d
upper v [] e = rw pow-zero (omega arith)
upper v (x ∷ d) e =
    let digit = digit_high x (and_left (is_digit x) (all is_digit d) e) in
    let here : v * 10 + (x - 48) + 1 ≤ (v + 1) * 10 = above v x digit in
    rw (pow-succ', ← mul_assoc)
    (lt_of_lt_of_le (upper (v * 10 + (x - 48)) d (and_right (is_digit x) (all is_digit d) e)) (mul-le-mul_right (10 ^ length d) here))
  where
    above : (v x : ℕ) → x ≤ 57 → v * 10 + (x - 48) + 1 ≤ (v + 1) * 10
    above v x h = omega arith

module _ (s : List ℕ) (i : ℕ) (h : i < length s) where
  pub number_next : (v : ℕ) → number_from v (drop i s) ≡ number_from (v * 10 + (get_or s i 0 - 48)) (drop (i + 1) s)
  number_next v = rw (add-one, drop-cons s i 0 h)

pub number_end : (v : ℕ) (s : List ℕ) (i : ℕ) → length s ≤ i → number_from v (drop i s) ≡ v
number_end v s i h = rw (drop_of_length-le s h)

pub plain_some : (d : List ℕ) → plain d ≡ true → 0 < length d
unfolding plain
plain_some [] e = absurd (false≢true e)
plain_some (x ∷ d) e = omega arith

pub plain_digits : (d : List ℕ) → plain d ≡ true → all is_digit d ≡ true
unfolding plain
plain_digits d e = and_right (not (eqb (length d) 0) && (eqb (length d) 1 || not (eqb (get_or d 0 0) 48))) (all is_digit d) e

pub number_append : (v : ℕ) (a b : List ℕ) → number_from v (a ++ b) ≡ number_from (number_from v a) b
number_append v [] b = refl
number_append v (x ∷ a) b = number_append (v * 10 + (x - 48)) a b

pub minus_some : (s : List ℕ) → minus s ≡ true → 1 ≤ length s
unfolding minus
minus_some [] e = absurd (false≢true e)
minus_some (x ∷ s) e = omega arith

-- the form of an int by its sign
module _ (s : List ℕ) where
  pub form_below : minus s ≡ true → int_form s ≡ (plain (drop 1 s) && not (eqb (get_or (drop 1 s) 0 0) 48))
  unfolding int_form unsigned
  form_below e = rw e

  pub form_above : minus s ≡ false → int_form s ≡ plain s
  unfolding int_form unsigned
  form_above e = rw e (and-true (plain s))
