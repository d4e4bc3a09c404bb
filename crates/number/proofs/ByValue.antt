-- The order of two keys is the order of their values. Assumes nothing.
use mathlib.Core.Path.{◌≡◌, refl, sym, ◌∙◌, ap, ap₂}
use mathlib.Core.Bool.{Bool, true, false, not, ◌&&◌, ◌||◌, false≢true}
use mathlib.Core.List.{List, [], ◌∷◌}
use Prim.Native.Nat.{ℕ, zero, suc, ◌+◌, ◌-◌, ◌*◌, ◌^◌, ◌≤◌, ◌<◌}
use native.Mathlib.Nat.{le_trans, lt_of_lt_of_le, one-mul, pow-zero, pow-succ', mul_assoc, mul-le-mul_right, pow-le-pow_right}
use native.Mathlib.Omega.{arith}
use lib.Dec.{eqb, ltb, lit<}
use lib.IntN.{pos, negsuc, neg_ℤ}
use lib.ListN.{length, get_or}
use borrow.Author.Tests.{ne_eqb, eqb-true, eqb-false, not-true, ltb-true, ltb-false}
use Rattle.text.specs.Characters.{all, is_digit}
use Rattle.text.specs.Order.{number_order, text_order, else}
use Rattle.std.specs.declared.cmp.Ordering.{Ordering}
use Rattle.std.specs.declared.cmp.Ordering.TheVariants.{Less, Equal, Greater}
use Rattle.text.proofs.Orders.{number_below, number_above, number_equal}
use Rattle.number.specs.Numbers.{number, number_from, minus, unsigned, signed, plain, int_form, int_value}
use Rattle.number.specs.Numbers.{digits}
use Rattle.number.specs.Order.{digits_order, whole_order, value_order}
use Rattle.number.proofs.Digits.{and_left, and_right, grows, digit_low, digit_high, upper, plain_some, plain_digits}

-- one number is below, equal to or above another
pub data Stand (x y : ℕ) : Type 0 where
  below : x < y → Stand x y
  equal : x ≡ y → Stand x y
  above : y < x → Stand x y

stand_by : (x y : ℕ) (s t : Bool) → ltb x y ≡ s → ltb y x ≡ t → Stand x y
stand_by x y true t p q = below (ltb-true x y p)
stand_by x y false true p q = above (ltb-true y x q)
stand_by x y false false p q = equal (omega (arith, ltb-false x y p, ltb-false y x q))

pub stand : (x y : ℕ) → Stand x y
stand x y = stand_by x y (ltb x y) (ltb y x) refl refl

pub number_same : (x y : ℕ) → x ≡ y → number_order x y ≡ Equal
number_same x y e = number_equal x y (omega arith) (omega arith)

-- one more digit: what stood before decides, else the digit
one_digit : (v w x y : ℕ) → 48 ≤ x → x ≤ 57 → 48 ≤ y → y ≤ 57
    → number_order (v * 10 + (x - 48)) (w * 10 + (y - 48)) ≡ else (number_order v w) (number_order x y)
one_digit v w x y a b c d = go (stand v w) (stand x y)
  where
    go : Stand v w → Stand x y → number_order (v * 10 + (x - 48)) (w * 10 + (y - 48)) ≡ else (number_order v w) (number_order x y)
    go (below h) k = rw (number_below v w h) (number_below _ _ (omega arith))
    go (above h) k = rw (number_above v w h) (number_above _ _ (omega arith))
    go (equal h) (below k) = rw (number_same v w h, number_below x y k) (number_below _ _ (omega arith))
    go (equal h) (above k) = rw (number_same v w h, number_above x y k) (number_above _ _ (omega arith))
    go (equal h) (equal k) = rw (number_same v w h, number_same x y k) (number_same _ _ (omega arith))

else_equal : (o : Ordering) → else o Equal ≡ o
else_equal Less = refl
else_equal Equal = refl
else_equal Greater = refl

pub else_else : (a b c : Ordering) → else (else a b) c ≡ else a (else b c)
else_else Less b c = refl
else_else Equal b c = refl
else_else Greater b c = refl

-- as many digits: by byte is by value
pub as_long : (v w : ℕ) (a b : List ℕ) → length a ≡ length b → all is_digit a ≡ true → all is_digit b ≡ true
    → else (number_order v w) (text_order a b) ≡ number_order (number_from v a) (number_from w b)
unfolding text_order
as_long v w [] [] h p q = else_equal (number_order v w)
as_long v w [] (y ∷ b) h p q = absurd (omega arith)
as_long v w (x ∷ a) [] h p q = absurd (omega arith)
as_long v w (x ∷ a) (y ∷ b) h p q =
    let dx = and_left (is_digit x) (all is_digit a) p in
    let dy = and_left (is_digit y) (all is_digit b) q in
    sym (else_else (number_order v w) (number_order x y) (text_order a b))
    ∙ ap (λ (o : Ordering). else o (text_order a b)) (sym (one_digit v w x y (digit_low x dx) (digit_high x dx) (digit_low y dy) (digit_high y dy)))
    ∙ as_long (v * 10 + (x - 48)) (w * 10 + (y - 48)) a b (omega arith) (and_right (is_digit x) (all is_digit a) p) (and_right (is_digit y) (all is_digit b) q)

pub as_many : (a b : List ℕ) → length a ≡ length b → all is_digit a ≡ true → all is_digit b ≡ true
    → text_order a b ≡ number_order (number a) (number b)
as_many a b h p q = ap (λ (o : Ordering). else o (text_order a b)) (sym (number_same 0 0 refl)) ∙ as_long 0 0 a b h p q

-- a number is at least what stood before, moved up by its digits
lower : (v : ℕ) (d : List ℕ) → v * 10 ^ length d ≤ number_from v d
lower v [] = rw pow-zero (omega arith)
lower v (x ∷ d) =
    let here : v * 10 ≤ v * 10 + (x - 48) = omega arith in
    rw (pow-succ', ← mul_assoc) (le_trans (mul-le-mul_right (10 ^ length d) here) (lower (v * 10 + (x - 48)) d))

pub or_right : (a b : Bool) → a ≡ false → (a || b) ≡ true → b ≡ true
or_right false b e h = h
or_right true b e h = absurd (false≢true (sym e))

-- a plain number of more than one digit begins with no zero
plain_first : (d : List ℕ) → plain d ≡ true → 1 < length d → 49 ≤ get_or d 0 0
unfolding plain
plain_first [] e h = absurd (omega arith)
plain_first (x ∷ d) e h =
    let none = eqb (length (x ∷ d)) 0 in
    let one = eqb (length (x ∷ d)) 1 in
    let zero-first = eqb x 48 in
    let digit = digit_low x (and_left (is_digit x) (all is_digit d) (and_right (not none && (one || not zero-first)) (all is_digit (x ∷ d)) e)) in
    let other = and_right (not none) (one || not zero-first) (and_left (not none && (one || not zero-first)) (all is_digit (x ∷ d)) e) in
    let ne : x ≡ 48 → ⊥ = eqb-false x 48 (not-true zero-first (or_right one (not zero-first) (ne_eqb (length (x ∷ d)) 1 (λ k. omega arith)) other)) in
    apart x digit ne
  where
    apart : (x : ℕ) → 48 ≤ x → (x ≡ 48 → ⊥) → 49 ≤ x
    apart x h ne = omega arith

-- of two plain numbers the one of more digits is above
pub fewer : (a b : List ℕ) → plain a ≡ true → plain b ≡ true → length a < length b → number a < number b
fewer a [] p q h = absurd (omega arith)
fewer a (y ∷ b) p q h =
    let more : 1 < length (y ∷ b) = omega (arith, plain_some a p) in
    let first : 1 ≤ 0 * 10 + (y - 48) = omega (arith, plain_first (y ∷ b) q more) in
    let up : 10 ^ length a ≤ 10 ^ length b = pow-le-pow_right {n = 10} (lit< tt) {i = length a} {j = length b} (omega arith) in
    let small : number a < 1 * 10 ^ length a = upper 0 a (plain_digits a p) in
    let large : 1 * 10 ^ length b ≤ (0 * 10 + (y - 48)) * 10 ^ length b = mul-le-mul_right (10 ^ length b) first in
    let all-of-it : (0 * 10 + (y - 48)) * 10 ^ length b ≤ number (y ∷ b) = lower (0 * 10 + (y - 48)) b in
    lt_of_lt_of_le (rw one-mul at small) (le_trans up (le_trans (rw one-mul at large) all-of-it))

-- two plain numbers: by length, then by byte, is by value
pub digits_by_value : (a b : List ℕ) → plain a ≡ true → plain b ≡ true → digits_order a b ≡ number_order (number a) (number b)
unfolding digits_order
digits_by_value a b p q = go (stand (length a) (length b))
  where
    go : Stand (length a) (length b) → else (number_order (length a) (length b)) (text_order a b) ≡ number_order (number a) (number b)
    go (below h) = rw (number_below (length a) (length b) h) (sym (number_below (number a) (number b) (fewer a b p q h)))
    go (above h) = rw (number_above (length a) (length b) h) (sym (number_above (number a) (number b) (fewer b a q p h)))
    go (equal h) = rw (number_same (length a) (length b) h) (as_many a b h (plain_digits a p) (plain_digits b q))

-- a plain number that does not begin with zero is not 0
plain_above : (d : List ℕ) → plain d ≡ true → (get_or d 0 0 ≡ 48 → ⊥) → 0 < number d
plain_above [] p h = plain_some [] p
plain_above (x ∷ d) p h =
    let digit = digit_low x (and_left (is_digit x) (all is_digit d) (plain_digits (x ∷ d) p)) in
    let first : 1 ≤ 0 * 10 + (x - 48) = apart x digit h in
    le_trans first (grows (0 * 10 + (x - 48)) d)
  where
    apart : (x : ℕ) → 48 ≤ x → (x ≡ 48 → ⊥) → 1 ≤ 0 * 10 + (x - 48)
    apart x h ne = omega arith

-- the parts of an int's form, by its sign
int_plain : (s : List ℕ) → int_form s ≡ true → plain (unsigned s) ≡ true
unfolding int_form
int_plain s e = and_left (plain (unsigned s)) (not (minus s && eqb (get_or (unsigned s) 0 0) 48)) e

below_zero : (s : List ℕ) → int_form s ≡ true → minus s ≡ true → 0 < number (unsigned s)
unfolding int_form
below_zero s e m =
    let z = and_right (plain (unsigned s)) (not (minus s && eqb (get_or (unsigned s) 0 0) 48)) e in
    plain_above (unsigned s) (int_plain s e) (eqb-false (get_or (unsigned s) 0 0) 48 (not-true (eqb (get_or (unsigned s) 0 0) 48) (rw m at z)))

-- where there is no minus, none is taken off
pub bare_is : (s : List ℕ) → minus s ≡ false → unsigned s ≡ s
unfolding unsigned
bare_is s e = rw e

-- numbers below zero stand the other way round
below_order : (m n : ℕ) → 0 < m → 0 < n → value_order (neg_ℤ (pos m)) (neg_ℤ (pos n)) ≡ number_order n m
unfolding value_order
below_order zero n h k = absurd (omega arith)
below_order (suc m) zero h k = absurd (omega arith)
below_order (suc m) (suc n) h k = go (stand n m)
  where
    go : Stand n m → value_order (negsuc m) (negsuc n) ≡ number_order (suc n) (suc m)
    go (below e) = number_below n m e ∙ sym (number_below (suc n) (suc m) (omega arith))
    go (above e) = number_above n m e ∙ sym (number_above (suc n) (suc m) (omega arith))
    go (equal e) = number_same n m e ∙ sym (number_same (suc n) (suc m) (omega arith))

below_above : (m n : ℕ) → 0 < m → value_order (neg_ℤ (pos m)) (pos n) ≡ Less
unfolding value_order
below_above zero n h = absurd (omega arith)
below_above (suc m) n h = refl

above_below : (m n : ℕ) → 0 < n → value_order (pos m) (neg_ℤ (pos n)) ≡ Greater
unfolding value_order
above_below m zero h = absurd (omega arith)
above_below m (suc n) h = refl

above_order : (m n : ℕ) → value_order (pos m) (pos n) ≡ number_order m n
unfolding value_order
above_order m n = refl

-- signs first, then digits, is by value, where the digits go by their numbers and no minus stands before 0
module _ (a b : List ℕ) (m n : ℕ) (ahead : digits_order (unsigned a) (unsigned b) ≡ number_order m n)
    (back : digits_order (unsigned b) (unsigned a) ≡ number_order n m) (a-some : minus a ≡ true → 0 < m) (b-some : minus b ≡ true → 0 < n) where
  by_signs : (s t : Bool) → minus a ≡ s → minus b ≡ t → whole_order a b ≡ value_order (signed (minus a) m) (signed (minus b) n)
  unfolding whole_order
  by_signs true true e f = rw (e, f) (back ∙ sym (below_order m n (a-some e) (b-some f)))
  by_signs true false e f = rw (e, f) (sym (below_above m n (a-some e)))
  by_signs false true e f = rw (e, f) (sym (above_below m n (b-some f)))
  by_signs false false e f = rw (e, f) (ap₂ digits_order (sym (bare_is a e)) (sym (bare_is b f)) ∙ ahead ∙ sym (above_order m n))

  pub signed_by_value : whole_order a b ≡ value_order (signed (minus a) m) (signed (minus b) n)
  signed_by_value = by_signs (minus a) (minus b) refl refl

-- two ints stand as their values do
pub by_value : (a b : List ℕ) → int_form a ≡ true → int_form b ≡ true → whole_order a b ≡ value_order (int_value a) (int_value b)
unfolding int_value
by_value a b p q =
    signed_by_value a b (number (unsigned a)) (number (unsigned b))
    (digits_by_value (unsigned a) (unsigned b) (int_plain a p) (int_plain b q))
    (digits_by_value (unsigned b) (unsigned a) (int_plain b q) (int_plain a p))
    (below_zero a p) (below_zero b q)

-- digits are no minus
pub no_sign : (s : List ℕ) → all is_digit s ≡ true → minus s ≡ false
unfolding minus
no_sign [] e = refl
no_sign (x ∷ s) e = ne_eqb x 45 (far x (digit_low x (and_left (is_digit x) (all is_digit s) e)))
  where
    far : (x : ℕ) → 48 ≤ x → x ≡ 45 → ⊥
    far x h e = omega arith

-- two dates, or two datetimes, stand as their values do
pub dates_by_value : (n : ℕ) (a b : List ℕ) → digits n a ≡ true → digits n b ≡ true
    → whole_order a b ≡ value_order (pos (number a)) (pos (number b))
unfolding whole_order digits_order
dates_by_value n a b p q =
    let da = and_right (eqb (length a) n) (all is_digit a) p in
    let db = and_right (eqb (length b) n) (all is_digit b) q in
    let la = eqb-true (length a) n (and_left (eqb (length a) n) (all is_digit a) p) in
    let lb = eqb-true (length b) n (and_left (eqb (length b) n) (all is_digit b) q) in
    rw (no_sign a da, no_sign b db, number_same (length a) (length b) (la ∙ sym lb))
    (as_many a b (la ∙ sym lb) da db ∙ sym (above_order (number a) (number b)))
