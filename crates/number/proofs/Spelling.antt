-- An int of right form is the only spelling of its number, and the digits of a number are that spelling. Assumes nothing.
use mathlib.Core.Path.{◌≡◌, refl, sym, ◌∙◌, ap}
use mathlib.Core.Bool.{Bool, true, false, not, cond, ◌&&◌, ◌||◌, and-true, or-true, false≢true}
use mathlib.Core.List.{List, [], ◌∷◌, ◌++◌}
use Prim.Native.Nat.{ℕ, zero, suc, ◌+◌, ◌*◌, ◌/◌, ◌%◌, ◌^◌, ◌≤◌, ◌<◌}
use native.Mathlib.Nat.{div-add-mod', div-lt_iff_lt-mul, mod-lt, pow-suc}
use native.Mathlib.Omega.{arith}
use lib.Dec.{eqb, leb, ltb, lit<}
use lib.IntN.{ℤ, pos, negsuc}
use lib.ListN.{length, get_or, length-append, get_or-append}
use borrow.Author.Tests.{eq-eqb, ne_eqb, le-leb, eqb-true, lt-ltb, ltb-true, ltb-false}
use Rattle.text.specs.Characters.{all, is_digit}
use Rattle.text.specs.Order.{number_order, text_order, else}
use Rattle.std.specs.declared.cmp.Ordering.{Ordering}
use Rattle.std.specs.declared.cmp.Ordering.TheVariants.{Less, Equal, Greater}
use Rattle.text.proofs.Orders.{text_order_same}
use Rattle.number.specs.Numbers.{number, minus, unsigned, plain, int_form, int_value, spelled, decimal_in, decimal}
use Rattle.number.specs.Order.{digits_order, whole_order, value_order}
use Rattle.number.proofs.Digits.{and_left, and_right, all_append, digit_is, number_append}
use Rattle.number.proofs.Digits.{form_above}
use Rattle.number.proofs.ByValue.{number_same, bare_is, no_sign, digits_by_value, by_value}

-- where the whole order is Equal, so is the later one
else_same : (o later : Ordering) → else o later ≡ Equal → later ≡ Equal
else_same Less later e = let z : ◌≡◌ {A = ℕ} 0 1 = cc in absurd (omega arith)
else_same Equal later e = e
else_same Greater later e = let z : ◌≡◌ {A = ℕ} 0 1 = cc in absurd (omega arith)

digits_same : (a b : List ℕ) → digits_order a b ≡ Equal → a ≡ b
unfolding digits_order
digits_same a b e = text_order_same a b (else_same (number_order (length a) (length b)) (text_order a b) e)

-- two plain numbers of one value are the same digits
pub plain_one : (a b : List ℕ) → plain a ≡ true → plain b ≡ true → number a ≡ number b → a ≡ b
plain_one a b p q e = digits_same a b (digits_by_value a b p q ∙ number_same (number a) (number b) e)

minus_first : (s : List ℕ) → minus s ≡ true → s ≡ 45 ∷ unsigned s
unfolding minus unsigned
minus_first [] e = absurd (false≢true e)
minus_first (x ∷ s) e = rw e (ap (λ (b : ℕ). b ∷ s) (eqb-true x 45 e))

pub value_same : (v : ℤ) → value_order v v ≡ Equal
unfolding value_order
value_same (pos n) = number_same n n refl
value_same (negsuc n) = number_same n n refl

pub whole_same : (a b : List ℕ) (s t : Bool) → minus a ≡ s → minus b ≡ t → whole_order a b ≡ Equal → a ≡ b
unfolding whole_order
whole_same a b true true e f h =
    minus_first a e ∙ ap (λ (d : List ℕ). 45 ∷ d) (sym (digits_same (unsigned b) (unsigned a) (rw (e, f) at h))) ∙ sym (minus_first b f)
whole_same a b true false e f h =
    let k : Less ≡ Equal = rw (e, f) at h in
    let z : ◌≡◌ {A = ℕ} 0 1 = cc in
    absurd (omega arith)
whole_same a b false true e f h =
    let k : Greater ≡ Equal = rw (e, f) at h in
    let z : ◌≡◌ {A = ℕ} 0 1 = cc in
    absurd (omega arith)
whole_same a b false false e f h = digits_same a b (rw (e, f) at h)

-- two ints of right form and one value are the same bytes
pub one_spelling : (a b : List ℕ) → int_form a ≡ true → int_form b ≡ true → int_value a ≡ int_value b → a ≡ b
one_spelling a b p q e =
    whole_same a b (minus a) (minus b) refl refl
    (by_value a b p q ∙ ap (λ (v : ℤ). value_order v (int_value b)) e ∙ value_same (int_value b))

-- what it is to spell n
module _ (n : ℕ) (s : List ℕ) (e : spelled n s ≡ true) where
  pub spelled_plain : plain s ≡ true
  unfolding spelled
  spelled_plain = and_left (plain s) (eqb (number s) n) (and_right (leb (length s) 10) (plain s && eqb (number s) n) e)

  pub spelled_number : number s ≡ n
  unfolding spelled
  spelled_number = eqb-true (number s) n (and_right (plain s) (eqb (number s) n) (and_right (leb (length s) 10) (plain s && eqb (number s) n) e))

-- only one list spells n
pub spelled_one : (n : ℕ) (s t : List ℕ) → spelled n s ≡ true → spelled n t ≡ true → s ≡ t
spelled_one n s t p q =
    plain_one s t (spelled_plain n s p) (spelled_plain n t q) (spelled_number n s p ∙ sym (spelled_number n t q))

-- what the digits of n are
record Right (n : ℕ) (d : List ℕ) : Type 0 where
  some : 0 < length d
  digits : all is_digit d ≡ true
  value : number d ≡ n
  first : 0 < n → get_or d 0 0 ≡ 48 → ⊥
  short : (j : ℕ) → n < 10 ^ suc j → length d ≤ suc j

right_one : (n : ℕ) → n < 10 → Right n ((n + 48) ∷ [])
right_one n h =
    record {
      some = omega arith;
      digits = and-true (is_digit (n + 48)) ∙ digit_is (n + 48) (omega arith) (omega arith);
      value = omega arith;
      first = λ k e. omega arith;
      short = λ j k. omega arith;
    }

-- there is room for the digits before the last
room : (n len j : ℕ) → 10 ≤ n → n < 10 ^ suc j → ((i : ℕ) → n / 10 < 10 ^ suc i → len ≤ suc i) → len + 1 ≤ suc j
room n len zero h k f = absurd (omega arith)
room n len (suc j) h k f =
    let below : n < 10 ^ suc j * 10 = rw pow-suc at k in
    let fits : n / 10 < 10 ^ suc j = (div-lt_iff_lt-mul {k = 10} {x = n} {y = 10 ^ suc j} (lit< tt)).1 below in
    omega (arith, f j fits)

right_more : (n : ℕ) (a : List ℕ) → 10 ≤ n → Right (n / 10) a → Right n (a ++ ((n % 10 + 48) ∷ []))
right_more n a h r =
    let last : n % 10 < 10 = mod-lt n {m = 10} (lit< tt) in
    let long : length (a ++ ((n % 10 + 48) ∷ [])) ≡ length a + 1 = length-append a ((n % 10 + 48) ∷ []) in
    record {
      some = omega arith;
      digits = all_append is_digit a ((n % 10 + 48) ∷ []) r.digits (and-true (is_digit (n % 10 + 48)) ∙ digit_is (n % 10 + 48) (omega arith) (omega arith));
      value = number_append 0 a ((n % 10 + 48) ∷ []) ∙ omega (arith, r.value, div-add-mod' n 10);
      first = λ k e. r.first (omega (arith, div-add-mod' n 10)) (sym (get_or-append a ((n % 10 + 48) ∷ []) 0 0 r.some) ∙ e);
      short = λ j k. rw long (room n (length a) j h k r.short);
    }

right_in : (k n : ℕ) → n < k → Right n (decimal_in k n)
unfolding decimal_in
right_in zero n h = absurd (omega arith)
right_in (suc k) n h = go (ltb n 10) refl (λ lower. right_in k (n / 10) lower)
  where
    go : (t : Bool) → ltb n 10 ≡ t → (n / 10 < k → Right (n / 10) (decimal_in k (n / 10)))
        → Right n (cond t ((n + 48) ∷ []) (decimal_in k (n / 10) ++ ((n % 10 + 48) ∷ [])))
    go true e tenth = right_one n (ltb-true n 10 e)
    go false e tenth =
        let ten : 10 ≤ n = ltb-false n 10 e in
        right_more n (decimal_in k (n / 10)) ten (tenth (omega (arith, div-add-mod' n 10)))

right : (n : ℕ) → Right n (decimal n)
unfolding decimal
right n = right_in (suc n) n (omega arith)

plain_by : (d : List ℕ) → 0 < length d → (eqb (length d) 1 || not (eqb (get_or d 0 0) 48)) ≡ true → all is_digit d ≡ true → plain d ≡ true
unfolding plain
plain_by d h e f = rw (ne_eqb (length d) 0 (λ k. omega arith), e) f

plain_right : (n : ℕ) (d : List ℕ) → Right n d → plain d ≡ true
plain_right zero d r =
    let one : length d ≡ 1 = omega (arith, r.some, r.short 0 (lit< tt)) in
    plain_by d r.some (rw (eq-eqb (length d) 1 one)) r.digits
plain_right (suc n) d r =
    plain_by d r.some (rw (ne_eqb (get_or d 0 0) 48 (r.first (omega arith)), or-true (eqb (length d) 1))) r.digits

-- the digits of n
module _ (n : ℕ) where
  pub decimal_plain : plain (decimal n) ≡ true
  decimal_plain = plain_right n (decimal n) (right n)

  pub decimal_number : number (decimal n) ≡ n
  decimal_number = (right n).value

  pub decimal_digits : all is_digit (decimal n) ≡ true
  decimal_digits = (right n).digits

  -- are at most as many as fit
  pub decimal_short : (j : ℕ) → n < 10 ^ suc j → length (decimal n) ≤ suc j
  decimal_short j h = (right n).short j h

  -- are an int of that value
  decimal_above : minus (decimal n) ≡ false
  decimal_above = no_sign (decimal n) decimal_digits

  pub decimal_int : int_form (decimal n) ≡ true
  decimal_int = form_above (decimal n) decimal_above ∙ decimal_plain

  pub decimal_value : int_value (decimal n) ≡ pos n
  unfolding int_value
  decimal_value = rw (decimal_above, bare_is (decimal n) decimal_above, decimal_number)

  -- spell n, and nothing else does
  pub decimal_spelled : n < 10 ^ 10 → spelled n (decimal n) ≡ true
  unfolding spelled
  decimal_spelled h = rw (le-leb (length (decimal n)) 10 (decimal_short 9 h), decimal_plain, eq-eqb (number (decimal n)) n decimal_number)

  pub spelled_is : (s : List ℕ) → spelled n s ≡ true → s ≡ decimal n
  spelled_is s e = plain_one s (decimal n) (spelled_plain n s e) decimal_plain (spelled_number n s e ∙ sym decimal_number)

  pub int_is : (s : List ℕ) → int_form s ≡ true → int_value s ≡ pos n → s ≡ decimal n
  int_is s e v = one_spelling s (decimal n) e decimal_int (v ∙ sym decimal_value)

  -- one digit, or the digits of a tenth and one more
  pub decimal_one : n < 10 → decimal n ≡ (n + 48) ∷ []
  unfolding decimal decimal_in
  decimal_one h = rw (lt-ltb n 10 h)

  pub decimal_more : 10 ≤ n → decimal n ≡ decimal (n / 10) ++ ((n % 10 + 48) ∷ [])
  decimal_more h =
      let d = decimal (n / 10) ++ ((n % 10 + 48) ∷ []) in
      let r : Right n d = right_more n (decimal (n / 10)) h (right (n / 10)) in
      plain_one (decimal n) d decimal_plain (plain_right n d r) (decimal_number ∙ sym r.value)
