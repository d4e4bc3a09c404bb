-- The rules of a filled field, one case at a time. Assumes nothing.
use mathlib.Core.Path.{◌≡◌, refl, sym, ◌∙◌, ap}
use mathlib.Core.Bool.{Bool, true, false, not, ◌&&◌, and-true, and-false, false≢true}
use mathlib.Core.List.{List, [], ◌∷◌, ◌++◌}
use Prim.Native.Nat.{ℕ, ◌+◌, ◌-◌, ◌≤◌, ◌<◌}
use native.Mathlib.Omega.{arith}
use lib.Dec.{eqb, leb, ltb}
use lib.IntN.{pos}
use lib.ListN.{length, get_or, take, drop, length-drop}
use lib.Seq.{length-take-le}
use borrow.Author.Tests.{ltb-true, leb-true, le-leb, lt-leb}
use Rattle.std.specs.Prelude.{Result, Ok, Err}
use Rattle.text.specs.Characters.{all, is_digit, from_to}
use Rattle.text.specs.Rules.{must}
use Rattle.number.specs.Numbers.{digits, number, number_from, minus, unsigned, signed, plain, is_zero, int_form, int_value, dec_form, dec_value}
use Rattle.field.specs.Types.{form, range, value_of, period_range, width_right, Sound}
use Rattle.field.specs.Judge.{Marked, bare, marked, may_be_empty, meets_mark, filled}
use Rattle.number.specs.Leaves.{leads}
use Rattle.field.specs.Leaves.{digits_answer, int_answer, negative_zero, dec_answer, pointed_answer, moment, moment_digits, moment_answer}
use Rattle.field.specs.declared.Mark.{Mark}
use Rattle.field.specs.declared.Mark.TheVariants as marks
use Rattle.field.specs.declared.FieldType.{FieldType}
use Rattle.field.specs.declared.FieldType.TheVariants as types
use Rattle.field.specs.declared.Content.{Content}
use Rattle.field.specs.declared.Content.TheVariants.{Number}
use Rattle.field.specs.declared.Wrong.{Wrong}
use Rattle.field.specs.declared.Wrong.TheVariants.{Form, Range, Fixed}
use Rattle.number.proofs.Digits.{and_left, and_right, plain_some, number_append, form_above}

-- bytes that lead right are one or more
pub leads_some : (d : List ℕ) → leads d ≡ true → 0 < length d
leads_some [] e = absurd (false≢true e)
leads_some (x ∷ d) e = omega arith

-- of two refusals a test gives one
err_must : (b : Bool) (v w : Wrong) → must {A = Result Content Wrong} b (Err v) (Err w) ≡ Err (must b v w)
err_must true v w = refl
err_must false v w = refl

-- the digits of an int that leads right, where no minus stands before a zero
module _ (below : Bool) (n : ℕ) (d : List ℕ) (lead : leads d ≡ true) (sign : (below && eqb (get_or d 0 0) 48) ≡ false) where
  pub int_long : n < length d → int_answer below n d ≡ Err (must (all is_digit d) Form Range)
  unfolding int_answer plain
  int_long h = rw (lead, sign, and-true (all is_digit d), lt-leb (length d) n h) (err_must (all is_digit d) Form Range)

  pub int_short : length d ≤ n → int_answer below n d ≡ digits_answer below 0 d
  unfolding int_answer plain
  int_short h = rw (lead, sign, and-true (all is_digit d), le-leb (length d) n h)

-- a minus before a zero
pub zero_refused : (below : Bool) (n : ℕ) (d : List ℕ) → (below && eqb (get_or d 0 0) 48) ≡ true → Err Form ≡ int_answer below n d
unfolding int_answer
zero_refused below n d e = rw (e, and-false (plain d))

-- two tests with one answer, one after the other
must_both : (x y : Bool) (r after : Result Content Wrong) → must (x && y) r after ≡ must x r (must y r after)
must_both true y r after = refl
must_both false y r after = refl

-- an int is its sign and its digits
pub int_is : (n : ℕ) (s : List ℕ) → filled (types.Int n) bare s ≡ int_answer (minus s) n (unsigned s)
unfolding filled form range value_of int_form int_value int_answer
int_is n s = refl

-- no int has no digits
no_room : (t : Bool) (d : List ℕ) (v : Result Content Wrong) → (t ≡ true → 0 < length d)
    → must t (Err Form) (must (leb (length d) 0) (Err Range) v) ≡ must t (Err Form) (Err Range)
no_room true d v h = rw (lt-leb (length d) 0 (h refl))
no_room false d v h = refl

-- a period below zero is out of range, as an int of no digits would be
pub period_below : (s : List ℕ) → minus s ≡ true → int_answer true 0 (unsigned s) ≡ filled types.Period bare s
unfolding filled form range period_range int_form int_answer
period_below s e =
    let d = unsigned s in
    let right = plain d && not (eqb (get_or d 0 0) 48) in
    no_room right d (Ok (Number (signed true (number d)))) (λ h. plain_some d (and_left (plain d) (not (eqb (get_or d 0 0) 48)) h))
    ∙ sym (rw (e, and-false (leb (length d) 2)))

-- a period with no minus
module _ (s : List ℕ) (above : minus s ≡ false) where
  period_above : filled types.Period bare s
      ≡ must (plain s) (Err Form) (must (leb (length s) 2 && from_to 1 50 (number s)) (Err Range) (Ok (Number (pos (number s)))))
  unfolding filled form range value_of period_range unsigned
  period_above = rw (form_above s above, above, and-true (leb (length s) 2))

  pub period_starts : leads s ≡ false → Err Form ≡ filled types.Period bare s
  unfolding plain
  period_starts lead = sym (period_above ∙ rw lead)

  pub period_long : leads s ≡ true → 2 < length s → filled types.Period bare s ≡ Err (must (all is_digit s) Form Range)
  unfolding plain
  period_long lead h = period_above ∙ rw (lead, lt-leb (length s) 2 h) (err_must (all is_digit s) Form Range)

  pub period_short : leads s ≡ true → length s ≤ 2
      → filled types.Period bare s ≡ must (all is_digit s) (Err Form) (must (from_to 1 50 (number s)) (Err Range) (Ok (Number (pos (number s)))))
  unfolding plain
  period_short lead h = period_above ∙ rw (lead, le-leb (length s) 2 h)

-- the digits of a dec whose whole part leads right and that is no minus zero
module _ (below : Bool) (p : ℕ) (a b : List ℕ) (lead : leads a ≡ true) (sign : negative_zero below a b ≡ false) where
  pub dec_long : p < length a + length b → dec_answer below p a b ≡ Err (must (all is_digit a && all is_digit b) Form Range)
  unfolding dec_answer plain
  dec_long h =
      rw (lead, sign, and-true (all is_digit a && all is_digit b), lt-leb (length a + length b) p h)
      (err_must (all is_digit a && all is_digit b) Form Range)

  pub dec_short : length a + length b ≤ p
      → dec_answer below p a b ≡ must (all is_digit a) (Err Form) (digits_answer below (number a) b)
  unfolding dec_answer plain
  dec_short h =
      rw (lead, sign, and-true (all is_digit a && all is_digit b), le-leb (length a + length b) p h, number_append 0 a b)
      (must_both (all is_digit a) (all is_digit b) (Err Form) (Ok (Number (signed below (number_from (number a) b)))))

-- a minus before nothing but zeros
pub dec_zero : (below : Bool) (p : ℕ) (a b : List ℕ) → negative_zero below a b ≡ true → Err Form ≡ dec_answer below p a b
unfolding dec_answer
dec_zero below p a b e = rw (e, and-false (plain a && all is_digit b))

-- the first test of form, then the others; where it holds, one test of range is the other
split_first : (x a b c k l : Bool) (r q v : Result Content Wrong) → (x ≡ true → k ≡ l)
    → must (x && a && b && c) r (must k q v) ≡ must x r (must (a && b && c) r (must l q v))
split_first true a b c k l r q v h = rw (h refl)
split_first false a b c k l r q v h = refl

-- the point is one byte, so the digits are one less than the bytes
digits_of : (q : ℕ) (d : List ℕ) → q < length d
    → length d - 1 ≡ length (take (length d - q - 1) d) + length (drop (length d - q) d)
digits_of q d h =
    let within : length d - q - 1 ≤ length d = omega arith in
    omega (arith, length-take-le (length d - q - 1) d within, length-drop (length d - q) d)

abbrev point : ℕ → List ℕ → Bool
point q d = ltb q (length d) && eqb (get_or d (length d - q - 1) 0) 46

-- the rules of a dec whose bytes after the sign are d
dec_signed : (below : Bool) (p q : ℕ) (d : List ℕ)
    → must
    (point q d && plain (take (length d - q - 1) d) && all is_digit (drop (length d - q) d)
    && not (below && (all is_zero (take (length d - q - 1) d) && all is_zero (drop (length d - q) d))))
    (Err Form)
    (must (leb (length d - 1) p) (Err Range) (Ok (Number (signed below (number (take (length d - q - 1) d ++ drop (length d - q) d))))))
    ≡ pointed_answer below p q d
unfolding pointed_answer dec_answer negative_zero
dec_signed below p q d =
    let a = take (length d - q - 1) d in
    let b = drop (length d - q) d in
    split_first (point q d) (plain a) (all is_digit b) (not (below && (all is_zero a && all is_zero b)))
    (leb (length d - 1) p) (leb (length a + length b) p) (Err Form) (Err Range) (Ok (Number (signed below (number (a ++ b)))))
    (λ h. ap (λ (n : ℕ). leb n p) (digits_of q d (ltb-true q (length d) (and_left _ (eqb (get_or d (length d - q - 1) 0) 46) h))))

-- a dec is its sign and its bytes after it
pub dec_is : (p q : ℕ) (s : List ℕ) → filled (types.Dec p q) bare s ≡ pointed_answer (minus s) p q (unsigned s)
unfolding filled form range value_of dec_form dec_value
dec_is p q s = dec_signed (minus s) p q (unsigned s)

-- a moment is its digits and what the calendar has
pub moment_is : (timed : Bool) (s : List ℕ)
    → filled (moment timed) bare s ≡ must (digits (moment_digits timed) s) (Err Form) (moment_answer timed (number s))
unfolding filled form range value_of
moment_is false s = refl
moment_is true s = refl

-- a moment's digits are few enough for 64 bits
pub moment_short : (timed : Bool) → moment_digits timed ≤ 18
moment_short false = omega arith
moment_short true = omega arith

-- what a mark makes of what is said of a field by its type alone: only one that passes is held to it
abbrev pub then_mark : Bool → Result Content Wrong → Result Content Wrong
then_mark met (Err wrong) = Err wrong
then_mark met (Ok content) = must met (Err Fixed) (Ok content)

-- 8 and 9 come before 10, which comes before the value
mark_go : (f r k : Bool) (v : Content)
    → must f (Err Form) (must r (Err Range) (must k (Err Fixed) (Ok v))) ≡ then_mark k (must f (Err Form) (must r (Err Range) (Ok v)))
mark_go false r k v = refl
mark_go true false k v = refl
mark_go true true k v = refl

pub mark_last : (t : FieldType) (m : Marked) (s : List ℕ) → filled t m s ≡ then_mark (meets_mark m s) (filled t bare s)
unfolding filled
mark_last t m s = mark_go (form t s) (range t s) (meets_mark m s) (value_of t s)

-- what may be empty does not hang on the bytes lent beside the mark
pub any_bytes : (m : Mark) (w : List ℕ) → may_be_empty (marked m w) ≡ may_be_empty (marked m [])
any_bytes marks.Bare w = refl
any_bytes marks.Opt w = refl
any_bytes marks.Fixed w = refl

-- a right width leaves room in 64 bits
pub right_sound : (t : FieldType) → width_right t ≡ true → Sound t
unfolding width_right
right_sound (types.Text n) e = tt
right_sound (types.Int n) e = leb-true n 18 (and_right (leb 1 n) (leb n 18) e)
right_sound (types.Dec p q) e = leb-true p 18 (and_right (leb 2 p) (leb p 18) (and_left (from_to 2 18 p) (from_to 1 (p - 1) q) e))
right_sound types.Date e = tt
right_sound types.Datetime e = tt
right_sound types.Bol e = tt
right_sound types.Period e = tt
right_sound types.Null e = tt

-- the cases of an int, a period and a dec
pub ruleset int_cases = (int_long, int_short, zero_refused)

pub ruleset period_cases = (period_below, period_starts, period_long, period_short)

pub ruleset dec_cases = (dec_long, dec_short, dec_zero)
