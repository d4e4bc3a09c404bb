-- The period that a field's bytes say is the judge's value of them, a number up to 50. Assumes nothing.
use Prim.Native.Nat.{ℕ, ◌≤◌, ◌<◌, ◌^◌}
use mathlib.Core.Path.{◌≡◌, refl, sym, ap, ◌∙◌}
use mathlib.Core.Bool.{Bool, true, false, cond, not, ◌&&◌, false≢true}
use mathlib.Core.List.{List, [], ◌∷◌}
use native.Mathlib.Omega.{arith}
use lib.Dec.{T, leb, eqb-suc-zero}
use lib.IntN.{ℤ, pos, nat_abs}
use lib.ListN.{length}
use lib.Signed.{non_neg}
use mir.Syntax.{w64}
use mir.Val.{Fits, to_z, of_z}
use mir.ValLaws.{to_z_pos}
use borrow.Author.Tests.{leb-true}
use Rattle.text.specs.Characters.{from_to}
use Rattle.text.specs.Rules.{must}
use Rattle.text.proofs.Tests.{holds, and_right, is_true}
use Rattle.number.specs.Numbers.{number, minus, unsigned, plain, int_form}
use Rattle.field.specs.Types.{form, range, period_range, value_of}
use Rattle.field.specs.Judge.{bare, filled, field_answer}
use Rattle.field.specs.declared.FieldType.TheVariants as types
use Rattle.field.specs.declared.Content.{Content}
use Rattle.field.specs.declared.Content.TheVariants as contents
use Rattle.field.specs.declared.Wrong.{Wrong}
use Rattle.field.specs.declared.Wrong.TheVariants as wrongs
use Rattle.std.specs.Prelude.{Result, Ok, Err}
use Rattle.period.specs.Answer.{period_of}

-- the number of an answer; 0 where there is none
abbrev pub number_said : Result Content Wrong → ℕ
number_said (Ok (contents.Number z)) = nat_abs z
number_said (Err wrong) = 0
number_said (Ok contents.Empty) = 0
number_said (Ok (contents.Truth b)) = 0
number_said (Ok contents.Text) = 0

-- what the judge says of a period by two tests
abbrev judged_both : Bool → Bool → ℕ → Result Content Wrong
judged_both a b n = must a (Err wrongs.Form) (must b (Err wrongs.Range) (Ok (contents.Number (pos n))))

said_both : (a b : Bool) (n : ℕ) → number_said (judged_both a b n) ≡ cond (a && b) n 0
said_both true true n = refl
said_both true false n = refl
said_both false b n = refl

number_both : (a b : Bool) (n : ℕ) (z : ℤ) → judged_both a b n ≡ Ok (contents.Number z) → (z ≡ pos n) × (b ≡ true)
number_both true true n z e = (cc, refl)
number_both true false n z e = absurd (let q : ◌≡◌ {A = ℕ} 0 1 = cc in omega arith)
number_both false b n z e = absurd (let q : ◌≡◌ {A = ℕ} 0 1 = cc in omega arith)

-- the last of three tests that all hold
last_test : (a b c : Bool) → (a && b && c) ≡ true → c ≡ true
last_test true true c e = e
last_test true false c e = absurd (false≢true e)
last_test false b c e = absurd (false≢true e)

module _ (s : List ℕ) where
  pub said_period : number_said (filled types.Period bare s) ≡ period_of s
  unfolding filled form range value_of period_of
  said_period = said_both (form types.Period s) (range types.Period s) (number s)

  in_range_lem : period_range s ≡ true → number s ≤ 50
  unfolding period_range
  in_range_lem e =
      let within = last_test (leb (length (unsigned s)) 2) (not (minus s)) (from_to 1 50 (number s)) e in
      leb-true (number s) 50 (is_true _ (and_right (leb 1 (number s)) (leb (number s) 50) (holds within)))

  -- a period that the judge gives is a number of the machine, and is read back as it is
  module _ (z : ℤ) (e : filled types.Period bare s ≡ Ok (contents.Number z)) where
    is_number : (z ≡ pos (number s)) × (range types.Period s ≡ true)
    unfolding filled form range value_of
    is_number = number_both (form types.Period s) (range types.Period s) (number s) z e

    small : number s < 2 ^ 63
    unfolding range
    small = omega (arith, in_range_lem is_number.1)

    kept : to_z w64 (of_z w64 z) ≡ pos (number s)
    kept = ap (λ (x : ℤ). to_z w64 (of_z w64 x)) is_number.0 ∙ to_z_pos w64 (number s) small

    pub read_back : nat_abs (to_z w64 (of_z w64 z)) ≡ period_of s
    read_back = ap nat_abs kept ∙ ap nat_abs (sym is_number.0) ∙ ap number_said (sym e) ∙ said_period

    pub fits : T (non_neg (to_z w64 (of_z w64 z))) × Fits w64 (nat_abs (to_z w64 (of_z w64 z)))
    fits = rw kept (tt, omega (arith, small))

-- a period that may not be empty: the judge's number is the period, and where there is one this is its answer
pub said_answer : (s : List ℕ) → number_said (field_answer types.Period bare s) ≡ period_of s
unfolding field_answer period_of form int_form plain unsigned minus
said_answer [] = refl
said_answer (b ∷ s) = rw (eqb-suc-zero (length s)) (said_period (b ∷ s))

given_both : (a b : Bool) (n : ℕ) → 1 ≤ cond (a && b) n 0 → judged_both a b n ≡ Ok (contents.Number (pos (cond (a && b) n 0)))
given_both true true n h = refl
given_both true false n h = absurd (omega (arith, h))
given_both false b n h = absurd (omega (arith, h))

pub given_period : (s : List ℕ) → 1 ≤ period_of s → field_answer types.Period bare s ≡ Ok (contents.Number (pos (period_of s)))
unfolding field_answer filled period_of form range value_of int_form plain unsigned minus
given_period [] h = absurd (omega (arith, h))
given_period (b ∷ s) h = rw (eqb-suc-zero (length s)) (given_both (form types.Period (b ∷ s)) (range types.Period (b ∷ s)) (number (b ∷ s)) h)
