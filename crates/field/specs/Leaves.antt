-- The rules of int and dec, the minus taken off, and of date and datetime, as the code's small functions meet them. Assumes nothing.
use Rattle.std.specs.Prelude.{ℕ, ◌+◌, ◌-◌, ◌/◌, ◌%◌, Bool, true, false, not, ◌&&◌, List, ◌++◌, eqb, leb, ltb, pos, length, get_or, take, drop, Result, Ok, Err}
use Rattle.text.specs.Characters.{all, is_digit}
use Rattle.text.specs.Rules.{must}
use Rattle.number.specs.Numbers.{number, number_from, signed, is_zero, plain}
use Rattle.number.specs.Calendar.{is_date, is_time}
use Rattle.field.specs.declared.FieldType.{FieldType}
use Rattle.field.specs.declared.FieldType.TheVariants as types
use Rattle.field.specs.declared.Content.{Content}
use Rattle.field.specs.declared.Content.TheVariants.{Number}
use Rattle.field.specs.declared.Wrong.{Wrong}
use Rattle.field.specs.declared.Wrong.TheVariants.{Form, Range}

-- digits after digits that spell v, with their sign
abbrev pub digits_answer : Bool → ℕ → List ℕ → Result Content Wrong
digits_answer below v d = must (all is_digit d) (Err Form) (Ok (Number (signed below (number_from v d))))

-- the digits of an int by its sign: form, then at most n, then the value
unfoldable pub int_answer : Bool → ℕ → List ℕ → Result Content Wrong
int_answer below n d =
    must (plain d && not (below && eqb (get_or d 0 0) 48)) (Err Form)
    (must (leb (length d) n) (Err Range)
    (Ok (Number (signed below (number d)))))

-- a minus before nothing but zeros
unfoldable pub negative_zero : Bool → List ℕ → List ℕ → Bool
negative_zero below a b = below && (all is_zero a && all is_zero b)

-- the digits of a dec before its point and those after it: form, then at most p in all, then the value
unfoldable pub dec_answer : Bool → ℕ → List ℕ → List ℕ → Result Content Wrong
dec_answer below p a b =
    must (plain a && all is_digit b && not (negative_zero below a b)) (Err Form)
    (must (leb (length a + length b) p) (Err Range)
    (Ok (Number (signed below (number (a ++ b))))))

-- the bytes of a dec by its sign: a point before the last q, then the digits
unfoldable pub pointed_answer : Bool → ℕ → ℕ → List ℕ → Result Content Wrong
pointed_answer below p q d =
    must (ltb q (length d) && eqb (get_or d (length d - q - 1) 0) 46) (Err Form)
    (dec_answer below p (take (length d - q - 1) d) (drop (length d - q) d))

-- a moment is a date, or with a time of the day behind it a datetime
abbrev pub moment : Bool → FieldType
moment false = types.Date
moment true = types.Datetime

-- how many digits it has
abbrev pub moment_digits : Bool → ℕ
moment_digits false = 8
moment_digits true = 14

-- its digits as one number are in the calendar
abbrev pub in_calendar : Bool → ℕ → Bool
in_calendar false v = is_date v
in_calendar true v = is_date (v / 1000000) && is_time (v % 1000000)

-- then they are the value
abbrev pub moment_answer : Bool → ℕ → Result Content Wrong
moment_answer timed v = must (in_calendar timed v) (Err Range) (Ok (Number (pos v)))
