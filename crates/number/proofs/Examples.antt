-- Days, times and spellings at the ends of their ranges, read from document 01, each table under one theorem. Assumes nothing.
use Prim.Native.Nat.{ℕ}
use Prim.Native.String.{String}
use mathlib.Core.Path.{◌≡◌, refl}
use mathlib.Core.Bool.{Bool, true, false}
use mathlib.Core.List.{List, [], ◌∷◌, map}
use Rattle.text.specs.Characters.{bytes, is_digit}
use Rattle.number.specs.Numbers.{minus, unsigned, plain, int_form, dec_form}
use Rattle.number.specs.Calendar.{leap, days_in, is_day, is_date, is_time}

-- a day or a time as one number, an int, or a dec with its places after the point; and whether it is one
pub data Case : Type 0 where
  day time : ℕ → Bool → Case
  int : String → Bool → Case
  dec : ℕ → String → Bool → Case

unfoldable pub given : List Case → List Bool
given [] = []
given (day v b ∷ cs) = is_date v ∷ given cs
given (time v b ∷ cs) = is_time v ∷ given cs
given (int s b ∷ cs) = int_form (bytes s) ∷ given cs
given (dec q s b ∷ cs) = dec_form q (bytes s) ∷ given cs

unfoldable pub expected : List Case → List Bool
expected [] = []
expected (day v b ∷ cs) = b ∷ expected cs
expected (time v b ∷ cs) = b ∷ expected cs
expected (int s b ∷ cs) = b ∷ expected cs
expected (dec q s b ∷ cs) = b ∷ expected cs

unfoldable pub table : List Case
table =
    -- years 0001 to 9999
    day 00010101 true
    ∷ day 00001231 false
    ∷ day 99991231 true
    -- months 01 to 12, and days from 01
    ∷ day 20240001 false
    ∷ day 20241201 true
    ∷ day 20241301 false
    ∷ day 20240100 false
    -- the last day of each month, and the day after it
    ∷ day 20230131 true
    ∷ day 20230132 false
    ∷ day 20230228 true
    ∷ day 20230229 false
    ∷ day 20230331 true
    ∷ day 20230332 false
    ∷ day 20230430 true
    ∷ day 20230431 false
    ∷ day 20230531 true
    ∷ day 20230532 false
    ∷ day 20230630 true
    ∷ day 20230631 false
    ∷ day 20230731 true
    ∷ day 20230732 false
    ∷ day 20230831 true
    ∷ day 20230832 false
    ∷ day 20230930 true
    ∷ day 20230931 false
    ∷ day 20231031 true
    ∷ day 20231032 false
    ∷ day 20231130 true
    ∷ day 20231131 false
    ∷ day 20231231 true
    ∷ day 20231232 false
    -- leap years
    ∷ day 20240229 true
    ∷ day 20240230 false
    ∷ day 20000229 true
    ∷ day 19000229 false
    -- hours 00-23, minutes and seconds 00-59
    ∷ time 000000 true
    ∷ time 235959 true
    ∷ time 235960 false
    ∷ time 236000 false
    ∷ time 240000 false
    -- an int: no leading zero, no -0
    ∷ int "0" true
    ∷ int "-1" true
    ∷ int "907" true
    ∷ int "07" false
    ∷ int "-07" false
    ∷ int "-0" false
    ∷ int "-" false
    ∷ int "+1" false
    ∷ int "1-" false
    ∷ int " 1" false
    -- a dec: whole part as int (but -0 if a later digit is not 0), point, exactly q digits
    ∷ dec 1 "0.0" true
    ∷ dec 1 "-0.1" true
    ∷ dec 1 "-0.0" false
    ∷ dec 1 "-10.0" true
    ∷ dec 1 "01.0" false
    ∷ dec 1 ".5" false
    ∷ dec 1 "-.5" false
    ∷ dec 1 "5." false
    ∷ dec 1 "5" false
    ∷ dec 2 "1.5" false
    ∷ dec 1 "1.50" false
    ∷ dec 1 "1,5" false
    ∷ dec 1 "1.-5" false
    ∷ []

-- each is taken as document 01 says
pub number_cases : given table ≡ expected table
unfolding given expected table is_digit minus unsigned plain int_form dec_form leap days_in is_day is_date is_time
number_cases = refl

-- the days of February in a hundredth year, in a four hundredth, in a year that is no fourth, and in another fourth
pub februaries : map (λ y. days_in y 2) (1900 ∷ 2000 ∷ 2023 ∷ 2024 ∷ []) ≡ 28 ∷ 29 ∷ 28 ∷ 29 ∷ []
unfolding leap days_in
februaries = refl
