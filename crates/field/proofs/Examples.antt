-- Document 01's examples of one field, each type at both ends of its range, and each pair of neighbours in the order of the
-- refusals, as one table under one theorem. Assumes nothing.
use Prim.Native.Nat.{ℕ, zero, suc}
use mathlib.Core.Path.{◌≡◌, refl}
use mathlib.Core.Bool.{true, false}
use mathlib.Core.List.{List, [], ◌∷◌}
use Prim.Native.String.{String}
use lib.IntN.{pos, neg_ℤ}
use Rattle.text.specs.Characters.{bytes, is_digit, is_text}
use Rattle.number.specs.Numbers.{minus, unsigned, plain, int_form, int_value, dec_form, dec_value}
use Rattle.number.specs.Calendar.{leap, days_in, is_day, is_date, is_time}
use Rattle.field.specs.Types.{text_form, bol_form, period_range, form, range, value_of, width_right}
use Rattle.field.specs.Judge.{Marked, bare, opt, fixed, filled, field_answer, judged_as, field_judged, Reply, refused, empty, number, truth, text}
use Rattle.field.specs.declared.FieldType.{FieldType}
use Rattle.field.specs.declared.FieldType.TheVariants.{Text, Int, Dec, Date, Datetime, Bol, Period, Null}

-- so many letters A
unfoldable pub letters : ℕ → List ℕ
letters zero = []
letters (suc n) = 65 ∷ letters n

-- a field, as text or as so many letters A, and what is said of it
pub data Case : Type 0 where
  case : FieldType → Marked → String → Reply → Case
  long : FieldType → Marked → ℕ → Reply → Case

-- what the judge answers
unfoldable pub given : List Case → List Reply
given [] = []
given (case t m s r ∷ cs) = field_judged t m (bytes s) ∷ given cs
given (long t m n r ∷ cs) = field_judged t m (letters n) ∷ given cs

-- what document 01 says
unfoldable pub expected : List Case → List Reply
expected [] = []
expected (case t m s r ∷ cs) = r ∷ expected cs
expected (long t m n r ∷ cs) = r ∷ expected cs

-- the examples of document 01, then its other rules that a reader may miss
unfoldable pub table : List Case
table =
    -- int(2)
    case (Int 2) bare "99" (number (pos 99))
    ∷ case (Int 2) bare "100" (refused 9 0 0 0)
    ∷ case (Int 2) bare "07" (refused 8 0 0 0)
    ∷ case (Int 2) bare "-0" (refused 8 0 0 0)
    -- dec(4,1)
    ∷ case (Dec 4 1) bare "999.9" (number (pos 9999))
    ∷ case (Dec 4 1) bare "1000.0" (refused 9 0 0 0)
    ∷ case (Dec 4 1) bare "5" (refused 8 0 0 0)
    ∷ case (Dec 4 1) bare "5.00" (refused 8 0 0 0)
    -- text(2)
    ∷ case (Text 2) bare "A " (refused 8 0 0 0)
    -- date
    ∷ case Date bare "20000229" (number (pos 20000229))
    ∷ case Date bare "19000229" (refused 9 0 0 0)
    ∷ case Date bare "2024229" (refused 8 0 0 0)
    -- period
    ∷ case Period bare "50" (number (pos 50))
    ∷ case Period bare "51" (refused 9 0 0 0)
    ∷ case Period bare "0" (refused 9 0 0 0)
    -- dec(4,2)
    ∷ case (Dec 4 2) bare "-12.34" (number (neg_ℤ (pos 1234)))
    -- an empty field, a null field, a fixed value
    ∷ case (Int 2) bare "" (refused 7 0 0 0)
    ∷ case (Text 2) opt "" empty
    ∷ case (Text 2) opt "NULL" (refused 9 0 0 0)
    ∷ case Null bare "" empty
    ∷ case Null bare "NULL" (refused 10 0 0 0)
    ∷ case (Text 1) (fixed (bytes "M")) "M" (text (bytes "M"))
    ∷ case (Text 1) (fixed (bytes "M")) "N" (refused 10 0 0 0)
    ∷ case (Int 1) (fixed (bytes "0")) "12" (refused 9 0 0 0)
    -- a minus before zero, a period below 1
    ∷ case (Dec 4 1) bare "-0.5" (number (neg_ℤ (pos 5)))
    ∷ case (Dec 4 1) bare "-0.0" (refused 8 0 0 0)
    ∷ case Period bare "-5" (refused 9 0 0 0)
    ∷ case Period bare "100" (refused 9 0 0 0)
    -- a time of the day
    ∷ case Datetime bare "20240105120000" (number (pos 20240105120000))
    ∷ case Datetime bare "20240105240000" (refused 9 0 0 0)
    -- text: at most n characters, n from 1 to 512
    ∷ case (Text 1) bare "A" (text (bytes "A"))
    ∷ case (Text 1) bare "AB" (refused 9 0 0 0)
    ∷ long (Text 512) bare 512 (text (letters 512))
    ∷ long (Text 512) bare 513 (refused 9 0 0 0)
    ∷ case (Text 0) bare "A" (refused 18 0 0 0)
    ∷ case (Text 513) bare "A" (refused 18 0 0 0)
    ∷ case (Text 3) bare "A B" (text (bytes "A B"))
    ∷ case (Text 3) bare " AB" (refused 8 0 0 0)
    ∷ case (Text 3) bare "A#B" (refused 8 0 0 0)
    ∷ case (Text 3) bare "A&B" (text (bytes "A&B"))
    -- int: at most n digits, sign not counted, n from 1 to 18
    ∷ case (Int 1) bare "9" (number (pos 9))
    ∷ case (Int 1) bare "-9" (number (neg_ℤ (pos 9)))
    ∷ case (Int 1) bare "10" (refused 9 0 0 0)
    ∷ case (Int 18) bare "999999999999999999" (number (pos 999999999999999999))
    ∷ case (Int 18) bare "-999999999999999999" (number (neg_ℤ (pos 999999999999999999)))
    ∷ case (Int 18) bare "1000000000000000000" (refused 9 0 0 0)
    ∷ case (Int 18) bare "-1000000000000000000" (refused 9 0 0 0)
    ∷ case (Int 0) bare "0" (refused 18 0 0 0)
    ∷ case (Int 19) opt "" (refused 18 0 0 0)
    -- dec: at most p digits in all, p from 2 to 18, q from 1 to p-1
    ∷ case (Dec 2 1) bare "9.9" (number (pos 99))
    ∷ case (Dec 2 1) bare "-9.9" (number (neg_ℤ (pos 99)))
    ∷ case (Dec 2 1) bare "10.0" (refused 9 0 0 0)
    ∷ case (Dec 18 1) bare "99999999999999999.9" (number (pos 999999999999999999))
    ∷ case (Dec 18 1) bare "100000000000000000.0" (refused 9 0 0 0)
    ∷ case (Dec 18 17) bare "-9.99999999999999999" (number (neg_ℤ (pos 999999999999999999)))
    ∷ case (Dec 18 17) bare "-10.00000000000000000" (refused 9 0 0 0)
    ∷ case (Dec 1 1) bare "0.0" (refused 18 0 0 0)
    ∷ case (Dec 19 1) bare "0.0" (refused 18 0 0 0)
    ∷ case (Dec 2 0) bare "0" (refused 18 0 0 0)
    ∷ case (Dec 4 4) bare "0.0000" (refused 18 0 0 0)
    ∷ case (Dec 18 18) bare "0.000000000000000000" (refused 18 0 0 0)
    -- date: 8 digits, years 0001 to 9999
    ∷ case Date bare "00010101" (number (pos 10101))
    ∷ case Date bare "99991231" (number (pos 99991231))
    ∷ case Date bare "00001231" (refused 9 0 0 0)
    ∷ case Date bare "99991232" (refused 9 0 0 0)
    ∷ case Date bare "100000101" (refused 8 0 0 0)
    ∷ case Date bare "2024-1-5" (refused 8 0 0 0)
    -- datetime: 14 digits, such a date, hours 00-23, minutes and seconds 00-59
    ∷ case Datetime bare "00010101000000" (number (pos 10101000000))
    ∷ case Datetime bare "99991231235959" (number (pos 99991231235959))
    ∷ case Datetime bare "99991231235960" (refused 9 0 0 0)
    ∷ case Datetime bare "99991231236000" (refused 9 0 0 0)
    ∷ case Datetime bare "99991231240000" (refused 9 0 0 0)
    ∷ case Datetime bare "20230229120000" (refused 9 0 0 0)
    ∷ case Datetime bare "2024010512000" (refused 8 0 0 0)
    ∷ case Datetime bare "202401051200000" (refused 8 0 0 0)
    ∷ case Datetime bare "20240105T12000" (refused 8 0 0 0)
    -- bol: T or F
    ∷ case Bol bare "T" (truth true)
    ∷ case Bol bare "F" (truth false)
    ∷ case Bol bare "t" (refused 8 0 0 0)
    ∷ case Bol bare "Y" (refused 8 0 0 0)
    ∷ case Bol bare "TF" (refused 8 0 0 0)
    -- period: as int(2), 1 to 50
    ∷ case Period bare "1" (number (pos 1))
    ∷ case Period bare "01" (refused 8 0 0 0)
    ∷ case Period bare "-0" (refused 8 0 0 0)
    ∷ case Period bare "1.0" (refused 8 0 0 0)
    ∷ case Period bare "99" (refused 9 0 0 0)
    -- null: any byte is 10
    ∷ case Null bare " " (refused 10 0 0 0)
    -- neighbours, both faults in one field: 18 and 7, 7 and 8, 8 and 9, 9 and 10
    ∷ case (Text 0) bare "" (refused 18 0 0 0)
    ∷ case Date bare "" (refused 7 0 0 0)
    ∷ case (Int 2) bare "007" (refused 8 0 0 0)
    ∷ case (Text 1) (fixed (bytes "M")) "NN" (refused 9 0 0 0)
    -- an optional field that is filled goes by its type; a fixed value is never empty
    ∷ case Date opt "20240105" (number (pos 20240105))
    ∷ case Date opt "20240132" (refused 9 0 0 0)
    ∷ case (Text 1) (fixed (bytes "M")) "" (refused 7 0 0 0)
    ∷ []

-- each is judged as document 01 says
pub field_cases : given table ≡ expected table
unfolding letters given expected table minus unsigned plain int_form int_value dec_form dec_value leap days_in is_day is_date is_time text_form bol_form period_range form range value_of width_right filled field_answer judged_as field_judged is_digit is_text
field_cases = refl
