-- The days of the Gregorian calendar, years 0001 to 9999, and the times of a day. Assumes nothing.
use Rattle.std.specs.Prelude.{ℕ, ◌/◌, ◌%◌, Bool, not, cond, ◌&&◌, ◌||◌, [], ◌∷◌, eqb, leb}
use Rattle.text.specs.Characters.{from_to, one_of}

-- n is a multiple of k
abbrev pub multiple : ℕ → ℕ → Bool
multiple k n = eqb (n % k) 0

-- each fourth year but each hundredth, and each four hundredth after all
unfoldable pub leap : ℕ → Bool
leap y = multiple 4 y && (not (multiple 100 y) || multiple 400 y)

-- February has 28 days, 29 in a leap year; April, June, September and November 30; the others 31
unfoldable pub days_in : ℕ → ℕ → ℕ
days_in y m = cond (eqb m 2) (cond (leap y) 29 28) (cond (one_of (4 ∷ 6 ∷ 9 ∷ 11 ∷ []) m) 30 31)

-- day d of month m of year y is in the calendar
unfoldable pub is_day : ℕ → ℕ → ℕ → Bool
is_day y m d = from_to 1 9999 y && from_to 1 12 m && from_to 1 (days_in y m) d

-- YYYYMMDD as one number is such a day
unfoldable pub is_date : ℕ → Bool
is_date v = is_day (v / 10000) (v / 100 % 100) (v % 100)

-- hhmmss as one number: hours 00-23, minutes and seconds 00-59
unfoldable pub is_time : ℕ → Bool
is_time v = leb (v / 10000) 23 && leb (v / 100 % 100) 59 && leb (v % 100) 59
