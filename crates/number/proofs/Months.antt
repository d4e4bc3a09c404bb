-- The rule of months and leap years beside the table of month lengths that reviewers were shown: in every year both say the same.
-- Assumes nothing.
use Prim.Native.Nat.{ℕ, zero, suc, ◌+◌, ◌%◌}
use mathlib.Core.Path.{◌≡◌, refl}
use mathlib.Core.Bool.{Bool, true, false, cond}
use mathlib.Core.List.{List, [], ◌∷◌, map}
use native.Mathlib.Omega.{arith}
use Rattle.number.specs.Calendar.{leap, days_in}

-- January to December
abbrev pub months : List ℕ
months = 1 ∷ 2 ∷ 3 ∷ 4 ∷ 5 ∷ 6 ∷ 7 ∷ 8 ∷ 9 ∷ 10 ∷ 11 ∷ 12 ∷ []

-- the table of their lengths in a common year
abbrev pub common_year : List ℕ
common_year = 31 ∷ 28 ∷ 31 ∷ 30 ∷ 31 ∷ 30 ∷ 31 ∷ 31 ∷ 30 ∷ 31 ∷ 30 ∷ 31 ∷ []

-- and in a leap year
abbrev pub leap_year : List ℕ
leap_year = 31 ∷ 29 ∷ 31 ∷ 30 ∷ 31 ∷ 30 ∷ 31 ∷ 31 ∷ 30 ∷ 31 ∷ 30 ∷ 31 ∷ []

-- the months of a year by the rule
abbrev pub lengths : ℕ → List ℕ
lengths y = map (days_in y) months

table_by : (y : ℕ) (b : Bool) → leap y ≡ b → lengths y ≡ cond b leap_year common_year
unfolding days_in
table_by y true e = rw e
table_by y false e = rw e

-- the rule gives the table, for every year
pub as_a_table : (y : ℕ) → lengths y ≡ cond (leap y) leap_year common_year
as_a_table y = table_by y (leap y) refl

-- numbers added up
unfoldable pub total : List ℕ → ℕ
total [] = 0
total (n ∷ ns) = n + total ns

total_by : (b : Bool) → total (cond b leap_year common_year) ≡ cond b 366 365
unfolding total
total_by true = refl
total_by false = refl

-- a year has 365 days, a leap year 366
pub year_length : (y : ℕ) → total (lengths y) ≡ cond (leap y) 366 365
year_length y = rw (as_a_table y) (total_by (leap y))

-- after 400 years the leap years come again
pub leap_again : (y : ℕ) → leap (y + 400) ≡ leap y
unfolding leap
leap_again y =
    let a : (y + 400) % 4 ≡ y % 4 = omega arith in
    let b : (y + 400) % 100 ≡ y % 100 = omega arith in
    let c : (y + 400) % 400 ≡ y % 400 = omega arith in
    cc (a, b, c)

-- the days of n years from year y on
unfoldable pub days_from : ℕ → ℕ → ℕ
days_from y zero = 0
days_from y (suc n) = total (lengths y) + days_from (suc y) n

-- 400 years have 146,097 days, 97 of them leap days; years 0001 to 9999 have 3,652,059
pub four_hundred_years : days_from 1 400 ≡ 146097
unfolding days_from total leap days_in
four_hundred_years = refl

pub all_years : days_from 1 9999 ≡ 3652059
unfolding days_from total leap days_in
all_years = refl
