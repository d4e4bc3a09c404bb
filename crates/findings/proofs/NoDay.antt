-- The part of a date that is missing, by days that are there or not: and one is missing wherever the date is none. Assumes nothing.
use Prim.Native.Nat.{ℕ, ◌/◌, ◌%◌}
use mathlib.Core.Path.{◌≡◌, refl, sym}
use mathlib.Core.Logic.{◌↔◌}
use mathlib.Core.Bool.{Bool, true, false, cond, ◌&&◌}
use lib.Dec.{leb}
use Rattle.text.specs.Characters.{from_to}
use Rattle.text.specs.Rules.{must}
use Rattle.number.specs.Calendar.{days_in, is_day, is_date}
use Rattle.findings.specs.Dates.{missing_in}
use Rattle.findings.specs.declared.Part.{Part}
use Rattle.findings.specs.declared.Part.TheVariants.{Year, Month, Day}
use Rattle.std.specs.Prelude.{Option, Some, None}

-- the three tests
abbrev tested : Bool → Bool → Bool → Option Part
tested year month day = must year (Some Year) (must month (Some Month) (must day (Some Day) None))

-- each with those before it comes to the same
tests_joined : (a b c : Bool) → tested ((a && true) && true) ((a && b) && true) ((a && b) && c) ≡ tested a b c
tests_joined true true c = refl
tests_joined true false c = refl
tests_joined false b c = refl

-- every month has a first day
some_by : (a b c : Bool) → leb 1 (cond a (cond b 29 28) (cond c 30 31)) ≡ true
some_by true true c = refl
some_by true false c = refl
some_by false b true = refl
some_by false b false = refl

some_day : (y m : ℕ) → leb 1 (days_in y m) ≡ true
unfolding days_in
some_day y m = rw some_by

by_first_days : (v : ℕ) → tested (is_day (v / 10000) 1 1) (is_day (v / 10000) (v / 100 % 100) 1) (is_date v) ≡ missing_in v
unfolding missing_in is_date is_day
by_first_days v =
    let y = v / 10000 in
    let m = v / 100 % 100 in
    rw (some_day y 1, some_day y m) (tests_joined (from_to 1 9999 y) (from_to 1 12 m) (from_to 1 (days_in y m) (v % 100)))

-- so a year is there where its first of January is, and a month where its first day is
pub found : (v : ℕ) {a b c : Bool} → is_day (v / 10000) 1 1 ≡ a → is_day (v / 10000) (v / 100 % 100) 1 ≡ b → is_date v ≡ c → tested a b c ≡ missing_in v
found v e f g = rw (sym e, sym f, sym g) (by_first_days v)

all_there : (a b c : Bool) → (tested a b c ≡ None) ↔ (((a && b) && c) ≡ true)
all_there true true true = (λ e. refl, λ e. refl)
all_there true true false = (λ e. cc, λ e. cc)
all_there true false c = (λ e. cc, λ e. cc)
all_there false b c = (λ e. cc, λ e. cc)

-- nothing is missing exactly where the date is one
pub nothing_missing : (v : ℕ) → (missing_in v ≡ None) ↔ (is_date v ≡ true)
unfolding missing_in is_date is_day
nothing_missing v =
    let y = v / 10000 in
    let m = v / 100 % 100 in
    all_there (from_to 1 9999 y) (from_to 1 12 m) (from_to 1 (days_in y m) (v % 100))
