-- Which part of a date the calendar does not have. Assumes nothing.
use Rattle.std.specs.Prelude.{ℕ, ◌/◌, ◌%◌, Option, Some, None}
use Rattle.text.specs.Characters.{from_to}
use Rattle.text.specs.Rules.{must}
use Rattle.number.specs.Calendar.{days_in}
use Rattle.findings.specs.declared.Part.{Part}
use Rattle.findings.specs.declared.Part.TheVariants.{Year, Month, Day}

-- the first of year y, month m and day d that is out of its range
abbrev pub missing : ℕ → ℕ → ℕ → Option Part
missing y m d = must (from_to 1 9999 y) (Some Year) (must (from_to 1 12 m) (Some Month) (must (from_to 1 (days_in y m) d) (Some Day) None))

-- the same of YYYYMMDD as one number
unfoldable pub missing_in : ℕ → Option Part
missing_in v = missing (v / 10000) (v / 100 % 100) (v % 100)
