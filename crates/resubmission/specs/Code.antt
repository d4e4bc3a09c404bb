-- What the code tells of some rows: how many, and where the n-th stands. Assumes nothing.
use Rattle.std.specs.Prelude.{ℕ, ◌+◌, cond, List, eqb, length, Option, Some, None, Result, Ok, Err}
use Rattle.text.specs.Characters.{from_to}
use Rattle.record.specs.declared.Span.{Span}
use Rattle.place.specs.Places.{whole}
use Rattle.resubmission.specs.declared.Which.{Which}
use Rattle.resubmission.specs.declared.Pair.{Pair as Asks}
use Rattle.resubmission.specs.declared.Rows.{Rows}
use Rattle.resubmission.specs.declared.Found.{Found}
use Rattle.resubmission.specs.declared.NotFound.{NotFound}
use Rattle.resubmission.specs.declared.NotFound.TheVariants.{NoSuch}
use Rattle.resubmission.specs.Rows.{Pair, pair, Row, end_of, row_at}
use Rattle.resubmission.specs.InForce.{found}

-- what is asked for, by the bytes that are lent
abbrev pub pair_of : Asks → Pair
pair_of asks = pair asks.id.now asks.date.now asks.group.now

-- where a row stands
abbrev pub span_of : Row → Span
span_of r = record { start = r.start; end = end_of r }

-- where row n stands; nowhere where n is 0 or above their number
abbrev pub nth_of : List Row → ℕ → Option Span
nth_of rows n = cond (from_to 1 (length rows) n) (Some (span_of (row_at rows n))) None

-- how many rows there are, and where row n stands
abbrev pub told_of : List Row → ℕ → Rows
told_of rows n = record { number = length rows; nth = nth_of rows n }

-- the same with one row more behind them
unfoldable pub one_more : Rows → ℕ → Span → Rows
one_more told n row = record { number = told.number + 1; nth = cond (eqb (told.number + 1) n) (Some row) told.nth }

-- the answer by how many rows are in force, and by where the one that is asked for stands
abbrev pub handed_at : Which → ℕ → Option Span → Result Found NotFound
handed_at file number None = Err (NoSuch (whole 23) number)
handed_at file number (Some row) = Ok (found file number row.start row.end)

-- by what is told of the rows in force
abbrev pub handed_by : Which → Rows → Result Found NotFound
handed_by file told = handed_at file told.number told.nth
