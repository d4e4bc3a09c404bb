-- Places in a few bytes, as one table under one theorem. Assumes nothing.
use Prim.Native.Nat.{ℕ}
use mathlib.Core.Path.{◌≡◌, refl}
use mathlib.Core.List.{List, [], ◌∷◌}
use Rattle.text.specs.Characters.{bytes}
use Rattle.record.specs.Records.{onto, records, fields, extent, bar}
use Rattle.place.specs.Places.{field_start, place_at}

-- records from 0, 5 and 6 on: one of two fields, an empty one, and one of two fields that is not ended
abbrev few : List ℕ
few = bytes "AB|C\n\n|D"

-- a record, a field, and the place
pub data Case : Type 0 where
  case : ℕ → ℕ → ℕ → Case

pub given : List Case → List ℕ
given [] = []
given (case n k place ∷ cs) = place_at bar few n k ∷ given cs

pub expected : List Case → List ℕ
expected [] = []
expected (case n k place ∷ cs) = place ∷ expected cs

pub table : List Case
table =
    -- the first byte of a field
    case 1 1 0
    ∷ case 1 2 3
    -- an empty record has one field, and its place is that of its line feed
    ∷ case 2 1 5
    -- an empty field in front of a bar, and the last field of all
    ∷ case 3 1 6
    ∷ case 3 2 7
    -- field 0, and fields that are not there: the record's
    ∷ case 1 0 0
    ∷ case 1 3 0
    ∷ case 2 2 5
    ∷ case 3 0 6
    ∷ case 3 9 6
    -- records that are not there: the length
    ∷ case 4 0 8
    ∷ case 9 1 8
    -- record 0: 0
    ∷ case 0 0 0
    ∷ case 0 2 0
    ∷ []

pub place_cases : given table ≡ expected table
unfolding given expected table onto records fields extent field_start place_at
place_cases = refl
