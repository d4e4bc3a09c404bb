-- Files and sheets of just their limit and one byte more (document 01, refusal 2), with its neighbours 1, 3 and 16. Lists so long are
-- not computed: only their length is used, and a law gives it. Assumes nothing.
use Prim.Native.Nat.{ℕ, suc}
use mathlib.Core.Path.{◌≡◌, refl}
use mathlib.Core.Bool.{true}
use mathlib.Core.List.{List, [], ◌∷◌}
use native.Mathlib.Omega.{arith}
use lib.Dec.{leb}
use lib.ListN.{length}
use borrow.Author.Tests.{le-leb}
use Rattle.record.specs.Records.{onto, records, fields, field, extent, holds}
use Rattle.place.specs.Places.{field_start, place_at}
use Rattle.layout.specs.Layout.{find}
use Rattle.flow.specs.Flows.{flow_number}
use Rattle.flow.specs.Editions.{usual, asked}
use Rattle.fault.specs.Record.{place_fault, kind_fault}
use Rattle.judge.specs.Record.{fault}
use Rattle.judge.specs.File.{checked_from, judged_by, judged_for, judged, refused}
use Rattle.value.specs.Value.{value_by, value_in, valued}
use Rattle.value.specs.Value as of_value
use Rattle.sheet.specs.Sheets.{bar_line}
use Rattle.sheet.specs.Write.{written_by, written}
use Rattle.sheet.specs.Write as of_sheet
use Rattle.sheet.specs.Read.{read_to}
use Rattle.period.specs.Answer.{read_up_to, has_by, has_for, has_period}
use Rattle.period.specs.Answer as of_period
use Rattle.answers.proofs.Cases.{copies, copies_length, Case, judging, writing, reading, asking, finding, given, expected, Right}

-- feeds and letters are one byte over a file's limit, and rest fills a file up to it; sheetFeeds, bars and sheetRest are so of a sheet
unfoldable pub limits_of : List ℕ → List ℕ → List ℕ → List ℕ → List ℕ → List ℕ → List Case
limits_of feeds letters rest sheetFeeds bars sheetRest =
    -- 2 file or sheet over its limit
    judging "P0138001" feeds (refused 2 0 0 0)
    ∷ reading "P0138001" feeds [] (of_sheet.refused 2 0 0 0) []
    ∷ asking "P0138001" feeds 1 1 (of_value.refused 2 0 0 0)
    ∷ writing "P0138001" sheetFeeds [] (of_sheet.refused 2 0 0 0) []
    -- a file of 1,048,576 bytes is not over its limit, nor is a sheet of 1,048,000
    ∷ judging "P0138001" (0x0A ∷ rest) (refused 4 1 1 0)
    ∷ writing "P0138001" (0x7C ∷ 0x0A ∷ sheetRest) [] (of_sheet.refused 16 1 0 0) []
    -- 1 and 2
    ∷ judging "P0138002" feeds (refused 1 0 0 0)
    ∷ writing "P0138002" sheetFeeds [] (of_sheet.refused 1 0 0 0) []
    -- 21 and 2
    ∷ judging "P0138001 712" feeds (refused 21 0 0 0)
    ∷ reading "P0138001 712" feeds [] (of_sheet.refused 21 0 0 0) []
    ∷ asking "P0133001 712" feeds 1 1 (of_value.refused 21 0 0 0)
    ∷ writing "P0133001 712" sheetFeeds [] (of_sheet.refused 21 0 0 0) []
    -- is a period there: 1, 21, 22 and 18 before 2
    ∷ finding "P0012001" feeds 17 (of_period.refused 2 0 0 0)
    ∷ finding "P0012001" feeds 51 (of_period.refused 18 0 0 0)
    ∷ finding "P0138001" feeds 17 (of_period.refused 22 0 0 0)
    ∷ finding "P0012001 712" feeds 17 (of_period.refused 21 0 0 0)
    ∷ finding "P0012002" feeds 17 (of_period.refused 1 0 0 0)
    -- 2 and 3, in the writer 2 and 16
    ∷ judging "P0138001" letters (refused 2 0 0 0)
    ∷ writing "P0138001" bars [] (of_sheet.refused 2 0 0 0) []
    ∷ []

-- a list with an element has a first one
one_at_least : (n : ℕ) → leb 1 (suc n) ≡ true
one_at_least n = le-leb 1 (suc n) (omega arith)

module _ (feeds letters rest sheetFeeds bars sheetRest : List ℕ) where
  by_length :
      length feeds ≡ 1048577
      → length letters ≡ 1048577
      → length rest ≡ 1048575
      → length sheetFeeds ≡ 1048001
      → length bars ≡ 1048001
      → length sheetRest ≡ 1047998
      → Right (limits_of feeds letters rest sheetFeeds bars sheetRest)
  unfolding given expected limits_of onto records fields field extent holds field_start place_at find flow_number place_fault kind_fault fault checked_from judged_by asked usual judged_for judged value_by value_in valued bar_line written_by written read_to read_up_to has_by has_for has_period
  by_length a b c d e f = rw (a, b, c, d, e, f, one_at_least (length (records rest)), one_at_least (length (records sheetRest))) refl

-- with line feeds, letters and bars
unfoldable pub limits : List Case
limits = limits_of (copies 1048577 0x0A) (copies 1048577 0x41) (copies 1048575 0x0A) (copies 1048001 0x0A) (copies 1048001 0x7C) (copies 1047998 0x0A)

-- each is answered as the papers say
pub limits_right : Right limits
unfolding limits
limits_right =
    by_length (copies 1048577 0x0A) (copies 1048577 0x41) (copies 1048575 0x0A) (copies 1048001 0x0A) (copies 1048001 0x7C)
    (copies 1047998 0x0A) (copies_length 1048577 0x0A) (copies_length 1048577 0x41) (copies_length 1048575 0x0A)
    (copies_length 1048001 0x0A) (copies_length 1048001 0x7C) (copies_length 1047998 0x0A)
