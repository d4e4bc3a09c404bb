-- Document 02's C-12: the byte that a refusal points at, counted from 0. The texts are written out from the papers, and the places are
-- counted in them by hand; the refusals of Refusals, Limits and Sheets have theirs too. Assumes nothing.
use Prim.Native.Nat.{ℕ}
use Prim.Native.String.{String}
use mathlib.Core.List.{List, [], ◌∷◌, ◌++◌}
use Rattle.text.specs.Characters.{bytes}
use Rattle.judge.specs.File.{refused}
use Rattle.value.specs.Value as of_value
use Rattle.sheet.specs.Write as of_sheet
use Rattle.answers.proofs.Cases.{lines, unended, copies, Case, judging, writing, reading, asking}

-- the example of document 01: its records start at 0, 42, 61 and 72, and it has 88 bytes
abbrev zhd : String
zhd = "ZHD|P0138001|G|SVAA|Z|POOL|20240105120000"

abbrev sub : String
sub = "SUB|B|||20231231|M"

abbrev ta2 : String
ta2 = "TA2|1.0250"

abbrev example : List ℕ
example = lines (zhd ∷ sub ∷ ta2 ∷ "ZPT|4|812996689" ∷ [])

-- its header as a line of a sheet, and the header of a P0012 file
abbrev line : String
line = "ZHD\tP0138001\tG\tSVAA\tZ\tPOOL\t20240105120000"

abbrev zhd12 : String
zhd12 = "ZHD|P0012001|G|SVAA|Z|POOL|20240105120000"

unfoldable pub point_at : List Case
point_at =
    -- the first byte of the named field: the checksum, the count, a kind, a field behind another that is empty
    judging "P0138001" (lines (zhd ∷ sub ∷ ta2 ∷ "ZPT|4|812996688" ∷ [])) (refused 13 4 3 78)
    ∷ judging "P0138001" (lines (zhd ∷ sub ∷ ta2 ∷ "ZPT|5|812996689" ∷ [])) (refused 12 4 2 76)
    ∷ judging "P0138001" (lines (zhd ∷ sub ∷ "ZPT|4|812996689" ∷ [])) (refused 5 3 1 61)
    ∷ judging "P0138001" (lines (zhd ∷ "SUB|B|NULL||20231231|M" ∷ ta2 ∷ "ZPT|4|812996689" ∷ [])) (refused 10 2 3 48)
    ∷ judging "P0138001" (lines (zhd ∷ "SUB|B|||20231231|MM" ∷ [])) (refused 9 2 6 59)
    ∷ judging "P0138001" (lines ("ZHD|P0138001|G|SVAA|Z|POOL|2024010512000" ∷ [])) (refused 8 1 7 27)
    -- of an empty field, the byte that ends it
    ∷ judging "P0138001" (lines (zhd ∷ "SUB||||20231231|M" ∷ [])) (refused 7 2 2 46)
    -- of an empty field that ends a file, the file's length
    ∷ judging "P0138001" (unended (zhd ∷ sub ∷ "TA2|" ∷ [])) (refused 7 3 2 65)
    -- in a last record that is not ended
    ∷ judging "P0138001" (unended (zhd ∷ "SUB|B|||2023123A|M" ∷ [])) (refused 8 2 5 50)
    -- of an empty record, its line feed
    ∷ judging "P0138001" (lines (zhd ∷ "" ∷ sub ∷ [])) (refused 4 2 1 42)
    ∷ judging "P0138001" (bytes "\n\n") (refused 4 1 1 0)
    -- the first byte of the record where the field is 0: too long, too many fields, no last line feed
    ∷ judging "P0138001" (lines (zhd ∷ []) ++ copies 513 65) (refused 3 2 0 42)
    ∷ judging "P0138001" (lines (zhd ∷ sub ∷ "TA2|1.0250|1" ∷ [])) (refused 6 3 0 61)
    ∷ judging "P0012001" (unended (zhd12 ∷ "ZPD|20240105|||1|SF" ∷ "HDR|1|_A|1" ∷ "ZPT|4|1497044334" ∷ [])) (refused 15 4 0 73)
    -- 0 where the record is 0
    ∷ judging "P0139001" example (refused 1 0 0 0)
    ∷ reading "P0138001" example [] (of_sheet.refused 17 0 0 0) []
    -- the file's length for 14, its last record ended or not
    ∷ judging "P0138001" (lines (zhd ∷ sub ∷ [])) (refused 14 3 0 61)
    ∷ judging "P0138001" (unended (zhd ∷ sub ∷ [])) (refused 14 3 0 60)
    ∷ judging "P0138001" [] (refused 14 1 0 0)
    -- and for an 18 whose record does not exist; but 0 where record 0 was asked
    ∷ asking "P0138001" example 5 1 (of_value.refused 18 5 1 88)
    ∷ asking "P0138001" example 9 0 (of_value.refused 18 9 0 88)
    ∷ asking "P0138001" example 0 3 (of_value.refused 18 0 3 0)
    ∷ asking "P0138001" example 0 0 (of_value.refused 18 0 0 0)
    -- the record's place for a field that does not exist
    ∷ asking "P0138001" example 3 3 (of_value.refused 18 3 3 61)
    ∷ asking "P0138001" example 4 0 (of_value.refused 18 4 0 72)
    ∷ asking "P0138001" (unended (zhd ∷ sub ∷ ta2 ∷ "ZPT|4|812996689" ∷ [])) 4 4 (of_value.refused 18 4 4 72)
    -- the reader's place, whatever is asked
    ∷ asking "P0138001" (lines (zhd ∷ sub ∷ ta2 ∷ "ZPT|4|812996688" ∷ [])) 9 9 (of_value.refused 13 4 3 78)
    ∷ reading "P0138001" (lines (zhd ∷ sub ∷ ta2 ∷ "ZPT|4|812996688" ∷ [])) (copies 3 120) (of_sheet.refused 13 4 3 78) (copies 3 120)
    -- for the writer the place in the sheet: a line that has a bar, a line that is not ended, a kind in a line
    ∷ writing "P0138001" (lines (line ∷ "SUB\tB\t|\t20231231\tM" ∷ [])) [] (of_sheet.refused 16 2 0 42) []
    ∷ writing "P0138001" (unended (line ∷ "SUB\tB\t\t\t20231231\tM" ∷ "TA2\t1.0250" ∷ [])) [] (of_sheet.refused 15 3 0 61) []
    ∷ writing "P0138001" (lines (line ∷ line ∷ [])) (copies 3 120) (of_sheet.refused 5 2 1 42) (copies 3 120)
    -- a field of a line; and the sheet's length where the made footer is meant
    ∷ writing "P0138001" (lines ("ZHD\tP0138001\tX" ∷ "ZHD\tP0138001\tX" ∷ [])) [] (of_sheet.refused 6 1 0 0) []
    ∷ writing "P0138001" [] [] (of_sheet.refused 5 1 1 0) []
    ∷ []
