-- Document 01's refusals 1 to 18, each with its record and field, and each pair of neighbours in the order: calls that have both
-- faults. The texts are written out from the paper. Files and sheets at their limits stand in Limits, sheets that the writer takes
-- in Sheets. Assumes nothing.
use Prim.Native.Nat.{ℕ}
use Prim.Native.String.{String}
use mathlib.Core.Bool.{true, false}
use mathlib.Core.List.{List, [], ◌∷◌, ◌++◌}
use lib.IntN.{pos, neg_ℤ}
use Rattle.text.specs.Characters.{bytes}
use Rattle.field.specs.Judge.{bare, fixed}
use Rattle.field.specs.Judge as of_field
use Rattle.field.specs.declared.FieldType.TheVariants.{Text, Int, Dec, Date, Null}
use Rattle.judge.specs.File.{accepted, refused}
use Rattle.value.specs.Value as of_value
use Rattle.sheet.specs.Write as of_sheet
use Rattle.answers.proofs.Cases.{lines, unended, copies, Case, judging, writing, reading, asking, of_type, summing}

-- the example of document 01
abbrev zhd : String
zhd = "ZHD|P0138001|G|SVAA|Z|POOL|20240105120000"

abbrev sub : String
sub = "SUB|B|||20231231|M"

abbrev ta2 : String
ta2 = "TA2|1.0250"

abbrev example : List ℕ
example = lines (zhd ∷ sub ∷ ta2 ∷ "ZPT|4|812996689" ∷ [])

-- its sheet
abbrev sheet : List ℕ
sheet = lines ("ZHD\tP0138001\tG\tSVAA\tZ\tPOOL\t20240105120000" ∷ "SUB\tB\t\t\t20231231\tM" ∷ "TA2\t1.0250" ∷ [])

-- how files of P0012, P0181, P0133 and P0164 begin
abbrev zhd12 : String
zhd12 = "ZHD|P0012001|G|SVAA|Z|POOL|20240105120000"

abbrev zpd : String
zpd = "ZPD|20240105|||1|SF"

abbrev hdr : String
hdr = "HDR|1|_A|1"

abbrev zhd81 : String
zhd81 = "ZHD|P0181002|G|SVAA|Z|POOL|20240105120000"

abbrev gs7 : String
gs7 = "GS7|_A"

abbrev zhd33 : String
zhd33 = "ZHD|P0133001|Z|SVAA|Z|POOL|20240105120000"

abbrev zhd64 : String
zhd64 = "ZHD|P0164001|G|SVAA|Z|POOL|20240105120000"

abbrev sub64 : String
sub64 = "SUB|B|X|LOND|20231231|M"

-- right files with a row of P0012, and with units of P0181
abbrev rows : List ℕ
rows = lines (zhd12 ∷ zpd ∷ hdr ∷ "GSP|7|-12|-0.0005" ∷ "ZPT|5|5797155" ∷ [])

abbrev units : List ℕ
units = lines (zhd81 ∷ gs7 ∷ "SUP|ABCD" ∷ "BMU|A|20240101|20241231|T" ∷ "BMU|B|20240101||F" ∷ "ZPT|6|508052562" ∷ [])

-- an output of so many bytes, each an x
abbrev room : ℕ → List ℕ
room n = copies n 120

unfoldable pub refusals : List Case
refusals =
    -- 1 no such flow: of every part that takes one
    judging "P0138002" example (refused 1 0 0 0)
    ∷ judging "P013800" example (refused 1 0 0 0)
    ∷ judging "P01380011" example (refused 1 0 0 0)
    ∷ judging "" [] (refused 1 0 0 0)
    ∷ writing "P0138002" sheet (room 3) (of_sheet.refused 1 0 0 0) (room 3)
    ∷ reading "P0138002" example (room 3) (of_sheet.refused 1 0 0 0) (room 3)
    ∷ asking "P0138002" example 1 1 (of_value.refused 1 0 0 0)
    -- 3 record over 512 bytes; one of 512 is not
    ∷ judging "P0138001" (lines (zhd ∷ []) ++ bytes "SUB|" ++ copies 509 65 ++ 0x0A ∷ []) (refused 3 2 0 42)
    ∷ judging "P0138001" (lines (zhd ∷ []) ++ bytes "SUB|" ++ copies 508 65 ++ 0x0A ∷ []) (refused 6 2 0 42)
    -- 4 kind is not one of this flow's
    ∷ judging "P0138001" (lines (zhd ∷ "SP7|B|||20231231|M" ∷ [])) (refused 4 2 1 42)
    ∷ judging "P0138001" (lines (zhd ∷ "sub|B|||20231231|M" ∷ [])) (refused 4 2 1 42)
    ∷ judging "P0138001" (lines (zhd ∷ "SUBS|B|||20231231|M" ∷ [])) (refused 4 2 1 42)
    ∷ judging "P0138001" (lines (zhd ∷ "" ∷ [])) (refused 4 2 1 42)
    -- 5 the grammar has no such kind here
    ∷ judging "P0138001" (lines (zhd ∷ ta2 ∷ [])) (refused 5 2 1 42)
    ∷ judging "P0138001" (lines (sub ∷ [])) (refused 5 1 1 0)
    ∷ judging "P0138001" (lines (zhd ∷ sub ∷ ta2 ∷ "ZPT|4|812996689" ∷ "ZPT|4|812996689" ∷ [])) (refused 5 5 1 88)
    -- 6 wrong number of fields
    ∷ judging "P0138001" (lines (zhd ∷ "SUB|B|||20231231" ∷ [])) (refused 6 2 0 42)
    ∷ judging "P0138001" (lines (zhd ∷ "SUB|B|||20231231|M|" ∷ [])) (refused 6 2 0 42)
    -- 7 required field empty
    ∷ judging "P0138001" (lines (zhd ∷ "SUB|B||||M" ∷ [])) (refused 7 2 5 50)
    -- 8 form
    ∷ judging "P0138001" (lines (zhd ∷ "SUB|B|||2023123A|M" ∷ [])) (refused 8 2 5 50)
    -- a carriage return is no delimiter
    ∷ judging "P0138001" (bytes "ZHD|P0138001|G|SVAA|Z|POOL|20240105120000\r\n") (refused 8 1 7 27)
    -- 9 range; NULL is no word to be sent
    ∷ judging "P0138001" (lines (zhd ∷ "SUB|B|||20231232|M" ∷ [])) (refused 9 2 5 50)
    ∷ judging "P0133001 533" (lines (zhd33 ∷ "SB1|H|M|ABCDEFGH|20231231|M" ∷ "CM1|NULL|1|1.0|1" ∷ [])) (refused 9 3 2 74)
    -- 10 fixed value differs, null field filled
    ∷ judging "P0138001" (lines (zhd ∷ "SUB|C|||20231231|M" ∷ [])) (refused 10 2 2 46)
    ∷ judging "P0138001" (lines (zhd ∷ "SUB|B||X|20231231|M" ∷ [])) (refused 10 2 4 49)
    -- 11 key out of its order, at the key field: periods and dates by value, texts by byte, a shorter text before one that continues it
    ∷ judging "P0012001" (lines (zhd12 ∷ zpd ∷ hdr ∷ "GSP|9|1|1.0000" ∷ "GSP|10|1|1.0000" ∷ "GSP|10|1|1.0000" ∷ [])) (refused 11 6 2 108)
    ∷ judging "P0012001" (lines (zhd12 ∷ zpd ∷ hdr ∷ "GSP|10|1|1.0000" ∷ "GSP|9|1|1.0000" ∷ [])) (refused 11 5 2 93)
    ∷ judging "P0012001" (lines (zhd12 ∷ zpd ∷ hdr ∷ "GS2|9|0|1.0000" ∷ "GS2|10|0|1.0000" ∷ "GS2|2|0|1.0000" ∷ [])) (refused 11 6 2 108)
    ∷ judging "P0181002" (lines (zhd81 ∷ gs7 ∷ "SUP|ABC" ∷ "BMU|A|20240101||T" ∷ "SUP|ABCD" ∷ "BMU|A|20240101||T" ∷ "SUP|ABC" ∷ [])) (refused 11 7 2 106)
    ∷ judging "P0181002" (lines (zhd81 ∷ gs7 ∷ "SUP|ABCD" ∷ "BMU|B|20240101||T" ∷ "BMU|a|20240101||T" ∷ "BMU|C|20240101||T" ∷ [])) (refused 11 6 2 98)
    ∷ judging "P0164001" (lines (zhd64 ∷ sub64 ∷ "SP7|AB|ABCD|A|20231231|AB|1" ∷ "SP7|AB|ABCD|A|20240101|AB|1" ∷ "SP7|AC|ABCD|A|20231231|AB|1" ∷ [])) (refused 11 5 5 136)
    -- 12 record count wrong, 13 checksum wrong
    ∷ judging "P0138001" (lines (zhd ∷ sub ∷ ta2 ∷ "ZPT|3|812996689" ∷ [])) (refused 12 4 2 76)
    ∷ judging "P0138001" (lines (zhd ∷ sub ∷ ta2 ∷ "ZPT|-4|812996689" ∷ [])) (refused 12 4 2 76)
    ∷ judging "P0138001" (lines (zhd ∷ sub ∷ ta2 ∷ "ZPT|4|0" ∷ [])) (refused 13 4 3 78)
    ∷ judging "P0138001" (lines (zhd ∷ sub ∷ ta2 ∷ "ZPT|4|-812996689" ∷ [])) (refused 13 4 3 78)
    -- 14 records end before ZPT
    ∷ judging "P0138001" [] (refused 14 1 0 0)
    ∷ judging "P0138001" (lines (zhd ∷ [])) (refused 14 2 0 42)
    ∷ judging "P0138001" (unended (zhd ∷ sub ∷ ta2 ∷ [])) (refused 14 4 0 71)
    -- 15 last line feed absent where needed: in P0012 and P0181, and in no other flow; of a sheet at its last line
    ∷ judging "P0012001" (unended (zhd12 ∷ zpd ∷ hdr ∷ "ZPT|4|1497044334" ∷ [])) (refused 15 4 0 73)
    ∷ judging "P0012001" (lines (zhd12 ∷ zpd ∷ hdr ∷ "ZPT|4|1497044334" ∷ [])) (accepted 4)
    ∷ judging "P0181002" (unended (zhd81 ∷ gs7 ∷ "ZPT|3|526275177" ∷ [])) (refused 15 3 0 49)
    ∷ judging "P0181002" (lines (zhd81 ∷ gs7 ∷ "ZPT|3|526275177" ∷ [])) (accepted 3)
    ∷ judging "P0133001 533" (unended (zhd33 ∷ "ZPT|2|89220381" ∷ [])) (accepted 2)
    ∷ judging "P0134001" (unended ("ZHD|P0134001|Z|SVAA|Z|POOL|20240105120000" ∷ "ZPT|2|38888733" ∷ [])) (accepted 2)
    ∷ judging "P0138001" (unended (zhd ∷ sub ∷ ta2 ∷ "ZPT|4|812996689" ∷ [])) (accepted 4)
    ∷ judging "P0164001" (unended (zhd64 ∷ "ZPT|2|38561048" ∷ [])) (accepted 2)
    ∷ writing "P0138001" (bytes "ZHD\tP0138001\nSUB\tB") (room 3) (of_sheet.refused 15 2 0 13) (room 3)
    -- 16 a bar in a sheet, at the first such line
    ∷ writing "P0138001" (bytes "ZHD\tP0138001\nSUB|B\nTA2|1\n") (room 3) (of_sheet.refused 16 2 0 13) (room 3)
    -- 17 output too short for the result; a result that fits, and bytes past it that are kept
    ∷ reading "P0138001" example (room 71) (of_sheet.refused 17 0 0 0) (room 71)
    ∷ reading "P0138001" example (room 72) (of_sheet.done 4 72) sheet
    ∷ reading "P0138001" example (room 74) (of_sheet.done 4 72) (sheet ++ bytes "xx")
    -- 18 no such record, field or width, as asked
    ∷ asking "P0138001" example 5 1 (of_value.refused 18 5 1 88)
    ∷ asking "P0138001" example 0 1 (of_value.refused 18 0 1 0)
    ∷ asking "P0138001" example 2 7 (of_value.refused 18 2 7 42)
    ∷ asking "P0138001" example 2 0 (of_value.refused 18 2 0 42)
    ∷ of_type (Text 513) bare "A" (of_field.refused 18 0 0 0)
    ∷ of_type (Int 19) bare "1" (of_field.refused 18 0 0 0)
    ∷ of_type (Dec 18 18) bare "1.0" (of_field.refused 18 0 0 0)
    -- the value of what is there: a kind's and a text's bytes with their place, numbers, yes or no, empty
    ∷ asking "P0138001" example 1 1 (of_value.text 0 3 (bytes "ZHD"))
    ∷ asking "P0138001" example 1 7 (of_value.number (pos 20240105120000))
    ∷ asking "P0138001" example 2 5 (of_value.number (pos 20231231))
    ∷ asking "P0138001" example 2 6 (of_value.text 59 60 (bytes "M"))
    ∷ asking "P0138001" example 2 4 of_value.empty
    ∷ asking "P0138001" example 3 2 (of_value.number (pos 10250))
    ∷ asking "P0138001" example 4 3 (of_value.number (pos 812996689))
    ∷ asking "P0012001" rows 4 2 (of_value.number (pos 7))
    ∷ asking "P0012001" rows 4 3 (of_value.number (neg_ℤ (pos 12)))
    ∷ asking "P0012001" rows 4 4 (of_value.number (neg_ℤ (pos 5)))
    ∷ asking "P0181002" units 4 5 (of_value.truth true)
    ∷ asking "P0181002" units 5 5 (of_value.truth false)
    ∷ asking "P0181002" units 5 4 of_value.empty
    -- the checksum takes every record, the footer too, and no line feed
    ∷ summing example 1515729962
    ∷ summing (bytes "ABCDE\n\nAB") 1157645124
    ∷ []

-- neighbours in the order: a call with both faults has the first
unfoldable pub neighbours : List Case
neighbours =
    -- 3 and 4; 8 in a record and 3 in the one behind it
    judging "P0138001" (copies 513 65) (refused 3 1 0 0)
    ∷ judging "P0138001" (lines (zhd ∷ "SUB|B|||2023123A|M" ∷ []) ++ copies 513 65) (refused 8 2 5 50)
    -- 4 and 5
    ∷ judging "P0138001" (lines ("GSP|1|1|1.0000" ∷ [])) (refused 4 1 1 0)
    -- 5 and 6
    ∷ judging "P0138001" (lines (zhd ∷ "TA2|1.0250|1" ∷ [])) (refused 5 2 1 42)
    -- 6 and 7
    ∷ judging "P0138001" (lines (zhd ∷ "SUB|B||||M|" ∷ [])) (refused 6 2 0 42)
    -- 7 and 8; 7 and 10
    ∷ judging "P0138001" (lines (zhd ∷ sub ∷ "TA2|" ∷ [])) (refused 7 3 2 65)
    ∷ judging "P0138001" (lines (zhd ∷ "SUB||||20231231|M" ∷ [])) (refused 7 2 2 46)
    -- 8 and 9
    ∷ judging "P0138001" (lines (zhd ∷ sub ∷ "TA2|010.00000" ∷ [])) (refused 8 3 2 65)
    -- 9 and 10
    ∷ judging "P0138001" (lines (zhd ∷ "SUB|CC|||20231231|M" ∷ [])) (refused 9 2 2 46)
    -- a null field only 10, never 8
    ∷ judging "P0138001" (lines (zhd ∷ "SUB|B| ||20231231|M" ∷ [])) (refused 10 2 3 48)
    -- 10 in field 2 and 7 in field 5: fields in turn
    ∷ judging "P0138001" (lines (zhd ∷ "SUB|C||||M" ∷ [])) (refused 10 2 2 46)
    -- 10 and 11
    ∷ judging "P0012001" (lines (zhd12 ∷ zpd ∷ hdr ∷ "GS2|2|0|1.0000" ∷ "GS2|1|1|1.0000" ∷ [])) (refused 10 5 3 94)
    -- 8 in the last field and 11
    ∷ judging "P0012001" (lines (zhd12 ∷ zpd ∷ hdr ∷ "GSP|2|0|1.0000" ∷ "GSP|1|1|1" ∷ [])) (refused 8 5 4 96)
    -- 11 in a record and 12 in the footer behind it
    ∷ judging "P0012001" (lines (zhd12 ∷ zpd ∷ hdr ∷ "GSP|2|0|1.0000" ∷ "GSP|1|1|1.0000" ∷ "ZPT|9|0" ∷ [])) (refused 11 5 2 92)
    -- 12 and 13
    ∷ judging "P0138001" (lines (zhd ∷ sub ∷ ta2 ∷ "ZPT|5|0" ∷ [])) (refused 12 4 2 76)
    -- 10 and 12 in one footer cannot be; 8 in its checksum and 12
    ∷ judging "P0138001" (lines (zhd ∷ sub ∷ ta2 ∷ "ZPT|5|00" ∷ [])) (refused 8 4 3 78)
    -- 13 and 15 (13 and 14 cannot be: 13 is at a ZPT)
    ∷ judging "P0012001" (unended (zhd12 ∷ zpd ∷ hdr ∷ "ZPT|4|0" ∷ [])) (refused 13 4 3 79)
    -- 13 in a footer and 5 in a record behind it
    ∷ judging "P0138001" (lines (zhd ∷ sub ∷ ta2 ∷ "ZPT|4|0" ∷ sub ∷ [])) (refused 13 4 3 78)
    -- 14 and 15
    ∷ judging "P0012001" (unended (zhd12 ∷ zpd ∷ hdr ∷ [])) (refused 14 4 0 72)
    -- 14 and 17, 14 and 18
    ∷ reading "P0138001" (lines (zhd ∷ [])) [] (of_sheet.refused 14 2 0 42) []
    ∷ asking "P0138001" (lines (zhd ∷ [])) 9 9 (of_value.refused 14 2 0 42)
    -- 15 and 17, 15 and 18
    ∷ reading "P0012001" (unended (zhd12 ∷ zpd ∷ hdr ∷ "ZPT|4|1497044334" ∷ [])) [] (of_sheet.refused 15 4 0 73) []
    ∷ asking "P0012001" (unended (zhd12 ∷ zpd ∷ hdr ∷ "ZPT|4|1497044334" ∷ [])) 9 9 (of_value.refused 15 4 0 73)
    -- the writer: 1 and 16, 16 and 15
    ∷ writing "P0138002" (bytes "|\n") [] (of_sheet.refused 1 0 0 0) []
    ∷ writing "P0138001" (bytes "ZHD\nSUB|") [] (of_sheet.refused 16 2 0 4) []
    -- 15 and the reader's 4
    ∷ writing "P0138001" (bytes "XXX") [] (of_sheet.refused 15 1 0 0) []
    -- the reader's from record 1 and 17: an empty sheet, whose footer stands first, and one whose lines are no kinds
    ∷ writing "P0138001" [] [] (of_sheet.refused 5 1 1 0) []
    ∷ writing "P0138001" (bytes "XXX\nXXX\n") [] (of_sheet.refused 4 1 1 0) []
    -- one field: 18 and 7, 7 and 8, 8 and 9, 9 and 10
    ∷ of_type (Text 0) bare "" (of_field.refused 18 0 0 0)
    ∷ of_type Date bare "" (of_field.refused 7 0 0 0)
    ∷ of_type (Int 2) bare "007" (of_field.refused 8 0 0 0)
    ∷ of_type (Text 1) (fixed (bytes "M")) "NN" (of_field.refused 9 0 0 0)
    ∷ of_type Null bare " " (of_field.refused 10 0 0 0)
    ∷ []
