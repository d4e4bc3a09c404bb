-- Document 02's C-16: in edition 711 an SB1 has no market sector; 533 is used where no edition is named; 21 for no such edition, right
-- after 1, in every part and for every flow. The texts are written out from the papers, and their footers are summed apart from the
-- definitions. Assumes nothing.
use Prim.Native.Nat.{ℕ}
use Prim.Native.String.{String}
use mathlib.Core.Bool.{false}
use mathlib.Core.List.{List, [], ◌∷◌, ◌++◌, map}
use Rattle.text.specs.Characters.{bytes}
use Rattle.place.specs.Places.{whole}
use Rattle.flow.proofs.Stepped as steps
use Rattle.judge.specs.File.{Reply, accepted, refused}
use Rattle.value.specs.Value as of_value
use Rattle.sheet.specs.Write as of_sheet
use Rattle.index.specs.Entries.{entry}
use Rattle.index.specs.Entries as of_index
use Rattle.answers.proofs.Cases.{lines, copies, Case, judging, writing, reading, asking, stepping, exporting, indexing, behind, bad}
use Rattle.answers.proofs.BesideFile.{lent}

abbrev zhd : String
zhd = "ZHD|P0133001|Z|SVAA|Z|POOL|20240105120000"

-- a file of edition 711, and the same of 533, whose SB1 has a field more
abbrev newer : List ℕ
newer = lines (zhd ∷ "SB1|M|ABCDEFGH|20240105|M" ∷ "CM1|_A|12|3.5|-4" ∷ "ZPT|4|1215135308" ∷ [])

abbrev older : List ℕ
older = lines (zhd ∷ "SB1|H|M|ABCDEFGH|20240105|M" ∷ "CM1|_A|12|3.5|-4" ∷ "ZPT|4|2082013764" ∷ [])

-- no SB1 at all
abbrev neither : List ℕ
neither = lines (zhd ∷ "ZPT|2|89220381" ∷ [])

-- files of other flows
abbrev ta2_file : List ℕ
ta2_file = lines ("ZHD|P0138001|G|SVAA|Z|POOL|20240105120000" ∷ "SUB|B|||20231231|M" ∷ "TA2|1.0250" ∷ "ZPT|4|812996689" ∷ [])

abbrev hdr_file : List ℕ
hdr_file = lines ("ZHD|P0012001|G|SVAA|Z|POOL|20240105120000" ∷ "ZPD|20240105|||1|SF" ∷ "HDR|1|_A|1" ∷ "ZPT|4|1497044334" ∷ [])

-- one file for each of some words
abbrev for_each : List String → List ℕ → Reply → List Case
for_each words f r = map (λ (w : String). judging w f r) words

unfoldable pub newer_subject : List Case
newer_subject =
    -- each file in its own edition, and 533 where none is named
    judging "P0133001 711" newer (accepted 4)
    ∷ judging "P0133001 533" older (accepted 4)
    ∷ judging "P0133001" older (accepted 4)
    -- and in the other, where its SB1 has the wrong number of fields
    ∷ judging "P0133001 711" older (refused 6 2 0 42)
    ∷ judging "P0133001 533" newer (refused 6 2 0 42)
    ∷ judging "P0133001" newer (refused 6 2 0 42)
    -- ZHD and ZPT alone are right in both
    ∷ judging "P0133001 533" neither (accepted 2)
    ∷ judging "P0133001 711" neither (accepted 2)
    -- other flows have the same layout in each
    ∷ judging "P0138001 533" ta2_file (accepted 4)
    ∷ judging "P0138001 711" ta2_file (accepted 4)
    ∷ judging "P0012001 711" hdr_file (accepted 4)
    ∷ []
    -- SB1: role, id, date, periodicity
    ++ behind "P0133001 711" (zhd ∷ []) 2
    (bad "SB1|MA|ABCDEFGH|20240105|M" 9 2
    ∷ bad "SB1||ABCDEFGH|20240105|M" 7 2
    ∷ bad "SB1|H|ABCDEFGH|20240105|M" 10 2
    ∷ bad "SB1|M|ABCDEFGHA|20240105|M" 9 3
    ∷ bad "SB1|M||20240105|M" 7 3
    ∷ bad "SB1|M|ABCDEFGH|202401050|M" 8 4
    ∷ bad "SB1|M|ABCDEFGH|20240230|M" 9 4
    ∷ bad "SB1|M|ABCDEFGH||M" 7 4
    ∷ bad "SB1|M|ABCDEFGH|20240105|MA" 9 5
    ∷ bad "SB1|M|ABCDEFGH|20240105|" 7 5
    ∷ bad "SB1|M|ABCDEFGH|20240105|A" 10 5
    ∷ bad "SB1|M|ABCDEFGH|20240105" 6 0
    ∷ bad "SB1|M|M|ABCDEFGH|20240105|M" 6 0
    ∷ [])
    -- all else, the grammar too, is as before
    ++ behind "P0133001 711" [] 1 (bad "SB1" 5 1 ∷ bad "ZHD|P0133711|Z|SVAA|Z|POOL|20240105120000" 10 2 ∷ bad "ZHD|P0133001|G|SVAA|Z|POOL|20240105120000" 10 3 ∷ [])
    ++ behind "P0133001 711" (zhd ∷ []) 2 (bad "ZHD" 5 1 ∷ bad "CM1" 5 1 ∷ bad "SB2|M|ABCDEFGH|20240105|M" 4 1 ∷ [])
    ++ behind "P0133001 711" (zhd ∷ "SB1|M|ABCDEFGH|20240105|M" ∷ []) 3
    (bad "ZHD" 5 1 ∷ bad "CM1|ABA|1|1.0|1" 9 2 ∷ bad "CM1|_A||1.0|1" 7 3 ∷ bad "CM1|_A|1|1|1" 8 4 ∷ bad "CM1|_A|1|1.0" 6 0 ∷ bad "ZPT|4|0" 12 2 ∷ [])
    -- 21 where a space follows the name and no edition behind it, of whichever flow
    ++ for_each
    ("P0133001 712"
    ∷ "P0133001 "
    ∷ "P0133001  711"
    ∷ "P0133001 0711"
    ∷ "P0133001 711 "
    ∷ "P0133001 71"
    ∷ "P0133001 7111"
    ∷ "P0133001 711\r"
    ∷ "P0133001 533533"
    ∷ "P0138001 712"
    ∷ "P0138001 "
    ∷ "P0012001 001"
    ∷ [])
    newer (refused 21 0 0 0)
    -- 1 where it is no name that we hold, or something else follows; 1 comes before 21
    ++ for_each
    ("P0139001" ∷ "P0139001 711" ∷ "P0139001 712" ∷ "P0133001711" ∷ "P0133001\t711" ∷ "P013300 711" ∷ "p0133001 711" ∷ "711" ∷ " " ∷ "" ∷ [])
    newer (refused 1 0 0 0)
    ++ (
    -- in every part: a sheet read, and 21 before all that the part says else
    reading "P0133001 711" newer (copies 87 120) (of_sheet.done 4 85)
    (lines ("ZHD\tP0133001\tZ\tSVAA\tZ\tPOOL\t20240105120000" ∷ "SB1\tM\tABCDEFGH\t20240105\tM" ∷ "CM1\t_A\t12\t3.5\t-4" ∷ []) ++ bytes "xx")
    ∷ reading "P0133001 711" older (copies 87 120) (of_sheet.refused 6 2 0 42) (copies 87 120)
    ∷ reading "P0133001 7" newer [] (of_sheet.refused 21 0 0 0) []
    -- a bar, and no line feed at the end
    ∷ writing "P0138001 7" (bytes "|") (copies 2 120) (of_sheet.refused 21 0 0 0) (copies 2 120)
    ∷ writing "P0138001 7" (bytes "ZHD") (copies 2 120) (of_sheet.refused 21 0 0 0) (copies 2 120)
    -- the values of a newer SB1's fields
    ∷ asking "P0133001 711" newer 2 2 (of_value.text 46 47 (bytes "M"))
    ∷ asking "P0133001 711" newer 2 3 (of_value.text 48 56 (bytes "ABCDEFGH"))
    ∷ asking "P0133001 711" newer 2 6 (of_value.refused 18 2 6 42)
    ∷ asking "P0133001" newer 2 3 (of_value.refused 6 2 0 42)
    ∷ asking "P0133001 1" newer 0 0 (of_value.refused 21 0 0 0)
    -- the kinds that may follow are the same
    ∷ stepping "P0133001 711" "ZHDSB1" (steps.through (map bytes ("SB1" ∷ "CM1" ∷ "ZPT" ∷ [])) false)
    ∷ stepping "P0133001 711" "ZHDCM1" (steps.stopped 2)
    ∷ stepping "P0133001 534" "XXX" (steps.refused (whole 21))
    ∷ exporting "P0133001 711" newer (copies 90 120) (of_sheet.done 4 88)
    (bytes "ZHD,P0133001,Z,SVAA,Z,POOL,20240105120000\r\nSB1,M,ABCDEFGH,20240105,M\r\nCM1,_A,12,3.5,-4\r\nxx")
    ∷ exporting "P0133001 7" newer [] (of_sheet.refused 21 0 0 0) []
    ∷ indexing "P0133001 711" newer (lent 2) (of_index.accepted 4 1) (entry 2 42 1 1 ∷ lent 1)
    ∷ indexing "P0133001 7" newer [] (of_index.refused 21 0 0 0) []
    ∷ [])
