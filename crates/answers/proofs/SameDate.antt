-- Document 02's C-11: under a SUB the dates of SP7 may be equal and may not fall; every other key rises; a key starts anew as before.
-- The texts are written out from the papers, and their footers are summed apart from the definitions. Assumes nothing.
use Prim.Native.String.{String}
use mathlib.Core.List.{List, [], ◌∷◌, ◌++◌}
use Rattle.text.specs.Characters.{bytes}
use Rattle.judge.specs.File.{accepted}
use Rattle.sheet.specs.Write as of_sheet
use Rattle.answers.proofs.Cases.{lines, copies, Case, judging, reading, behind, bad}

-- how files of P0164, P0181 and P0012 begin
abbrev zhd : String
zhd = "ZHD|P0164001|G|SVAA|Z|POOL|20240105120000"

abbrev sub : String
sub = "SUB|B|X|LOND|20240105|M"

abbrev zhd81 : String
zhd81 = "ZHD|P0181002|G|SVAA|Z|POOL|20240105120000"

abbrev start12 : List String
start12 = "ZHD|P0012001|G|SVAA|Z|POOL|20240105120000" ∷ "ZPD|20240105|||1|SF" ∷ "HDR|1|_A|1" ∷ []

-- a data aggregator's rows of one Settlement Date: another GSP Group, another agent, another Settlement Type
abbrev rows : List String
rows =
    "SP7|_A|HHDA|A|20240105|SF|3"
    ∷ "SP7|_B|HHDA|A|20240105|SF|4"
    ∷ "SP7|_A|NHDA|B|20240105|SF|5"
    ∷ "SP7|_A|HHDA|A|20240105|R1|6"
    ∷ []

unfoldable pub same_date : List Case
same_date =
    -- one date several times under a SUB
    judging "P0164001" (lines (zhd ∷ sub ∷ rows ++ "ZPT|7|1448573273" ∷ [])) (accepted 7)
    -- a whole row again, and a later date several times behind it
    ∷ judging "P0164001"
    (lines (zhd ∷ sub ∷ "SP7|_A|HHDA|A|20240105|SF|3" ∷ "SP7|_A|HHDA|A|20240105|SF|3" ∷ "SP7|_A|HHDA|A|20240106|SF|3" ∷ "SP7|_B|HHDA|A|20240106|SF|3" ∷ "ZPT|7|576159070" ∷ []))
    (accepted 7)
    -- the key starts anew at each SUB, at an earlier date too
    ∷ judging "P0164001"
    (lines (zhd ∷ sub ∷ "SP7|_A|HHDA|A|20240105|SF|3" ∷ "SP7|_B|HHDA|A|20240105|SF|4" ∷ "SUB|B|X|EELC|20240105|M" ∷ "SP7|_A|HHDA|A|20240104|SF|5" ∷ "SP7|_A|HHDA|A|20240105|SF|5" ∷ "ZPT|8|189030431" ∷ []))
    (accepted 8)
    -- to a sheet
    ∷ reading "P0164001" (lines (zhd ∷ sub ∷ rows ++ "ZPT|7|1448573273" ∷ [])) (copies 180 120) (of_sheet.done 7 178)
    (lines ("ZHD\tP0164001\tG\tSVAA\tZ\tPOOL\t20240105120000" ∷ "SUB\tB\tX\tLOND\t20240105\tM" ∷ "SP7\t_A\tHHDA\tA\t20240105\tSF\t3" ∷ "SP7\t_B\tHHDA\tA\t20240105\tSF\t4" ∷ "SP7\t_A\tNHDA\tB\t20240105\tSF\t5" ∷ "SP7\t_A\tHHDA\tA\t20240105\tR1\t6" ∷ [])
    ++ bytes "xx")
    -- a date falls, by a day or a year, behind equal ones: 11 at field 5
    ∷ []
    ++ behind "P0164001" (zhd ∷ sub ∷ rows) 7 (bad "SP7|_A|HHDA|A|20240104|SF|1" 11 5 ∷ bad "SP7|_Z|ZHDA|Z|20230105|ZZ|9" 11 5 ∷ [])
    -- to a date that stands further up, and under a later SUB
    ++ behind "P0164001" (zhd ∷ sub ∷ "SP7|_A|HHDA|A|20240105|SF|3" ∷ "SP7|_A|HHDA|A|20240106|SF|3" ∷ []) 5 (bad "SP7|_A|HHDA|A|20240105|SF|3" 11 5 ∷ [])
    ++ behind "P0164001" (zhd ∷ sub ∷ sub ∷ rows) 8 (bad "SP7|_A|HHDA|A|20231231|SF|1" 11 5 ∷ [])
    -- all other keys stay strict: an equal SUP, BMU, GSP, GS2 is 11 at field 2, and so is a falling one
    ++ behind "P0181002" (zhd81 ∷ "GS7|_A" ∷ "SUP|LOND" ∷ "BMU|2__ALOND000|20240105||T" ∷ []) 5
    (bad "SUP|LOND" 11 2 ∷ bad "SUP|EELC" 11 2 ∷ bad "BMU|2__ALOND000|20240106||T" 11 2 ∷ bad "BMU|2__AEELC000|20240105||T" 11 2 ∷ [])
    ++ behind "P0012001" (start12 ++ "GSP|2|1|1.0000" ∷ []) 5 (bad "GSP|2|1|1.0000" 11 2 ∷ bad "GSP|1|1|1.0000" 11 2 ∷ [])
    ++ behind "P0012001" (start12 ++ "GS2|2|0|1.0000" ∷ []) 5 (bad "GS2|2|0|1.0000" 11 2 ∷ bad "GS2|1|0|1.0000" 11 2 ∷ [])
