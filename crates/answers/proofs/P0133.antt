-- P0133001 in edition 533 (document 01, "The six flows"): right files with every field at its full width and every optional field once filled and
-- once empty; each kind where the grammar has none; each field of each kind one too long, empty, of another form, or with another value
-- where one is fixed. The rows were made by a script from a transcription of the paper's words, apart from the definitions, and stand
-- as text. Assumes nothing.
use Prim.Native.String.{String}
use mathlib.Core.List.{List, [], ◌∷◌, ◌++◌}
use Rattle.judge.specs.File.{accepted}
use Rattle.answers.proofs.Cases.{lines, Case, judging, bad, behind}

abbrev zhd : String
zhd = "ZHD|P0133001|Z|SVAA|Z|POOL|20240105235959"

abbrev sb1 : String
sb1 = "SB1|H|M|ABCDEFGH|20240105|M"

abbrev cm1 : String
cm1 = "CM1|AB|9999999|999.9|9999999"

unfoldable pub p0133 : List Case
p0133 =
    -- the optional text filled and empty; SB1 without CM1
    judging "P0133001 533" (lines (zhd ∷ sb1 ∷ cm1 ∷ "CM1||-9999999|-999.9|-9999999" ∷ sb1 ∷ "ZPT|6|157972507" ∷ [])) (accepted 6)
    -- and otherwise ordered
    ∷ judging "P0133001 533" (lines (zhd ∷ sb1 ∷ sb1 ∷ cm1 ∷ "ZPT|5|1935821415" ∷ [])) (accepted 5)
    -- no set
    ∷ judging "P0133001 533" (lines (zhd ∷ "ZPT|2|223636507" ∷ [])) (accepted 2)
    ∷ []
    -- at the start only ZHD
    ++ behind "P0133001 533" [] 1 (bad "SB1" 5 1 ∷ bad "CM1" 5 1 ∷ bad "ZPT" 5 1 ∷ [])
    -- behind ZHD only SB1 or ZPT
    ++ behind "P0133001 533" (zhd ∷ []) 2 (bad "ZHD" 5 1 ∷ bad "CM1" 5 1 ∷ [])
    -- behind SB1 only SB1, CM1 or ZPT
    ++ behind "P0133001 533" (zhd ∷ sb1 ∷ []) 3 (bad "ZHD" 5 1 ∷ [])
    -- behind CM1 only SB1, CM1 or ZPT
    ++ behind "P0133001 533" (zhd ∷ sb1 ∷ cm1 ∷ []) 4 (bad "ZHD" 5 1 ∷ [])
    -- behind ZPT nothing
    ++ behind "P0133001 533" (zhd ∷ "ZPT|2|223636507" ∷ []) 3 (bad "ZHD" 5 1 ∷ bad "SB1" 5 1 ∷ bad "CM1" 5 1 ∷ bad "ZPT" 5 1 ∷ [])
    -- ZHD
    ++ behind "P0133001 533" [] 1
    (bad "ZHD|P0133001A|Z|SVAA|Z|POOL|20240105235959" 9 2
    ∷ bad "ZHD||Z|SVAA|Z|POOL|20240105235959" 7 2
    ∷ bad "ZHD|P0133009|Z|SVAA|Z|POOL|20240105235959" 10 2
    ∷ bad "ZHD|P0133001|ZA|SVAA|Z|POOL|20240105235959" 9 3
    ∷ bad "ZHD|P0133001||SVAA|Z|POOL|20240105235959" 7 3
    ∷ bad "ZHD|P0133001|A|SVAA|Z|POOL|20240105235959" 10 3
    ∷ bad "ZHD|P0133001|Z|SVAAA|Z|POOL|20240105235959" 9 4
    ∷ bad "ZHD|P0133001|Z||Z|POOL|20240105235959" 7 4
    ∷ bad "ZHD|P0133001|Z|SVAA|ZA|POOL|20240105235959" 9 5
    ∷ bad "ZHD|P0133001|Z|SVAA||POOL|20240105235959" 7 5
    ∷ bad "ZHD|P0133001|Z|SVAA|A|POOL|20240105235959" 10 5
    ∷ bad "ZHD|P0133001|Z|SVAA|Z|POOLA|20240105235959" 9 6
    ∷ bad "ZHD|P0133001|Z|SVAA|Z||20240105235959" 7 6
    ∷ bad "ZHD|P0133001|Z|SVAA|Z|POOL|202401052359590" 8 7
    ∷ bad "ZHD|P0133001|Z|SVAA|Z|POOL|" 7 7
    ∷ [])
    -- SB1
    ++ behind "P0133001 533" (zhd ∷ []) 2
    (bad "SB1|HA|M|ABCDEFGH|20240105|M" 9 2
    ∷ bad "SB1||M|ABCDEFGH|20240105|M" 7 2
    ∷ bad "SB1|A|M|ABCDEFGH|20240105|M" 10 2
    ∷ bad "SB1|H|MA|ABCDEFGH|20240105|M" 9 3
    ∷ bad "SB1|H||ABCDEFGH|20240105|M" 7 3
    ∷ bad "SB1|H|A|ABCDEFGH|20240105|M" 10 3
    ∷ bad "SB1|H|M|ABCDEFGHA|20240105|M" 9 4
    ∷ bad "SB1|H|M||20240105|M" 7 4
    ∷ bad "SB1|H|M|ABCDEFGH|202401050|M" 8 5
    ∷ bad "SB1|H|M|ABCDEFGH||M" 7 5
    ∷ bad "SB1|H|M|ABCDEFGH|20240105|MA" 9 6
    ∷ bad "SB1|H|M|ABCDEFGH|20240105|" 7 6
    ∷ bad "SB1|H|M|ABCDEFGH|20240105|A" 10 6
    ∷ [])
    -- CM1
    ++ behind "P0133001 533" (zhd ∷ sb1 ∷ []) 3
    (bad "CM1|ABA|9999999|999.9|9999999" 9 2
    ∷ bad "CM1|AB|99999999|999.9|9999999" 9 3
    ∷ bad "CM1|AB||999.9|9999999" 7 3
    ∷ bad "CM1|AB|A|999.9|9999999" 8 3
    ∷ bad "CM1|AB|9999999|9999.9|9999999" 9 4
    ∷ bad "CM1|AB|9999999||9999999" 7 4
    ∷ bad "CM1|AB|9999999|A|9999999" 8 4
    ∷ bad "CM1|AB|9999999|999.9|99999999" 9 5
    ∷ bad "CM1|AB|9999999|999.9|" 7 5
    ∷ bad "CM1|AB|9999999|999.9|A" 8 5
    ∷ [])
    -- ZPT
    ++ behind "P0133001 533" (zhd ∷ []) 2
    (bad "ZPT|99999999999|0" 9 2
    ∷ bad "ZPT||0" 7 2
    ∷ bad "ZPT|A|0" 8 2
    ∷ bad "ZPT|9999999999|0" 12 2
    ∷ bad "ZPT|2|99999999999" 9 3
    ∷ bad "ZPT|2|" 7 3
    ∷ bad "ZPT|2|A" 8 3
    ∷ bad "ZPT|2|9999999999" 13 3
    ∷ [])
