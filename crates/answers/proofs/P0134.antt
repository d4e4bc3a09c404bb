-- P0134001 (document 01, "The six flows"): right files with every field at its full width and every optional field once filled and
-- once empty; each kind where the grammar has none; each field of each kind one too long, empty, of another form, or with another value
-- where one is fixed. The rows were made by a script from a transcription of the paper's words, apart from the definitions, and stand
-- as text. Assumes nothing.
use Prim.Native.String.{String}
use mathlib.Core.List.{List, [], ◌∷◌, ◌++◌}
use Rattle.judge.specs.File.{accepted}
use Rattle.answers.proofs.Cases.{lines, Case, judging, bad, behind}

abbrev zhd : String
zhd = "ZHD|P0134001|Z|SVAA|Z|POOL|20240105235959"

abbrev sb2 : String
sb2 = "SB2|M|ABCDEFGH|20240105|M"

abbrev cm2 : String
cm2 = "CM2|AB|9999999|9999999|999.9|999.9"

unfoldable pub p0134 : List Case
p0134 =
    -- the optional text filled and empty; SB2 without CM2
    judging "P0134001" (lines (zhd ∷ sb2 ∷ cm2 ∷ "CM2||-9999999|-9999999|-999.9|-999.9" ∷ sb2 ∷ "ZPT|6|1698387233" ∷ [])) (accepted 6)
    -- and otherwise ordered
    ∷ judging "P0134001" (lines (zhd ∷ sb2 ∷ sb2 ∷ cm2 ∷ "ZPT|5|1667380574" ∷ [])) (accepted 5)
    -- no set
    ∷ judging "P0134001" (lines (zhd ∷ "ZPT|2|173304859" ∷ [])) (accepted 2)
    ∷ []
    -- at the start only ZHD
    ++ behind "P0134001" [] 1 (bad "SB2" 5 1 ∷ bad "CM2" 5 1 ∷ bad "ZPT" 5 1 ∷ [])
    -- behind ZHD only SB2 or ZPT
    ++ behind "P0134001" (zhd ∷ []) 2 (bad "ZHD" 5 1 ∷ bad "CM2" 5 1 ∷ [])
    -- behind SB2 only SB2, CM2 or ZPT
    ++ behind "P0134001" (zhd ∷ sb2 ∷ []) 3 (bad "ZHD" 5 1 ∷ [])
    -- behind CM2 only SB2, CM2 or ZPT
    ++ behind "P0134001" (zhd ∷ sb2 ∷ cm2 ∷ []) 4 (bad "ZHD" 5 1 ∷ [])
    -- behind ZPT nothing
    ++ behind "P0134001" (zhd ∷ "ZPT|2|173304859" ∷ []) 3 (bad "ZHD" 5 1 ∷ bad "SB2" 5 1 ∷ bad "CM2" 5 1 ∷ bad "ZPT" 5 1 ∷ [])
    -- ZHD
    ++ behind "P0134001" [] 1
    (bad "ZHD|P0134001A|Z|SVAA|Z|POOL|20240105235959" 9 2
    ∷ bad "ZHD||Z|SVAA|Z|POOL|20240105235959" 7 2
    ∷ bad "ZHD|P0134009|Z|SVAA|Z|POOL|20240105235959" 10 2
    ∷ bad "ZHD|P0134001|ZA|SVAA|Z|POOL|20240105235959" 9 3
    ∷ bad "ZHD|P0134001||SVAA|Z|POOL|20240105235959" 7 3
    ∷ bad "ZHD|P0134001|A|SVAA|Z|POOL|20240105235959" 10 3
    ∷ bad "ZHD|P0134001|Z|SVAAA|Z|POOL|20240105235959" 9 4
    ∷ bad "ZHD|P0134001|Z||Z|POOL|20240105235959" 7 4
    ∷ bad "ZHD|P0134001|Z|SVAA|ZA|POOL|20240105235959" 9 5
    ∷ bad "ZHD|P0134001|Z|SVAA||POOL|20240105235959" 7 5
    ∷ bad "ZHD|P0134001|Z|SVAA|A|POOL|20240105235959" 10 5
    ∷ bad "ZHD|P0134001|Z|SVAA|Z|POOLA|20240105235959" 9 6
    ∷ bad "ZHD|P0134001|Z|SVAA|Z||20240105235959" 7 6
    ∷ bad "ZHD|P0134001|Z|SVAA|Z|POOL|202401052359590" 8 7
    ∷ bad "ZHD|P0134001|Z|SVAA|Z|POOL|" 7 7
    ∷ [])
    -- SB2
    ++ behind "P0134001" (zhd ∷ []) 2
    (bad "SB2|MA|ABCDEFGH|20240105|M" 9 2
    ∷ bad "SB2||ABCDEFGH|20240105|M" 7 2
    ∷ bad "SB2|A|ABCDEFGH|20240105|M" 10 2
    ∷ bad "SB2|M|ABCDEFGHA|20240105|M" 9 3
    ∷ bad "SB2|M||20240105|M" 7 3
    ∷ bad "SB2|M|ABCDEFGH|202401050|M" 8 4
    ∷ bad "SB2|M|ABCDEFGH||M" 7 4
    ∷ bad "SB2|M|ABCDEFGH|20240105|MA" 9 5
    ∷ bad "SB2|M|ABCDEFGH|20240105|" 7 5
    ∷ bad "SB2|M|ABCDEFGH|20240105|A" 10 5
    ∷ [])
    -- CM2
    ++ behind "P0134001" (zhd ∷ sb2 ∷ []) 3
    (bad "CM2|ABA|9999999|9999999|999.9|999.9" 9 2
    ∷ bad "CM2|AB|99999999|9999999|999.9|999.9" 9 3
    ∷ bad "CM2|AB||9999999|999.9|999.9" 7 3
    ∷ bad "CM2|AB|A|9999999|999.9|999.9" 8 3
    ∷ bad "CM2|AB|9999999|99999999|999.9|999.9" 9 4
    ∷ bad "CM2|AB|9999999||999.9|999.9" 7 4
    ∷ bad "CM2|AB|9999999|A|999.9|999.9" 8 4
    ∷ bad "CM2|AB|9999999|9999999|9999.9|999.9" 9 5
    ∷ bad "CM2|AB|9999999|9999999||999.9" 7 5
    ∷ bad "CM2|AB|9999999|9999999|A|999.9" 8 5
    ∷ bad "CM2|AB|9999999|9999999|999.9|9999.9" 9 6
    ∷ bad "CM2|AB|9999999|9999999|999.9|" 7 6
    ∷ bad "CM2|AB|9999999|9999999|999.9|A" 8 6
    ∷ [])
    -- ZPT
    ++ behind "P0134001" (zhd ∷ []) 2
    (bad "ZPT|99999999999|0" 9 2
    ∷ bad "ZPT||0" 7 2
    ∷ bad "ZPT|A|0" 8 2
    ∷ bad "ZPT|9999999999|0" 12 2
    ∷ bad "ZPT|2|99999999999" 9 3
    ∷ bad "ZPT|2|" 7 3
    ∷ bad "ZPT|2|A" 8 3
    ∷ bad "ZPT|2|9999999999" 13 3
    ∷ [])
