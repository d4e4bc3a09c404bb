-- P0138001 (document 01, "The six flows"): right files with every field at its full width and every optional field once filled and
-- once empty; each kind where the grammar has none; each field of each kind one too long, empty, of another form, or with another value
-- where one is fixed. The rows were made by a script from a transcription of the paper's words, apart from the definitions, and stand
-- as text. Assumes nothing.
use Prim.Native.String.{String}
use mathlib.Core.List.{List, [], ◌∷◌, ◌++◌}
use Rattle.judge.specs.File.{accepted}
use Rattle.answers.proofs.Cases.{lines, Case, judging, bad, behind}

abbrev zhd : String
zhd = "ZHD|P0138001|G|SVAA|Z|POOL|20240105235959"

abbrev sub : String
sub = "SUB|B|||20240105|M"

abbrev ta2 : String
ta2 = "TA2|9.9999"

unfoldable pub p0138 : List Case
p0138 =
    -- the null fields are always empty
    judging "P0138001" (lines (zhd ∷ sub ∷ ta2 ∷ "ZPT|4|1031428959" ∷ [])) (accepted 4)
    -- a sign is not counted
    ∷ judging "P0138001" (lines (zhd ∷ sub ∷ "TA2|-9.9999" ∷ "ZPT|4|695039327" ∷ [])) (accepted 4)
    ∷ []
    -- at the start only ZHD
    ++ behind "P0138001" [] 1 (bad "SUB" 5 1 ∷ bad "TA2" 5 1 ∷ bad "ZPT" 5 1 ∷ [])
    -- behind ZHD only SUB
    ++ behind "P0138001" (zhd ∷ []) 2 (bad "ZHD" 5 1 ∷ bad "TA2" 5 1 ∷ bad "ZPT" 5 1 ∷ [])
    -- behind SUB only TA2
    ++ behind "P0138001" (zhd ∷ sub ∷ []) 3 (bad "ZHD" 5 1 ∷ bad "SUB" 5 1 ∷ bad "ZPT" 5 1 ∷ [])
    -- behind TA2 only ZPT
    ++ behind "P0138001" (zhd ∷ sub ∷ ta2 ∷ []) 4 (bad "ZHD" 5 1 ∷ bad "SUB" 5 1 ∷ bad "TA2" 5 1 ∷ [])
    -- behind ZPT nothing
    ++ behind "P0138001" (zhd ∷ sub ∷ ta2 ∷ "ZPT|4|1031428959" ∷ []) 5 (bad "ZHD" 5 1 ∷ bad "SUB" 5 1 ∷ bad "TA2" 5 1 ∷ bad "ZPT" 5 1 ∷ [])
    -- ZHD
    ++ behind "P0138001" [] 1
    (bad "ZHD|P0138001A|G|SVAA|Z|POOL|20240105235959" 9 2
    ∷ bad "ZHD||G|SVAA|Z|POOL|20240105235959" 7 2
    ∷ bad "ZHD|P0138009|G|SVAA|Z|POOL|20240105235959" 10 2
    ∷ bad "ZHD|P0138001|GA|SVAA|Z|POOL|20240105235959" 9 3
    ∷ bad "ZHD|P0138001||SVAA|Z|POOL|20240105235959" 7 3
    ∷ bad "ZHD|P0138001|A|SVAA|Z|POOL|20240105235959" 10 3
    ∷ bad "ZHD|P0138001|G|SVAAA|Z|POOL|20240105235959" 9 4
    ∷ bad "ZHD|P0138001|G||Z|POOL|20240105235959" 7 4
    ∷ bad "ZHD|P0138001|G|SVAA|ZA|POOL|20240105235959" 9 5
    ∷ bad "ZHD|P0138001|G|SVAA||POOL|20240105235959" 7 5
    ∷ bad "ZHD|P0138001|G|SVAA|A|POOL|20240105235959" 10 5
    ∷ bad "ZHD|P0138001|G|SVAA|Z|POOLA|20240105235959" 9 6
    ∷ bad "ZHD|P0138001|G|SVAA|Z||20240105235959" 7 6
    ∷ bad "ZHD|P0138001|G|SVAA|Z|POOL|202401052359590" 8 7
    ∷ bad "ZHD|P0138001|G|SVAA|Z|POOL|" 7 7
    ∷ [])
    -- SUB
    ++ behind "P0138001" (zhd ∷ []) 2
    (bad "SUB|BA|||20240105|M" 9 2
    ∷ bad "SUB||||20240105|M" 7 2
    ∷ bad "SUB|A|||20240105|M" 10 2
    ∷ bad "SUB|B|A||20240105|M" 10 3
    ∷ bad "SUB|B||A|20240105|M" 10 4
    ∷ bad "SUB|B|||202401050|M" 8 5
    ∷ bad "SUB|B||||M" 7 5
    ∷ bad "SUB|B|||20240105|MA" 9 6
    ∷ bad "SUB|B|||20240105|" 7 6
    ∷ bad "SUB|B|||20240105|A" 10 6
    ∷ [])
    -- TA2
    ++ behind "P0138001" (zhd ∷ sub ∷ []) 3
    (bad "TA2|99.9999" 9 2
    ∷ bad "TA2|" 7 2
    ∷ bad "TA2|A" 8 2
    ∷ [])
    -- ZPT
    ++ behind "P0138001" (zhd ∷ sub ∷ ta2 ∷ []) 4
    (bad "ZPT|99999999999|0" 9 2
    ∷ bad "ZPT||0" 7 2
    ∷ bad "ZPT|A|0" 8 2
    ∷ bad "ZPT|9999999999|0" 12 2
    ∷ bad "ZPT|4|99999999999" 9 3
    ∷ bad "ZPT|4|" 7 3
    ∷ bad "ZPT|4|A" 8 3
    ∷ bad "ZPT|4|9999999999" 13 3
    ∷ [])
