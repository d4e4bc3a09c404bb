-- P0164001 (document 01, "The six flows"): right files with every field at its full width and every optional field once filled and
-- once empty; each kind where the grammar has none; each field of each kind one too long, empty, of another form, or with another value
-- where one is fixed. The rows were made by a script from a transcription of the paper's words, apart from the definitions, and stand
-- as text. Assumes nothing.
use Prim.Native.String.{String}
use mathlib.Core.List.{List, [], ◌∷◌, ◌++◌}
use Rattle.judge.specs.File.{accepted}
use Rattle.answers.proofs.Cases.{lines, Case, judging, bad, behind}

abbrev zhd : String
zhd = "ZHD|P0164001|G|SVAA|Z|POOL|20240105235959"

abbrev sub : String
sub = "SUB|B|X|ABCD|20240105|M"

abbrev sp7 : String
sp7 = "SP7|AB|ABCD|A|20240105|AB|9999999999"

unfoldable pub p0164 : List Case
p0164 =
    -- dates go by value, and the key starts anew at each SUB
    judging "P0164001" (lines (zhd ∷ sub ∷ sp7 ∷ "SP7|AA|ABCD|A|20240106|AB|-9999999999" ∷ sub ∷ sp7 ∷ "ZPT|7|1645817894" ∷ [])) (accepted 7)
    -- SUB without SP7
    ∷ judging "P0164001" (lines (zhd ∷ sub ∷ sub ∷ "ZPT|4|172583966" ∷ [])) (accepted 4)
    -- no set
    ∷ judging "P0164001" (lines (zhd ∷ "ZPT|2|172583966" ∷ [])) (accepted 2)
    ∷ []
    -- at the start only ZHD
    ++ behind "P0164001" [] 1 (bad "SUB" 5 1 ∷ bad "SP7" 5 1 ∷ bad "ZPT" 5 1 ∷ [])
    -- behind ZHD only SUB or ZPT
    ++ behind "P0164001" (zhd ∷ []) 2 (bad "ZHD" 5 1 ∷ bad "SP7" 5 1 ∷ [])
    -- behind SUB only SUB, SP7 or ZPT
    ++ behind "P0164001" (zhd ∷ sub ∷ []) 3 (bad "ZHD" 5 1 ∷ [])
    -- behind SP7 only SUB, SP7 or ZPT
    ++ behind "P0164001" (zhd ∷ sub ∷ sp7 ∷ []) 4 (bad "ZHD" 5 1 ∷ [])
    -- behind ZPT nothing
    ++ behind "P0164001" (zhd ∷ "ZPT|2|172583966" ∷ []) 3 (bad "ZHD" 5 1 ∷ bad "SUB" 5 1 ∷ bad "SP7" 5 1 ∷ bad "ZPT" 5 1 ∷ [])
    -- ZHD
    ++ behind "P0164001" [] 1
    (bad "ZHD|P0164001A|G|SVAA|Z|POOL|20240105235959" 9 2
    ∷ bad "ZHD||G|SVAA|Z|POOL|20240105235959" 7 2
    ∷ bad "ZHD|P0164009|G|SVAA|Z|POOL|20240105235959" 10 2
    ∷ bad "ZHD|P0164001|GA|SVAA|Z|POOL|20240105235959" 9 3
    ∷ bad "ZHD|P0164001||SVAA|Z|POOL|20240105235959" 7 3
    ∷ bad "ZHD|P0164001|A|SVAA|Z|POOL|20240105235959" 10 3
    ∷ bad "ZHD|P0164001|G|SVAAA|Z|POOL|20240105235959" 9 4
    ∷ bad "ZHD|P0164001|G||Z|POOL|20240105235959" 7 4
    ∷ bad "ZHD|P0164001|G|SVAA|ZA|POOL|20240105235959" 9 5
    ∷ bad "ZHD|P0164001|G|SVAA||POOL|20240105235959" 7 5
    ∷ bad "ZHD|P0164001|G|SVAA|A|POOL|20240105235959" 10 5
    ∷ bad "ZHD|P0164001|G|SVAA|Z|POOLA|20240105235959" 9 6
    ∷ bad "ZHD|P0164001|G|SVAA|Z||20240105235959" 7 6
    ∷ bad "ZHD|P0164001|G|SVAA|Z|POOL|202401052359590" 8 7
    ∷ bad "ZHD|P0164001|G|SVAA|Z|POOL|" 7 7
    ∷ [])
    -- SUB
    ++ behind "P0164001" (zhd ∷ []) 2
    (bad "SUB|BA|X|ABCD|20240105|M" 9 2
    ∷ bad "SUB||X|ABCD|20240105|M" 7 2
    ∷ bad "SUB|A|X|ABCD|20240105|M" 10 2
    ∷ bad "SUB|B|XA|ABCD|20240105|M" 9 3
    ∷ bad "SUB|B||ABCD|20240105|M" 7 3
    ∷ bad "SUB|B|A|ABCD|20240105|M" 10 3
    ∷ bad "SUB|B|X|ABCDA|20240105|M" 9 4
    ∷ bad "SUB|B|X||20240105|M" 7 4
    ∷ bad "SUB|B|X|ABCD|202401050|M" 8 5
    ∷ bad "SUB|B|X|ABCD||M" 7 5
    ∷ bad "SUB|B|X|ABCD|20240105|MA" 9 6
    ∷ bad "SUB|B|X|ABCD|20240105|" 7 6
    ∷ bad "SUB|B|X|ABCD|20240105|A" 10 6
    ∷ [])
    -- SP7
    ++ behind "P0164001" (zhd ∷ sub ∷ []) 3
    (bad "SP7|ABA|ABCD|A|20240105|AB|9999999999" 9 2
    ∷ bad "SP7||ABCD|A|20240105|AB|9999999999" 7 2
    ∷ bad "SP7|AB|ABCDA|A|20240105|AB|9999999999" 9 3
    ∷ bad "SP7|AB||A|20240105|AB|9999999999" 7 3
    ∷ bad "SP7|AB|ABCD|AA|20240105|AB|9999999999" 9 4
    ∷ bad "SP7|AB|ABCD||20240105|AB|9999999999" 7 4
    ∷ bad "SP7|AB|ABCD|A|202401050|AB|9999999999" 8 5
    ∷ bad "SP7|AB|ABCD|A||AB|9999999999" 7 5
    ∷ bad "SP7|AB|ABCD|A|20240105|ABA|9999999999" 9 6
    ∷ bad "SP7|AB|ABCD|A|20240105||9999999999" 7 6
    ∷ bad "SP7|AB|ABCD|A|20240105|AB|99999999999" 9 7
    ∷ bad "SP7|AB|ABCD|A|20240105|AB|" 7 7
    ∷ bad "SP7|AB|ABCD|A|20240105|AB|A" 8 7
    ∷ [])
    -- ZPT
    ++ behind "P0164001" (zhd ∷ []) 2
    (bad "ZPT|99999999999|0" 9 2
    ∷ bad "ZPT||0" 7 2
    ∷ bad "ZPT|A|0" 8 2
    ∷ bad "ZPT|9999999999|0" 12 2
    ∷ bad "ZPT|2|99999999999" 9 3
    ∷ bad "ZPT|2|" 7 3
    ∷ bad "ZPT|2|A" 8 3
    ∷ bad "ZPT|2|9999999999" 13 3
    ∷ [])
