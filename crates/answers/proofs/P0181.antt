-- P0181002 (document 01, "The six flows"): right files with every field at its full width and every optional field once filled and
-- once empty; each kind where the grammar has none; each field of each kind one too long, empty, of another form, or with another value
-- where one is fixed. The rows were made by a script from a transcription of the paper's words, apart from the definitions, and stand
-- as text. Assumes nothing.
use Prim.Native.String.{String}
use mathlib.Core.List.{List, [], ◌∷◌, ◌++◌}
use Rattle.judge.specs.File.{accepted}
use Rattle.answers.proofs.Cases.{lines, Case, judging, bad, behind}

abbrev zhd : String
zhd = "ZHD|P0181002|A|SVAA|B|POOL|20240105235959"

abbrev gs7 : String
gs7 = "GS7|AB"

abbrev sup : String
sup = "SUP|ABCD"

abbrev bmu : String
bmu = "BMU|ABCDEFGHIJK|20240101|20241231|T"

unfoldable pub p0181 : List Case
p0181 =
    -- the optional date filled and empty; keys start anew at each SUP and at each GS7, and GS7 has none
    judging "P0181002" (lines (zhd ∷ gs7 ∷ gs7 ∷ sup ∷ bmu ∷ "BMU|ABCDEFGHIJL|20240101||F" ∷ "SUP|ABCE" ∷ bmu ∷ gs7 ∷ sup ∷ bmu ∷ "ZPT|12|105537367" ∷ [])) (accepted 12)
    -- a set of GS7 alone
    ∷ judging "P0181002" (lines (zhd ∷ "GS7|A" ∷ "ZPT|3|287071087" ∷ [])) (accepted 3)
    ∷ []
    -- at the start only ZHD
    ++ behind "P0181002" [] 1 (bad "GS7" 5 1 ∷ bad "SUP" 5 1 ∷ bad "BMU" 5 1 ∷ bad "ZPT" 5 1 ∷ [])
    -- behind ZHD only GS7
    ++ behind "P0181002" (zhd ∷ []) 2 (bad "ZHD" 5 1 ∷ bad "SUP" 5 1 ∷ bad "BMU" 5 1 ∷ bad "ZPT" 5 1 ∷ [])
    -- behind GS7 only GS7, SUP or ZPT
    ++ behind "P0181002" (zhd ∷ gs7 ∷ []) 3 (bad "ZHD" 5 1 ∷ bad "BMU" 5 1 ∷ [])
    -- behind SUP only BMU
    ++ behind "P0181002" (zhd ∷ gs7 ∷ sup ∷ []) 4 (bad "ZHD" 5 1 ∷ bad "GS7" 5 1 ∷ bad "SUP" 5 1 ∷ bad "ZPT" 5 1 ∷ [])
    -- behind BMU only BMU, SUP, GS7 or ZPT
    ++ behind "P0181002" (zhd ∷ gs7 ∷ sup ∷ bmu ∷ []) 5 (bad "ZHD" 5 1 ∷ [])
    -- behind ZPT nothing
    ++ behind "P0181002" (zhd ∷ gs7 ∷ "ZPT|3|291396463" ∷ []) 4 (bad "ZHD" 5 1 ∷ bad "GS7" 5 1 ∷ bad "SUP" 5 1 ∷ bad "BMU" 5 1 ∷ bad "ZPT" 5 1 ∷ [])
    -- ZHD
    ++ behind "P0181002" [] 1
    (bad "ZHD|P0181002A|A|SVAA|B|POOL|20240105235959" 9 2
    ∷ bad "ZHD||A|SVAA|B|POOL|20240105235959" 7 2
    ∷ bad "ZHD|P0181009|A|SVAA|B|POOL|20240105235959" 10 2
    ∷ bad "ZHD|P0181002|AA|SVAA|B|POOL|20240105235959" 9 3
    ∷ bad "ZHD|P0181002||SVAA|B|POOL|20240105235959" 7 3
    ∷ bad "ZHD|P0181002|A|SVAAA|B|POOL|20240105235959" 9 4
    ∷ bad "ZHD|P0181002|A||B|POOL|20240105235959" 7 4
    ∷ bad "ZHD|P0181002|A|SVAA|BA|POOL|20240105235959" 9 5
    ∷ bad "ZHD|P0181002|A|SVAA||POOL|20240105235959" 7 5
    ∷ bad "ZHD|P0181002|A|SVAA|B|POOLA|20240105235959" 9 6
    ∷ bad "ZHD|P0181002|A|SVAA|B||20240105235959" 7 6
    ∷ bad "ZHD|P0181002|A|SVAA|B|POOL|202401052359590" 8 7
    ∷ bad "ZHD|P0181002|A|SVAA|B|POOL|" 7 7
    ∷ [])
    -- GS7
    ++ behind "P0181002" (zhd ∷ []) 2
    (bad "GS7|ABA" 9 2
    ∷ bad "GS7|" 7 2
    ∷ [])
    -- SUP
    ++ behind "P0181002" (zhd ∷ gs7 ∷ []) 3
    (bad "SUP|ABCDA" 9 2
    ∷ bad "SUP|" 7 2
    ∷ [])
    -- BMU
    ++ behind "P0181002" (zhd ∷ gs7 ∷ sup ∷ []) 4
    (bad "BMU|ABCDEFGHIJKA|20240101|20241231|T" 9 2
    ∷ bad "BMU||20240101|20241231|T" 7 2
    ∷ bad "BMU|ABCDEFGHIJK|202401010|20241231|T" 8 3
    ∷ bad "BMU|ABCDEFGHIJK||20241231|T" 7 3
    ∷ bad "BMU|ABCDEFGHIJK|20240101|202412310|T" 8 4
    ∷ bad "BMU|ABCDEFGHIJK|20240101|20241231|TT" 8 5
    ∷ bad "BMU|ABCDEFGHIJK|20240101|20241231|" 7 5
    ∷ [])
    -- ZPT
    ++ behind "P0181002" (zhd ∷ gs7 ∷ []) 3
    (bad "ZPT|99999999999|0" 9 2
    ∷ bad "ZPT||0" 7 2
    ∷ bad "ZPT|A|0" 8 2
    ∷ bad "ZPT|9999999999|0" 12 2
    ∷ bad "ZPT|3|99999999999" 9 3
    ∷ bad "ZPT|3|" 7 3
    ∷ bad "ZPT|3|A" 8 3
    ∷ bad "ZPT|3|9999999999" 13 3
    ∷ [])
