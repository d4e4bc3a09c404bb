-- P0012001 (document 01, "The six flows"): right files with every field at its full width and every optional field once filled and
-- once empty; each kind where the grammar has none; each field of each kind one too long, empty, of another form, or with another value
-- where one is fixed. The rows were made by a script from a transcription of the paper's words, apart from the definitions, and stand
-- as text. Assumes nothing.
use Prim.Native.String.{String}
use mathlib.Core.List.{List, [], ◌∷◌, ◌++◌}
use Rattle.judge.specs.File.{accepted}
use Rattle.answers.proofs.Cases.{lines, Case, judging, bad, behind}

abbrev zhd : String
zhd = "ZHD|P0012001|A|SVAA|B|POOL|20240105235959"

abbrev zpd : String
zpd = "ZPD|20240105|AB|CD|9999999|EF"

abbrev hdr : String
hdr = "HDR|9999999999|GH|9999999999999"

abbrev gsp : String
gsp = "GSP|50|9999999999999|9999999999.9999"

abbrev gs2 : String
gs2 = "GS2|50|0|9999999999.9999"

unfoldable pub p0012 : List Case
p0012 =
    -- the optional fields filled; periods by value
    judging "P0012001" (lines (zhd ∷ zpd ∷ hdr ∷ "GSP|1|-9999999999999|-9999999999.9999" ∷ "GSP|9|0|0.0000" ∷ "GSP|10|1|-0.0001" ∷ gsp ∷ "ZPT|8|1530155818" ∷ [])) (accepted 8)
    -- the optional fields empty; GS2
    ∷ judging "P0012001" (lines (zhd ∷ "ZPD|20240105|||-9999999|EF" ∷ "HDR|-9999999999|GH|-9999999999999" ∷ "GS2|1|0|-9999999999.9999" ∷ gs2 ∷ "ZPT|6|40121684" ∷ [])) (accepted 6)
    -- one of them filled; no GSP and no GS2
    ∷ judging "P0012001" (lines (zhd ∷ "ZPD|20240105|AB||0|EF" ∷ hdr ∷ "ZPT|4|173488991" ∷ [])) (accepted 4)
    ∷ []
    -- at the start only ZHD
    ++ behind "P0012001" [] 1 (bad "ZPD" 5 1 ∷ bad "HDR" 5 1 ∷ bad "GSP" 5 1 ∷ bad "GS2" 5 1 ∷ bad "ZPT" 5 1 ∷ [])
    -- behind ZHD only ZPD
    ++ behind "P0012001" (zhd ∷ []) 2 (bad "ZHD" 5 1 ∷ bad "HDR" 5 1 ∷ bad "GSP" 5 1 ∷ bad "GS2" 5 1 ∷ bad "ZPT" 5 1 ∷ [])
    -- behind ZPD only HDR
    ++ behind "P0012001" (zhd ∷ zpd ∷ []) 3 (bad "ZHD" 5 1 ∷ bad "ZPD" 5 1 ∷ bad "GSP" 5 1 ∷ bad "GS2" 5 1 ∷ bad "ZPT" 5 1 ∷ [])
    -- behind HDR only GSP, GS2 or ZPT
    ++ behind "P0012001" (zhd ∷ zpd ∷ hdr ∷ []) 4 (bad "ZHD" 5 1 ∷ bad "ZPD" 5 1 ∷ bad "HDR" 5 1 ∷ [])
    -- behind GSP only GSP or ZPT
    ++ behind "P0012001" (zhd ∷ zpd ∷ hdr ∷ gsp ∷ []) 5 (bad "ZHD" 5 1 ∷ bad "ZPD" 5 1 ∷ bad "HDR" 5 1 ∷ bad "GS2" 5 1 ∷ [])
    -- behind GS2 only GS2 or ZPT
    ++ behind "P0012001" (zhd ∷ zpd ∷ hdr ∷ gs2 ∷ []) 5 (bad "ZHD" 5 1 ∷ bad "ZPD" 5 1 ∷ bad "HDR" 5 1 ∷ bad "GSP" 5 1 ∷ [])
    -- behind ZPT nothing
    ++ behind "P0012001" (zhd ∷ zpd ∷ hdr ∷ "ZPT|4|891518559" ∷ []) 5 (bad "ZHD" 5 1 ∷ bad "ZPD" 5 1 ∷ bad "HDR" 5 1 ∷ bad "GSP" 5 1 ∷ bad "GS2" 5 1 ∷ bad "ZPT" 5 1 ∷ [])
    -- ZHD
    ++ behind "P0012001" [] 1
    (bad "ZHD|P0012001A|A|SVAA|B|POOL|20240105235959" 9 2
    ∷ bad "ZHD||A|SVAA|B|POOL|20240105235959" 7 2
    ∷ bad "ZHD|P0012009|A|SVAA|B|POOL|20240105235959" 10 2
    ∷ bad "ZHD|P0012001|AA|SVAA|B|POOL|20240105235959" 9 3
    ∷ bad "ZHD|P0012001||SVAA|B|POOL|20240105235959" 7 3
    ∷ bad "ZHD|P0012001|A|SVAAA|B|POOL|20240105235959" 9 4
    ∷ bad "ZHD|P0012001|A||B|POOL|20240105235959" 7 4
    ∷ bad "ZHD|P0012001|A|SVAA|BA|POOL|20240105235959" 9 5
    ∷ bad "ZHD|P0012001|A|SVAA||POOL|20240105235959" 7 5
    ∷ bad "ZHD|P0012001|A|SVAA|B|POOLA|20240105235959" 9 6
    ∷ bad "ZHD|P0012001|A|SVAA|B||20240105235959" 7 6
    ∷ bad "ZHD|P0012001|A|SVAA|B|POOL|202401052359590" 8 7
    ∷ bad "ZHD|P0012001|A|SVAA|B|POOL|" 7 7
    ∷ [])
    -- ZPD
    ++ behind "P0012001" (zhd ∷ []) 2
    (bad "ZPD|202401050|AB|CD|9999999|EF" 8 2
    ∷ bad "ZPD||AB|CD|9999999|EF" 7 2
    ∷ bad "ZPD|20240105|ABA|CD|9999999|EF" 9 3
    ∷ bad "ZPD|20240105|AB|CDA|9999999|EF" 9 4
    ∷ bad "ZPD|20240105|AB|CD|99999999|EF" 9 5
    ∷ bad "ZPD|20240105|AB|CD||EF" 7 5
    ∷ bad "ZPD|20240105|AB|CD|A|EF" 8 5
    ∷ bad "ZPD|20240105|AB|CD|9999999|EFA" 9 6
    ∷ bad "ZPD|20240105|AB|CD|9999999|" 7 6
    ∷ [])
    -- HDR
    ++ behind "P0012001" (zhd ∷ zpd ∷ []) 3
    (bad "HDR|99999999999|GH|9999999999999" 9 2
    ∷ bad "HDR||GH|9999999999999" 7 2
    ∷ bad "HDR|A|GH|9999999999999" 8 2
    ∷ bad "HDR|9999999999|GHA|9999999999999" 9 3
    ∷ bad "HDR|9999999999||9999999999999" 7 3
    ∷ bad "HDR|9999999999|GH|99999999999999" 9 4
    ∷ bad "HDR|9999999999|GH|" 7 4
    ∷ bad "HDR|9999999999|GH|A" 8 4
    ∷ [])
    -- GSP
    ++ behind "P0012001" (zhd ∷ zpd ∷ hdr ∷ []) 4
    (bad "GSP|100|9999999999999|9999999999.9999" 9 2
    ∷ bad "GSP||9999999999999|9999999999.9999" 7 2
    ∷ bad "GSP|A|9999999999999|9999999999.9999" 8 2
    ∷ bad "GSP|51|9999999999999|9999999999.9999" 9 2
    ∷ bad "GSP|50|99999999999999|9999999999.9999" 9 3
    ∷ bad "GSP|50||9999999999.9999" 7 3
    ∷ bad "GSP|50|A|9999999999.9999" 8 3
    ∷ bad "GSP|50|9999999999999|99999999999.9999" 9 4
    ∷ bad "GSP|50|9999999999999|" 7 4
    ∷ bad "GSP|50|9999999999999|A" 8 4
    ∷ [])
    -- GS2
    ++ behind "P0012001" (zhd ∷ zpd ∷ hdr ∷ []) 4
    (bad "GS2|100|0|9999999999.9999" 9 2
    ∷ bad "GS2||0|9999999999.9999" 7 2
    ∷ bad "GS2|A|0|9999999999.9999" 8 2
    ∷ bad "GS2|51|0|9999999999.9999" 9 2
    ∷ bad "GS2|50|99|9999999999.9999" 9 3
    ∷ bad "GS2|50||9999999999.9999" 7 3
    ∷ bad "GS2|50|1|9999999999.9999" 10 3
    ∷ bad "GS2|50|A|9999999999.9999" 8 3
    ∷ bad "GS2|50|0|99999999999.9999" 9 4
    ∷ bad "GS2|50|0|" 7 4
    ∷ bad "GS2|50|0|A" 8 4
    ∷ [])
    -- ZPT
    ++ behind "P0012001" (zhd ∷ zpd ∷ hdr ∷ []) 4
    (bad "ZPT|99999999999|0" 9 2
    ∷ bad "ZPT||0" 7 2
    ∷ bad "ZPT|A|0" 8 2
    ∷ bad "ZPT|9999999999|0" 12 2
    ∷ bad "ZPT|4|99999999999" 9 3
    ∷ bad "ZPT|4|" 7 3
    ∷ bad "ZPT|4|A" 8 3
    ∷ bad "ZPT|4|9999999999" 13 3
    ∷ [])
