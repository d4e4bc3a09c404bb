-- Document 02's C-17: is a period in a P0012 file, read up to the first GSP or GS2 whose period is the asked one or above. The texts are
-- written out from the papers, and their footers are summed apart from the definitions. Assumes nothing.
use Prim.Native.Nat.{ℕ}
use Prim.Native.String.{String}
use mathlib.Core.Bool.{true, false}
use mathlib.Core.List.{List, [], ◌∷◌, ◌++◌, map}
use Rattle.text.specs.Characters.{bytes}
use Rattle.period.specs.Answer.{Reply, refused, truth}
use Rattle.answers.proofs.Cases.{lines, unended, copies, Case, finding}

-- the records before the first GSP, and some of these
abbrev front : List String
front = "ZHD|P0012001|G|SVAA|Z|POOL|20240105120000" ∷ "ZPD|20240105|||1|SF" ∷ "HDR|1|_A|1" ∷ []

abbrev gsp3 : String
gsp3 = "GSP|3|100|1.0000"

abbrev gsp17 : String
gsp17 = "GSP|17|200|2.5000"

-- periods 3, 17, 18 and 40, seven records, with a footer of its own
abbrev seven : List String
seven = front ++ gsp3 ∷ gsp17 ∷ "GSP|18|-5|-0.2500" ∷ "GSP|40|0|0.0000" ∷ []

abbrev four : List ℕ
four = lines (seven ++ "ZPT|8|394203997" ∷ [])

-- the same periods asked of one file
abbrev each : List ℕ → Reply → List ℕ → List Case
each f r ps = map (λ (p : ℕ). finding "P0012001" f p r) ps

-- one file for each of some words
abbrev for_each : List String → List ℕ → ℕ → Reply → List Case
for_each words f p r = map (λ (w : String). finding w f p r) words

unfoldable pub stop_early : List Case
stop_early =
    -- each period of the file, and those in its gaps, before and behind
    each four (truth true) (3 ∷ 17 ∷ 18 ∷ 40 ∷ [])
    ++ each four (truth false) (1 ∷ 2 ∷ 4 ∷ 16 ∷ 19 ∷ 39 ∷ 41 ∷ 50 ∷ [])
    ++ for_each ("P0012001 533" ∷ "P0012001 711" ∷ []) four 17 (truth true)
    -- 18 for a period outside 1 to 50
    ++ each four (refused 18 0 0 0) (0 ∷ 51 ∷ 273 ∷ 65553 ∷ [])
    -- 22 for another flow, before 18 and whatever its file
    ++ for_each ("P0181002" ∷ "P0133001" ∷ "P0133001 711" ∷ "P0134001" ∷ "P0138001" ∷ "P0138001 533" ∷ "P0164001" ∷ []) four 17 (refused 22 0 0 0)
    ++ finding "P0138001" (lines ("ZHD|P0138001|G|SVAA|Z|POOL|20240105120000" ∷ "SUB|B|||20231231|M" ∷ "TA2|1.0250" ∷ "ZPT|4|812996689" ∷ [])) 17 (refused 22 0 0 0)
    ∷ finding "P0164001" four 0 (refused 22 0 0 0)
    ∷ finding "P0164001" four 51 (refused 22 0 0 0)
    ∷ finding "P0164001" [] 17 (refused 22 0 0 0)
    -- 1 and 21 before both
    ∷ finding "P0012002" four 51 (refused 1 0 0 0)
    ∷ finding "P001200" four 17 (refused 1 0 0 0)
    ∷ finding "" four 17 (refused 1 0 0 0)
    ∷ finding "P0012001 712" four 51 (refused 21 0 0 0)
    ∷ finding "P0138001 712" four 17 (refused 21 0 0 0)
    -- a footer that is wrong matters only where it is read: its count, its sum, its absence
    ∷ finding "P0012001" (lines (seven ++ "ZPT|9|394203997" ∷ [])) 40 (truth true)
    ∷ finding "P0012001" (lines (seven ++ "ZPT|9|394203997" ∷ [])) 41 (refused 12 8 2 146)
    ∷ finding "P0012001" (lines (seven ++ "ZPT|8|394203998" ∷ [])) 39 (truth false)
    ∷ finding "P0012001" (lines (seven ++ "ZPT|8|394203998" ∷ [])) 50 (refused 13 8 3 148)
    ∷ finding "P0012001" (lines seven) 40 (truth true)
    ∷ finding "P0012001" (lines seven) 41 (refused 14 8 0 142)
    ∷ finding "P0012001" (unended seven) 40 (truth true)
    ∷ finding "P0012001" (unended seven) 41 (refused 14 8 0 141)
    -- and so the last line feed
    ∷ finding "P0012001" (unended (seven ++ "ZPT|8|394203997" ∷ [])) 40 (truth true)
    ∷ finding "P0012001" (unended (seven ++ "ZPT|8|394203997" ∷ [])) 41 (refused 15 8 0 142)
    -- cut right behind the stop, and within it
    ∷ finding "P0012001" (unended (front ++ gsp3 ∷ gsp17 ∷ [])) 17 (truth true)
    ∷ finding "P0012001" (unended (front ++ gsp3 ∷ gsp17 ∷ [])) 10 (truth false)
    ∷ finding "P0012001" (unended (front ++ gsp3 ∷ gsp17 ∷ [])) 18 (refused 14 6 0 107)
    ∷ finding "P0012001" (unended (front ++ gsp3 ∷ "GSP|17|20" ∷ [])) 17 (refused 6 5 0 90)
    ∷ finding "P0012001" (unended (front ++ gsp3 ∷ "GSP|1" ∷ [])) 17 (refused 6 5 0 90)
    ∷ finding "P0012001" (unended (front ++ gsp3 ∷ "GS" ∷ [])) 17 (refused 4 5 1 90)
    ∷ finding "P0012001" (unended (front ++ gsp3 ∷ "GS" ∷ [])) 3 (truth true)
    -- no record at all, and no GSP
    ∷ finding "P0012001" [] 17 (refused 14 1 0 0)
    ∷ finding "P0012001" (lines (front ++ "ZPT|4|1497044334" ∷ [])) 17 (truth false)
    -- a record before the stop is refused, and the stop itself, whether its period is the asked one or above
    ∷ finding "P0012001" (lines ("ZHD|P0012001|G|SVAA|Z|POOL|20240105120000" ∷ "ZPD|20240105|||1|SF" ∷ "HDR|x|_A|1" ∷ gsp3 ∷ gsp17 ∷ [])) 3 (refused 8 3 2 66)
    ∷ finding "P0012001" (lines (front ++ gsp3 ∷ "GSP|17|200|2.50" ∷ [])) 17 (refused 8 5 4 101)
    ∷ finding "P0012001" (lines (front ++ gsp3 ∷ "GSP|17|200|2.50" ∷ [])) 10 (refused 8 5 4 101)
    ∷ finding "P0012001" (lines (front ++ gsp3 ∷ "GSP|17|200|2.50" ∷ [])) 3 (truth true)
    ∷ finding "P0012001" (lines (front ++ gsp3 ∷ "GSP|17|200|2.5000|1" ∷ [])) 17 (refused 6 5 0 90)
    ∷ finding "P0012001" (lines front ++ bytes "GSP|17|" ++ copies 600 0x30) 17 (refused 3 4 0 73)
    ∷ finding "P0012001" (lines (gsp17 ∷ [])) 17 (refused 5 1 1 0)
    -- one behind it is not looked at
    ∷ finding "P0012001" (lines (front ++ gsp3 ∷ gsp17 ∷ "XXX" ∷ [])) 17 (truth true)
    ∷ finding "P0012001" (lines (front ++ gsp3 ∷ gsp17 ∷ "XXX" ∷ [])) 18 (refused 4 6 1 108)
    -- a field that is no period is refused where it stands, before the stop behind it
    ∷ finding "P0012001" (lines (front ++ "GSP|99|1|1.0000" ∷ gsp17 ∷ [])) 17 (refused 9 4 2 77)
    ∷ finding "P0012001" (lines (front ++ "GSP|0|1|1.0000" ∷ gsp17 ∷ [])) 1 (refused 9 4 2 77)
    ∷ finding "P0012001" (lines (front ++ "GSP|-1|1|1.0000" ∷ gsp17 ∷ [])) 17 (refused 9 4 2 77)
    ∷ finding "P0012001" (lines (front ++ "GSP|07|1|1.0000" ∷ gsp17 ∷ [])) 7 (refused 8 4 2 77)
    ∷ finding "P0012001" (lines (front ++ "GSP||1|1.0000" ∷ gsp17 ∷ [])) 17 (refused 7 4 2 77)
    -- periods that fall or repeat behind the stop, and before it
    ∷ finding "P0012001" (lines (front ++ gsp17 ∷ gsp3 ∷ "GSP|40|0|0.0000" ∷ [])) 17 (truth true)
    ∷ finding "P0012001" (lines (front ++ gsp17 ∷ gsp3 ∷ "GSP|40|0|0.0000" ∷ [])) 3 (truth false)
    ∷ finding "P0012001" (lines (front ++ gsp17 ∷ gsp3 ∷ "GSP|40|0|0.0000" ∷ [])) 18 (refused 11 5 2 95)
    ∷ finding "P0012001" (lines (front ++ gsp17 ∷ gsp17 ∷ [])) 17 (truth true)
    ∷ finding "P0012001" (lines (front ++ gsp17 ∷ gsp17 ∷ [])) 18 (refused 11 5 2 95)
    -- GS2 records have periods too, but not beside GSP
    ∷ finding "P0012001" (lines (front ++ "GS2|3|0|1.0000" ∷ "GS2|17|0|2.5000" ∷ "ZPT|6|376207143" ∷ [])) 17 (truth true)
    ∷ finding "P0012001" (lines (front ++ "GS2|3|0|1.0000" ∷ "GS2|17|0|2.5000" ∷ "ZPT|6|376207143" ∷ [])) 4 (truth false)
    ∷ finding "P0012001" (lines (front ++ "GS2|3|0|1.0000" ∷ "GS2|17|0|2.5000" ∷ "ZPT|6|376207143" ∷ [])) 18 (truth false)
    ∷ finding "P0012001" (lines (front ++ "GS2|3|0|1.0000" ∷ "GS2|17|1|2.5000" ∷ [])) 17 (refused 10 5 3 95)
    ∷ finding "P0012001" (lines (front ++ gsp3 ∷ "GS2|17|0|2.5000" ∷ [])) 17 (refused 5 5 1 90)
    ∷ finding "P0012001" (lines (front ++ gsp3 ∷ "GS2|17|0|2.5000" ∷ [])) 3 (truth true)
    -- periods go by their value, and those of other kinds are none
    ∷ finding "P0012001" (lines (front ++ "GSP|9|1|1.0000" ∷ "GSP|10|1|1.0000" ∷ "ZPT|6|476608035" ∷ [])) 10 (truth true)
    ∷ finding "P0012001" (lines (front ++ "GSP|9|1|1.0000" ∷ "GSP|10|1|1.0000" ∷ "ZPT|6|476608035" ∷ [])) 8 (truth false)
    ∷ finding "P0012001" (lines ("ZHD|P0012001|G|SVAA|Z|POOL|20240105120000" ∷ "ZPD|20240105|||1|SF" ∷ "HDR|17|_A|1" ∷ gsp3 ∷ "GSP|40|0|0.0000" ∷ "ZPT|6|792548702" ∷ [])) 17 (truth false)
    ∷ []
