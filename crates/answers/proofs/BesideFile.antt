-- Document 02's C-13: the index beside a file. The texts are written out from the papers, and records, places, parents and children are
-- counted in them by hand. Assumes nothing.
use Prim.Native.Nat.{ℕ, zero, suc}
use Prim.Native.String.{String}
use mathlib.Core.List.{List, [], ◌∷◌, ◌++◌}
use Rattle.index.specs.Entries.{entry, accepted, refused}
use Rattle.index.specs.declared.Entry.{Entry}
use Rattle.answers.proofs.Cases.{lines, unended, Case, indexing}

-- a list of so many entries, with something in each
unfoldable pub lent : ℕ → List Entry
lent zero = []
lent (suc n) = entry 7 8 9 10 ∷ lent n

-- P0181: GS7 with two SUP, GS7 without SUP, GS7 with one SUP. The records start at 0, 42, 49, 58, 86, 114, 123, 159, 166, 173, 182, 210
abbrev gs7s : List String
gs7s =
    "ZHD|P0181002|G|SVAA|Z|POOL|20240105120000"
    ∷ "GS7|_A"
    ∷ "SUP|AAAA"
    ∷ "BMU|2__AAAA0001|20240101||T"
    ∷ "BMU|2__AAAA0002|20240101||F"
    ∷ "SUP|BBBB"
    ∷ "BMU|2__BBBB0001|20240101|20240331|T"
    ∷ "GS7|_B"
    ∷ "GS7|_C"
    ∷ "SUP|AAAA"
    ∷ "BMU|2__AAAA0003|20240101||T"
    ∷ []

abbrev gs7_file : List ℕ
gs7_file = lines gs7s ++ lines ("ZPT|12|139023189" ∷ [])

-- children are counted on one level: of the first GS7 its two SUP, not its three BMU; the second has an entry with none
abbrev gs7_entries : List Entry
gs7_entries =
    entry 2 42 1 2
    ∷ entry 3 49 1 2
    ∷ entry 6 114 1 1
    ∷ entry 8 159 4 0
    ∷ entry 9 166 5 1
    ∷ entry 10 173 5 1
    ∷ []

-- P0133: an SB1 without CM1, one with two, one with one
abbrev sb1_file : List ℕ
sb1_file =
    lines
    ("ZHD|P0133001|Z|SVAA|Z|POOL|20240105120000"
    ∷ "SB1|H|M|AAAA|20231231|M"
    ∷ "SB1|H|M|BBBB|20231231|M"
    ∷ "CM1|_A|1|1.0|1"
    ∷ "CM1||2|2.5|3"
    ∷ "SB1|H|M|CCCC|20231231|M"
    ∷ "CM1|_B|7|0.1|9"
    ∷ "ZPT|8|823142182"
    ∷ [])

-- P0134: an SB2 with one CM2, and one without; the last line feed may be absent
abbrev sb2s : List String
sb2s =
    "ZHD|P0134001|Z|SVAA|Z|POOL|20240105120000"
    ∷ "SB2|M|AAAA|20231231|M"
    ∷ "CM2|_A|1|1|1.0|2.0"
    ∷ "SB2|M|BBBB|20231231|M"
    ∷ "ZPT|5|1634674768"
    ∷ []

-- P0164: a SUB with two SP7, and one with one
abbrev sub_file : List ℕ
sub_file =
    lines
    ("ZHD|P0164001|G|SVAA|Z|POOL|20240105120000"
    ∷ "SUB|B|X|AAAA|20231231|M"
    ∷ "SP7|_A|AAAA|A|20240101|SF|5"
    ∷ "SP7|_A|AAAA|A|20240101|SF|6"
    ∷ "SUB|B|X|BBBB|20231231|M"
    ∷ "SP7|_B|BBBB|A|20240102|SF|1"
    ∷ "ZPT|7|1243161355"
    ∷ [])

-- P0138, whose SUB has no entry, and P0012, which has none at all
abbrev ta2_file : List ℕ
ta2_file = lines ("ZHD|P0138001|G|SVAA|Z|POOL|20240105120000" ∷ "SUB|B|||20231231|M" ∷ "TA2|1.0250" ∷ "ZPT|4|812996689" ∷ [])

abbrev hdr_file : List ℕ
hdr_file = lines ("ZHD|P0012001|G|SVAA|Z|POOL|20240105120000" ∷ "ZPD|20240105|||1|SF" ∷ "HDR|1|_A|1" ∷ "ZPT|4|1497044334" ∷ [])

unfoldable pub beside_file : List Case
beside_file =
    -- entries in file order, then what the list held
    indexing "P0181002" gs7_file (lent 8) (accepted 12 6) (gs7_entries ++ lent 2)
    -- just room enough; one too few is 19, and the list is as it was
    ∷ indexing "P0181002" gs7_file (lent 6) (accepted 12 6) gs7_entries
    ∷ indexing "P0181002" gs7_file (lent 5) (refused 19 0 0 0) (lent 5)
    ∷ indexing "P0181002" gs7_file [] (refused 19 0 0 0) []
    -- an entry's parent is itself where it has none, and its children are those up to the next of its kind
    ∷ indexing "P0133001 533" sb1_file (lent 3) (accepted 8 3) (entry 2 42 1 0 ∷ entry 3 66 2 2 ∷ entry 6 118 3 1 ∷ [])
    ∷ indexing "P0134001" (lines sb2s) (lent 3) (accepted 5 2) (entry 2 42 1 1 ∷ entry 4 83 2 0 ∷ lent 1)
    ∷ indexing "P0134001" (unended sb2s) (lent 2) (accepted 5 2) (entry 2 42 1 1 ∷ entry 4 83 2 0 ∷ [])
    ∷ indexing "P0164001" sub_file (lent 2) (accepted 7 2) (entry 2 42 1 2 ∷ entry 5 122 2 1 ∷ [])
    -- no entry: accepted, and the list is as it was, with room or without
    ∷ indexing "P0138001" ta2_file (lent 2) (accepted 4 0) (lent 2)
    ∷ indexing "P0138001" ta2_file [] (accepted 4 0) []
    ∷ indexing "P0012001" hdr_file (lent 1) (accepted 4 0) (lent 1)
    ∷ indexing "P0133001 533" (lines ("ZHD|P0133001|Z|SVAA|Z|POOL|20240105120000" ∷ "ZPT|2|89220381" ∷ [])) [] (accepted 2 0) []
    -- the reader's refusals come first, and the list is as it was
    ∷ indexing "P0182002" gs7_file [] (refused 1 0 0 0) []
    ∷ indexing "P0181002" (lines gs7s ++ lines ("ZPT|12|139023188" ∷ [])) (lent 2) (refused 13 12 3 217) (lent 2)
    ∷ indexing "P0181002" (lines gs7s) (lent 8) (refused 14 12 0 210) (lent 8)
    ∷ indexing "P0181002" (unended ("ZHD|P0181002|G|SVAA|Z|POOL|20240105120000" ∷ "BMU|2__AAAA0001|20240101||T" ∷ [])) [] (refused 5 2 1 42) []
    ∷ []
