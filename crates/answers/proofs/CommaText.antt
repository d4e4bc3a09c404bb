-- Document 02's C-15: comma-separated text, exported and imported. The texts are written out from the papers and RFC 4180, and lines, bytes
-- and places are counted in them by hand. Assumes nothing.
use Prim.Native.Nat.{ℕ}
use Prim.Native.String.{String}
use mathlib.Core.List.{List, [], ◌∷◌, ◌++◌}
use Rattle.text.specs.Characters.{bytes}
use Rattle.sheet.specs.Write.{done, refused}
use Rattle.answers.proofs.Cases.{lines, unended, copies, Case, exporting, importing}

-- the example of document 01: 88 bytes, and 75 as text
abbrev example : List String
example = "ZHD|P0138001|G|SVAA|Z|POOL|20240105120000" ∷ "SUB|B|||20231231|M" ∷ "TA2|1.0250" ∷ "ZPT|4|812996689" ∷ []

abbrev example_text : List ℕ
example_text = bytes "ZHD,P0138001,G,SVAA,Z,POOL,20240105120000\r\nSUB,B,,,20231231,M\r\nTA2,1.0250\r\n"

-- a file with commas and quotation marks
abbrev marks : List ℕ
marks =
    lines
    ("ZHD|P0133001|Z|\"\",\"|Z|,|20240105120000" ∷ "SB1|H|M|A,\"B\",C|20240104|M" ∷ "CM1|,\"|7|0.0|-7" ∷ "CM1||7|0.0|-7"
    ∷ "SB1|H|M|=1+2;'B'|20240104|M" ∷ "CM1|\"\"|12|-1.5|0" ∷ "ZPT|7|1836792338" ∷ [])

abbrev marks_text : List ℕ
marks_text =
    bytes "ZHD,P0133001,Z,\"\"\"\"\",\"\"\",Z,\",\",20240105120000\r\nSB1,H,M,\"A,\"\"B\"\",C\",20240104,M\r\nCM1,\",\"\"\",7,0.0,-7\r\n"
    ++ bytes "CM1,,7,0.0,-7\r\nSB1,H,M,=1+2;'B',20240104,M\r\nCM1,\"\"\"\"\"\",12,-1.5,0\r\n"

-- a lent output of so many bytes
abbrev room : ℕ → List ℕ
room n = copies n 46

unfoldable pub comma_text : List Case
comma_text =
    -- a line a record without ZPT, each ended CR LF; what is behind the text stays
    exporting "P0138001" (lines example) (room 75) (done 4 75) example_text
    ∷ exporting "P0138001" (unended example) (room 77) (done 4 75) (example_text ++ room 2)
    -- quoted just where there is a comma or a quotation mark, which is doubled
    ∷ exporting "P0133001 533" marks (room 165) (done 7 165) marks_text
    -- 17 by one byte, and none of the output is touched; the reader's refusals come first
    ∷ exporting "P0138001" (lines example) (room 74) (refused 17 0 0 0) (room 74)
    ∷ exporting "P0138001" (lines ("ZHD|P0138001|G|SVAA|Z|POOL|20240105120000" ∷ "SUB|B|||20231231|M" ∷ "TA2|1.0250" ∷ "ZPT|4|812996688" ∷ [])) [] (refused 13 4 3 78) []
    ∷ exporting "P0138002" (lines example) [] (refused 1 0 0 0) []
    -- and back
    ∷ importing example_text (room 75) (done 3 72) (lines ("ZHD\tP0138001\tG\tSVAA\tZ\tPOOL\t20240105120000" ∷ "SUB\tB\t\t\t20231231\tM" ∷ "TA2\t1.0250" ∷ []) ++ room 3)
    ∷ importing marks_text (room 141) (done 6 141)
    (lines
    ("ZHD\tP0133001\tZ\t\"\",\"\tZ\t,\t20240105120000" ∷ "SB1\tH\tM\tA,\"B\",C\t20240104\tM" ∷ "CM1\t,\"\t7\t0.0\t-7" ∷ "CM1\t\t7\t0.0\t-7"
    ∷ "SB1\tH\tM\t=1+2;'B'\t20240104\tM" ∷ "CM1\t\"\"\t12\t-1.5\t0" ∷ []))
    -- any quoting: none, of all, where none is needed, of an empty field, of commas and marks
    ∷ importing (bytes "a,b\r\n") (room 4) (done 1 4) (bytes "a\tb\n")
    ∷ importing (bytes "\"a\",\"b\"\r\n") (room 4) (done 1 4) (bytes "a\tb\n")
    ∷ importing (bytes "\"\",\"b,\"\"c\"\"\",\r\n\"\"") (room 9) (done 2 9) (bytes "\tb,\"c\"\t\n\n")
    ∷ importing (bytes " a , b ") (room 8) (done 1 8) (bytes " a \t b \n")
    -- the last CR LF is optional, and nothing behind it is no line; a blank line has one empty field; the empty text has no line
    ∷ importing (bytes "a\r\nb\r\n") (room 4) (done 2 4) (bytes "a\nb\n")
    ∷ importing (bytes "a\r\nb") (room 4) (done 2 4) (bytes "a\nb\n")
    ∷ importing (bytes "a\r\n\r\nb") (room 5) (done 3 5) (bytes "a\n\nb\n")
    ∷ importing (bytes "\r\n") (room 1) (done 1 1) (bytes "\n")
    ∷ importing (bytes "\r\n\r\n") (room 2) (done 2 2) (bytes "\n\n")
    ∷ importing (bytes ",") (room 2) (done 1 2) (bytes "\t\n")
    ∷ importing [] (room 1) (done 0 0) (room 1)
    ∷ importing [] [] (done 0 0) []
    -- 20 at its line: a tab; a line feed or a CR alone, in quotes too
    ∷ importing (bytes "a\tb\r\n") (room 9) (refused 20 1 0 0) (room 9)
    ∷ importing (bytes "a\r\n\"\t\"\r\n") (room 9) (refused 20 2 0 3) (room 9)
    ∷ importing (bytes "a\nb\n") (room 9) (refused 20 1 0 0) (room 9)
    ∷ importing (bytes "a,b\r\nc\rd\r\n") (room 9) (refused 20 2 0 5) (room 9)
    ∷ importing (bytes "a\r") (room 9) (refused 20 1 0 0) (room 9)
    ∷ importing (bytes "a\r\n\"b\nc\"\r\n") (room 9) (refused 20 2 0 3) (room 9)
    -- control bytes and those above 126
    ∷ importing (0x00 ∷ []) (room 9) (refused 20 1 0 0) (room 9)
    ∷ importing (bytes "a\r\nb\r\n" ++ 127 ∷ []) (room 9) (refused 20 3 0 6) (room 9)
    ∷ importing (bytes "\"" ++ 0xC3 ∷ 0xA9 ∷ bytes "\"") (room 9) (refused 20 1 0 0) (room 9)
    ∷ importing (bytes "~}" ++ 0x80 ∷ []) (room 9) (refused 20 1 0 0) (room 9)
    -- a quotation mark inside a field without quotes, and anything but a comma or CR LF behind a field with them
    ∷ importing (bytes "a\"b\"\r\n") (room 9) (refused 20 1 0 0) (room 9)
    ∷ importing (bytes "x\r\n\"a\"b\r\n") (room 9) (refused 20 2 0 3) (room 9)
    ∷ importing (bytes "\"a\" ,b") (room 9) (refused 20 1 0 0) (room 9)
    ∷ importing (bytes " \"a\"") (room 9) (refused 20 1 0 0) (room 9)
    -- a quotation mark that opens and meets CR LF, or the end, is 20 at the line where it opens
    ∷ importing (bytes "a\r\n\"b\r\nc\"\r\n") (room 9) (refused 20 2 0 3) (room 9)
    ∷ importing (bytes "a,\"b") (room 9) (refused 20 1 0 0) (room 9)
    ∷ importing (bytes "a\r\n\"\"\"") (room 9) (refused 20 2 0 3) (room 9)
    -- 16 at the first line with a bar, in quotes too; 20 anywhere comes before it, and 17 behind it
    ∷ importing (bytes "a\r\nb|\r\n|") (room 9) (refused 16 2 0 3) (room 9)
    ∷ importing (bytes "a\r\nbc\r\n\"|\"\r\n") (room 0) (refused 16 3 0 7) []
    ∷ importing (bytes "a|b\r\nc\"\r\n") (room 9) (refused 20 2 0 5) (room 9)
    ∷ importing (bytes "\"|\r\n") (room 9) (refused 20 1 0 0) (room 9)
    -- 17 by one byte: a sheet without quotation marks and CRs, with its last line feed
    ∷ importing (bytes "a,b") (room 3) (refused 17 0 0 0) (room 3)
    ∷ importing (bytes "\"a\"\r\n") (room 1) (refused 17 0 0 0) (room 1)
    ∷ importing (bytes "\r\n") [] (refused 17 0 0 0) []
    ∷ []
