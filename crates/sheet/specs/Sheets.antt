-- Sheets and the files made of them (document 01, "Sheets" and "Footer"). Assumes nothing.
use Rattle.std.specs.Prelude.{ℕ, suc, ◌+◌, cond, List, [], ◌∷◌, ◌++◌, length}
use Rattle.record.specs.Records.{records, turned, joined, holds, bar}
use Rattle.checksum.specs.Checksum.{checksum_of}
use Rattle.number.specs.Numbers.{decimal}
use Rattle.flow.specs.Letters.{ZPT}
use Rattle.judge.specs.File.{ends_in_feed}

-- the byte that parts fields in a sheet
abbrev pub tab : ℕ
tab = 0x09

-- the footer of n records in all whose checksum is sum, without its line feed: ZPT, bar, count, bar, checksum
unfoldable pub footer : ℕ → ℕ → List ℕ
footer n sum = ZPT ++ bar ∷ (decimal n ++ bar ∷ decimal sum)

-- the made file: the sheet with tabs turned to bars, and a right footer, with line feed, added
unfoldable pub made : List ℕ → List ℕ
made sheet = turned tab bar sheet ++ footer (length (records sheet) + 1) (checksum_of (turned tab bar sheet)) ++ 0x0A ∷ []

-- the first of some lines that has a bar, the lines counted from i; 0 where none has
unfoldable pub bar_line : ℕ → List (List ℕ) → ℕ
bar_line i [] = 0
bar_line i (line ∷ lines) = cond (holds bar line) i (bar_line (suc i) lines)

-- all records but the last
unfoldable pub but_last : List (List ℕ) → List (List ℕ)
but_last [] = []
but_last (r ∷ []) = []
but_last (r ∷ q ∷ rs) = r ∷ but_last (q ∷ rs)

-- some fields with a byte between each two of them
unfoldable pub parted : ℕ → List (List ℕ) → List ℕ
parted sep [] = []
parted sep (x ∷ []) = x
parted sep (x ∷ y ∷ xs) = x ++ sep ∷ parted sep (y ∷ xs)

-- the sheet of a file: all records before ZPT with bars turned to tabs, each line ended by a line feed
unfoldable pub sheet_of : List ℕ → List ℕ
sheet_of f = turned bar tab (joined (but_last (records f)))

-- a file with its last line feed added if it was absent
unfoldable pub with_feed : List ℕ → List ℕ
with_feed f = cond (ends_in_feed f) f (f ++ 0x0A ∷ [])
