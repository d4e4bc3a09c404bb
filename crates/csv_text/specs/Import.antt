-- Comma-separated text made a sheet (document 02, C-15). Assumes nothing.
use Rattle.std.specs.Prelude.{ℕ, suc, ◌≤◌, ◌<◌, ◌≡◌, List, ◌++◌, length, drop}
use Rattle.record.specs.Records.{joined}
use Rattle.sheet.specs.Sheets.{bar_line}
use Rattle.sheet.specs.Write.{Reply, done, refused}
use Rattle.rfc4180.specs.Rfc.{Text, lines_of, Stops, Starts}

-- a text of the grammar, within import's limit, and the sheet of its lines
pub record Readable (text : List ℕ) (rows : List (List (List ℕ))) (sheet : List ℕ) : Type 0 where
  pub short : length text ≤ 1048000
  pub reads : Text text rows
  pub makes : sheet ≡ joined (lines_of rows)

-- importing a text: the answer, and every byte that was lent; in the order 2, 20, 2, 16, 17
pub data Imported (text old : List ℕ) : Reply → List ℕ → Type 0 where
  over : 1048000 < length text → Imported text old (refused 2 0 0 0) old
  stops : {n p : ℕ} → length text ≤ 1048000 → Stops text n → Starts text n p → Imported text old (refused 20 n 0 p) old
  long : {rows : List (List (List ℕ))} {sheet : List ℕ} → Readable text rows sheet → 1048000 < length sheet → Imported text old (refused 2 0 0 0) old
  barred : {rows : List (List (List ℕ))} {sheet : List ℕ} {n p : ℕ} → Readable text rows sheet → length sheet ≤ 1048000
      → bar_line 1 (lines_of rows) ≡ suc n → Starts text (suc n) p → Imported text old (refused 16 (suc n) 0 p) old
  no_room : {rows : List (List (List ℕ))} {sheet : List ℕ} → Readable text rows sheet → length sheet ≤ 1048000
      → bar_line 1 (lines_of rows) ≡ 0 → length old < length sheet → Imported text old (refused 17 0 0 0) old
  made : {rows : List (List (List ℕ))} {sheet : List ℕ} → Readable text rows sheet → length sheet ≤ 1048000
      → bar_line 1 (lines_of rows) ≡ 0 → length sheet ≤ length old
      → Imported text old (done (length rows) (length sheet)) (sheet ++ drop (length sheet) old)
