-- Reading a file to a sheet (document 01, "Sheets" and the reader's order). Assumes nothing.
use Rattle.std.specs.Prelude.{ℕ, List, length}
use Rattle.flow.specs.Editions.{Asked}
use Rattle.judge.specs.File.{judged_for}
use Rattle.sheet.specs.Sheets.{sheet_of}
use Rattle.sheet.specs.Write.{Transfer, as_judged, fitted, Handed}

-- the reader's refusals, with their places in the file, then 17
unfoldable pub read_to : Asked → List ℕ → ℕ → Transfer
read_to a f room = as_judged (judged_for a f) (fitted room (sheet_of f))

-- reading a file to a sheet
abbrev pub Read : Asked → List ℕ → Transfer → List ℕ → List ℕ → Type 0
Read a f answer old new = Handed (read_to a f (length old)) (sheet_of f) answer old new
