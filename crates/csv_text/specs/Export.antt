-- An accepted file as comma-separated text (document 02, C-15). Assumes nothing.
use Rattle.std.specs.Prelude.{ℕ, Bool, cond, ◌||◌, List, [], ◌∷◌, ◌++◌, map, eqb, length}
use Rattle.record.specs.Records.{records, fields, holds, bar}
use Rattle.flow.specs.Editions.{Asked}
use Rattle.judge.specs.File.{judged_for}
use Rattle.sheet.specs.Sheets.{but_last, parted}
use Rattle.rfc4180.specs.Rfc.{comma, quote, return, feed}
use Rattle.sheet.specs.Write.{Transfer, as_judged, fitted, Handed}

-- a field is quoted exactly when it holds a comma or a quotation mark
abbrev pub quoted : List ℕ → Bool
quoted x = holds comma x || holds quote x

-- bytes with each quotation mark doubled
unfoldable pub doubled : List ℕ → List ℕ
doubled [] = []
doubled (b ∷ s) = cond (eqb b quote) (quote ∷ quote ∷ doubled s) (b ∷ doubled s)

-- a field as text
unfoldable pub field_of : List ℕ → List ℕ
field_of x = cond (quoted x) (quote ∷ (doubled x ++ quote ∷ [])) x

-- a line, its fields parted by commas, without its end
abbrev pub line_of : List (List ℕ) → List ℕ
line_of row = parted comma (map field_of row)

-- a text: every line ended CR LF, the last too
unfoldable pub text_of : List (List (List ℕ)) → List ℕ
text_of [] = []
text_of (row ∷ rows) = line_of row ++ return ∷ feed ∷ text_of rows

-- the fields of some records
abbrev pub rows_of : List (List ℕ) → List (List (List ℕ))
rows_of rs = map (fields bar) rs

-- the text of a file: one line a record, without ZPT
unfoldable pub export_of : List ℕ → List ℕ
export_of f = text_of (rows_of (but_last (records f)))

-- the reader's refusals, with their places in the file, then 17
unfoldable pub exported : Asked → List ℕ → ℕ → Transfer
exported a f room = as_judged (judged_for a f) (fitted room (export_of f))

-- exporting a file
abbrev pub Exported : Asked → List ℕ → Transfer → List ℕ → List ℕ → Type 0
Exported a f answer old new = Handed (exported a f (length old)) (export_of f) answer old new
