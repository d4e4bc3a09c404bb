-- The papers' answers as four numbers in a lent array, for callers in C. Cell 0 is the refusal's number, 0 where nothing is refused;
-- of a refusal cell 1 is the record, cell 2 the field and cell 3 the byte place. A cell that says nothing is 0. Assumes nothing.
use Rattle.std.specs.Prelude.{ℕ, ◌/◌, ◌≡◌, Bool, cond, List, [], ◌∷◌, leb, ℤ, pos, negsuc, nat_abs, length}
use Rattle.text.specs.Rules.{must}
use Rattle.field.specs.Judge as fields
use Rattle.field.specs.Codes.{type_coded, mark_coded}
use Rattle.flow.specs.Editions.{Asked}
use Rattle.flow.specs.Step as steps
use Rattle.judge.specs.File as files
use Rattle.index.specs.Entries as indexes
use Rattle.period.specs.Answer as periods
use Rattle.value.specs.Value as values
use Rattle.sheet.specs.Sheets.{made, sheet_of}
use Rattle.sheet.specs.Write as writing
use Rattle.sheet.specs.Read as reading
use Rattle.sheet.specs.Write.{Transfer}
use Rattle.csv_text.specs.Export as exporting
use Rattle.csv_text.specs.Import as importing

-- a refusal: its number, record, field and place
abbrev pub refusal_cells : ℕ → ℕ → ℕ → ℕ → List ℕ
refusal_cells number r f place = number ∷ r ∷ f ∷ place ∷ []

-- judging a file: cell 1 is the number of records
abbrev pub judge_cells : files.Reply → List ℕ
judge_cells (files.accepted n) = 0 ∷ n ∷ 0 ∷ 0 ∷ []
judge_cells (files.refused number r f place) = refusal_cells number r f place

-- writing a file, reading to a sheet and exporting: cell 1 is the number of records, cell 2 the number of bytes written
abbrev pub transfer_cells : writing.Reply → List ℕ
transfer_cells (writing.done records bytes) = 0 ∷ records ∷ bytes ∷ 0 ∷ []
transfer_cells (writing.refused number r f place) = refusal_cells number r f place

-- what is handed over: the cells of the answer that is to be said, and every byte that was lent
pub record HandedCells (said : Transfer) (result cells old new : List ℕ) : Type 0 where
  pub says : cells ≡ transfer_cells (writing.paper said)
  pub leaves : new ≡ writing.output said result old

-- a file written from a sheet
abbrev pub WroteCells : Asked → List ℕ → List ℕ → List ℕ → List ℕ → Type 0
WroteCells a sheet cells old new = HandedCells (writing.written a sheet (length old)) (made sheet) cells old new

-- a file read to a sheet
abbrev pub ReadCells : Asked → List ℕ → List ℕ → List ℕ → List ℕ → Type 0
ReadCells a file cells old new = HandedCells (reading.read_to a file (length old)) (sheet_of file) cells old new

-- a file exported as comma-separated text
abbrev pub ExportedCells : Asked → List ℕ → List ℕ → List ℕ → List ℕ → Type 0
ExportedCells a file cells old new = HandedCells (exporting.exported a file (length old)) (exporting.export_of file) cells old new

-- comma-separated text imported as a sheet: cell 1 is the number of lines; every byte that was lent
pub record ImportedCells (text cells old new : List ℕ) : Type 0 where
  pub reply : writing.Reply
  pub right : importing.Imported text old reply new
  pub says : cells ≡ transfer_cells reply

-- yes is 1, no is 0
abbrev pub flag_of : Bool → ℕ
flag_of b = cond b 1 0

-- 1 below zero, else 0
abbrev pub sign : ℤ → ℕ
sign (pos n) = 0
sign (negsuc n) = 1

-- a value: cell 1 says what it is. 1 an empty field; 2 a number, its size in cell 2 and its sign in cell 3; 3 a yes (1) or no (0) in
-- cell 2; 4 a text, where it starts in cell 2 and where it ends in cell 3
abbrev pub empty_cells : List ℕ
empty_cells = 0 ∷ 1 ∷ 0 ∷ 0 ∷ []

abbrev pub number_cells : ℤ → List ℕ
number_cells z = 0 ∷ 2 ∷ nat_abs z ∷ sign z ∷ []

abbrev pub truth_cells : Bool → List ℕ
truth_cells b = 0 ∷ 3 ∷ flag_of b ∷ 0 ∷ []

abbrev pub text_cells : ℕ → ℕ → List ℕ
text_cells from to = 0 ∷ 4 ∷ from ∷ to ∷ []

-- the value of one field of a file: a text stands in the file
abbrev pub value_cells : values.Reply → List ℕ
value_cells (values.refused number r f place) = refusal_cells number r f place
value_cells values.empty = empty_cells
value_cells (values.number z) = number_cells z
value_cells (values.truth b) = truth_cells b
value_cells (values.text from to bytes) = text_cells from to

-- a period in a file: a yes or no, as a value's
abbrev pub period_cells : periods.Reply → List ℕ
period_cells (periods.refused number r f place) = refusal_cells number r f place
period_cells (periods.truth b) = truth_cells b

-- judging one field's bytes: a text is all of them
abbrev pub field_cells : fields.Reply → List ℕ
field_cells (fields.refused number r f place) = refusal_cells number r f place
field_cells fields.empty = empty_cells
field_cells (fields.number z) = number_cells z
field_cells (fields.truth b) = truth_cells b
field_cells (fields.text s) = text_cells 0 (length s)

-- judging one field's bytes by codes: 18 for a code that is none
unfoldable pub field_asked : ℕ → ℕ → ℕ → ℕ → List ℕ → List ℕ → fields.Reply
field_asked type p q mark bytes s =
    must (leb type 7) (fields.refused 18 0 0 0)
    (must (leb mark 2) (fields.refused 18 0 0 0)
    (fields.field_judged (type_coded type p p q) (mark_coded mark bytes) s))

-- the step: cell 1 is the place where the list stopped, 0 where it went through; then cell 2 is how many kinds may follow, and cell 3
-- says if the list is complete
abbrev pub step_cells : steps.Reply → List ℕ
step_cells (steps.refused number r f place) = refusal_cells number r f place
step_cells (steps.stopped place) = 0 ∷ place ∷ 0 ∷ 0 ∷ []
step_cells (steps.through count complete) = 0 ∷ 0 ∷ count ∷ flag_of complete ∷ []

-- the cells are those of the step's right answer, and the lent names of kinds are right
pub record Stepped (a : Asked) (kinds cells old new : List ℕ) : Type 0 where
  pub step : steps.Reply
  pub right : steps.ReplyRight a kinds step old new
  pub says : cells ≡ step_cells step

-- an index: cell 1 is the number of records, cell 2 the number of entries
abbrev pub index_cells : indexes.Reply → List ℕ
index_cells (indexes.accepted records entries) = 0 ∷ records ∷ entries ∷ 0 ∷ []
index_cells (indexes.refused number r f place) = refusal_cells number r f place

-- an index in lent cells, which have room for a quarter as many entries: the answer's cells, and every cell that was lent
pub record FilledCells (a : Asked) (file cells old new : List ℕ) : Type 0 where
  pub says : cells ≡ index_cells (indexes.indexed a file (length old / 4))
  pub leaves : new ≡ indexes.cells_by (indexes.answer_for a file (length old / 4)) (indexes.entries_for a file) old
