-- The records in force of an original and a resubmission (document 02, C-18). Assumes nothing.
use Rattle.std.specs.Prelude.{ℕ, ◌+◌, ◌-◌, ◌≡◌, cond, List, [], ◌∷◌, ◌++◌, eqb, length, take, drop, Result, Ok, Err}
use Rattle.text.specs.Characters.{from_to}
use Rattle.text.specs.Rules.{must}
use Rattle.place.specs.Places.{whole}
use Rattle.place.specs.declared.Refusal.{Refusal}
use Rattle.flow.specs.Letters.{P0133001}
use Rattle.flow.specs.Publication.{Flow, layout_for}
use Rattle.flow.specs.Editions.{Asked, a_flow, no_flow}
use Rattle.judge.specs.File.{placed_by}
use Rattle.resubmission.specs.declared.Which.{Which}
use Rattle.resubmission.specs.declared.Which.TheVariants.{Original, Resubmission}
use Rattle.resubmission.specs.declared.Found.{Found}
use Rattle.resubmission.specs.declared.NotFound.{NotFound}
use Rattle.resubmission.specs.declared.NotFound.TheVariants.{Refused, NoSuch}
use Rattle.resubmission.specs.Rows.{Pair, Row, end_of, rows_in, row_at}

-- the words that ask for P0133001 in an edition, one for both files; the name alone where none is named
abbrev pub words_in : List ℕ → List ℕ
words_in edition = cond (eqb (length edition) 0) P0133001 (P0133001 ++ 0x20 ∷ edition)

-- of two things, that of this file
abbrev pub of {ℓ} : {A : Type ℓ} → Which → A → A → A
of Original a b = a
of Resubmission a b = b

-- the file whose rows are in force, by the resubmission's rows: the resubmission if it has any, else the original
abbrev pub holder : List Row → Which
holder [] = Original
holder (r ∷ rs) = Resubmission

-- a record in force: the file that holds it, how many are in force, and its ends there
abbrev pub found : Which → ℕ → ℕ → ℕ → Found
found file number start end = record { file = file; number = number; start = start; end = end }

-- 23 where n is 0 or above the number in force, which is given with it; else the file, that number, and the ends of row n
unfoldable pub handed : Which → List Row → ℕ → Result Found NotFound
handed file rows n =
    must (from_to 1 (length rows) n) (Err (NoSuch (whole 23) (length rows)))
    (Ok (found file (length rows) (row_at rows n).start (end_of (row_at rows n))))

-- by the rows of the original and of the resubmission
abbrev pub by_rows : List Row → List Row → ℕ → Result Found NotFound
by_rows old new n = handed (holder new) (of (holder new) old new) n

-- a file is judged first: the reader's refusal with a mark of which file it is; else what comes after
abbrev pub read : {A : Type 0} → Which → Result ℕ Refusal → Result A NotFound → Result A NotFound
read file (Err r) after = Err (Refused r file)
read file (Ok n) after = after

-- by a flow: the original is judged before the resubmission
unfoldable pub in_force_by : Flow → List ℕ → List ℕ → Pair → ℕ → Result Found NotFound
in_force_by flow a b p n =
    read Original (placed_by (layout_for flow) a)
    (read Resubmission (placed_by (layout_for flow) b)
    (by_rows (rows_in flow p a) (rows_in flow p b) n))

-- for what is asked: its own refusal comes while the original is judged
unfoldable pub in_force_for : Asked → List ℕ → List ℕ → Pair → ℕ → Result Found NotFound
in_force_for (a_flow flow) a b p n = in_force_by flow a b p n
in_force_for (no_flow r) a b p n = Err (Refused r Original)

-- the papers' answers: the file (1 the original, 2 the resubmission), the number in force and the ends of the record there; or a
-- refusal's number, record, field and place, its file (0 with 23) and the number in force (with 23)
pub data Reply : Type 0 where
  part : ℕ → ℕ → ℕ → ℕ → Reply
  refused : ℕ → ℕ → ℕ → ℕ → ℕ → ℕ → Reply

abbrev pub file_number : Which → ℕ
file_number Original = 1
file_number Resubmission = 2

-- what each case of the code's answer says in the papers' terms
abbrev pub paper : Result Found NotFound → Reply
paper (Err (Refused r file)) = refused r.number r.«record» r.field r.place (file_number file) 0
paper (Err (NoSuch r number)) = refused r.number r.«record» r.field r.place 0 number
paper (Ok it) = part (file_number it.file) it.number it.start it.end

-- record n in force of an original a and a resubmission b, for what is asked
unfoldable pub in_force : Asked → List ℕ → List ℕ → Pair → ℕ → Reply
in_force asked a b p n = paper (in_force_for asked a b p n)

-- the bytes from start up to end
abbrev pub between : List ℕ → ℕ → ℕ → List ℕ
between f start end = take (end - start) (drop start f)

-- the bytes of a record in force: a part of the file that holds it; none with a refusal
unfoldable pub bytes_by : Result Found NotFound → List ℕ → List ℕ → List ℕ
bytes_by (Err why) a b = []
bytes_by (Ok it) a b = between (of it.file a b) it.start it.end

-- a place in memory: an allocation, and a byte in it; some bytes further on
abbrev pub Memory : Type 0
Memory = ℕ × ℕ

abbrev pub further : Memory → ℕ → Memory
further m n = (m.0, n + m.1)

-- where they lie: in that file, from its start on; the empty part lies at the start of the original
unfoldable pub lies_by : Result Found NotFound → Memory → Memory → Memory
lies_by (Err why) a b = further a 0
lies_by (Ok it) a b = further (of it.file a b) it.start

-- what is handed back is right: its bytes, and that they lie in the file that holds the record, and where
pub record HandedBack (said : Result Found NotFound) (a b : List ℕ) (at_a at_b : Memory) (bytes : List ℕ) (at : Memory) : Type 0 where
  pub holds : bytes ≡ bytes_by said a b
  pub lies : at ≡ lies_by said at_a at_b
