-- A case of the papers: a call of a public part, and what they answer. Assumes nothing.
use Prim.Native.Nat.{ℕ, zero, suc, ◌+◌}
use Prim.Native.String.{String}
use mathlib.Core.Path.{◌≡◌, refl, sym, ap, ◌∙◌}
use mathlib.Core.Bool.{cond}
use mathlib.Core.List.{List, [], ◌∷◌, ◌++◌, map, map-append}
use lib.Dec.{eqb}
use lib.ListN.{length}
use Rattle.text.specs.Characters.{bytes}
use Rattle.checksum.specs.Checksum.{checksum_of}
use Rattle.field.specs.Judge.{Marked, field_judged}
use Rattle.field.specs.Judge as field
use Rattle.field.specs.declared.FieldType.{FieldType}
use Rattle.flow.specs.Editions.{asked}
use Rattle.flow.proofs.Stepped.{Stepped, stepped}
use Rattle.judge.specs.File.{judged, refused}
use Rattle.judge.specs.File as judge
use Rattle.value.specs.Value.{valued}
use Rattle.value.specs.Value as value
use Rattle.sheet.specs.Sheets.{made, sheet_of}
use Rattle.sheet.specs.Write.{Transfer, written, output, paper}
use Rattle.sheet.specs.Write as sheet
use Rattle.sheet.specs.Read.{read_to}
use Rattle.rfc4180.specs.declared.State.TheVariants.{AtLine}
use Rattle.rfc4180.specs.Walk.{sheet_from}
use Rattle.csv_text.specs.Export.{export_of, exported}
use Rattle.csv_text.proofs.Computed.{computed as imported}
use Rattle.index.specs.Entries.{indexed, listed}
use Rattle.index.specs.Entries as index
use Rattle.index.specs.declared.Entry.{Entry}
use Rattle.period.specs.Answer.{has_period}
use Rattle.period.specs.Answer as period

-- lines with a line feed after each
abbrev pub lines : List String → List ℕ
lines [] = []
lines (l ∷ ls) = bytes l ++ 0x0A ∷ lines ls

-- the same without the last line feed
abbrev pub unended : List String → List ℕ
unended [] = []
unended (l ∷ []) = bytes l
unended (l ∷ k ∷ ls) = bytes l ++ 0x0A ∷ unended (k ∷ ls)

-- so many times one byte
unfoldable pub copies : ℕ → ℕ → List ℕ
copies zero b = []
copies (suc n) b = b ∷ copies n b

pub copies_length : (n b : ℕ) → length (copies n b) ≡ n
unfolding copies
copies_length zero b = refl
copies_length (suc n) b = ap suc (copies_length n b)

-- what a public part answers; of one that makes a file, a sheet or a text also the bytes of the lent output after it, of the index its list
pub data Said : Type 0 where
  of_file : judge.Reply → Said
  of_sheet : sheet.Reply → List ℕ → Said
  of_value : value.Reply → Said
  of_field : field.Reply → Said
  of_sum : ℕ → Said
  of_step : Stepped → Said
  of_index : index.Reply → List Entry → Said
  of_period : period.Reply → Said

-- a call, and after it what the papers say
pub data Case : Type 0 where
  -- the words that ask for a flow, and a file
  judging : String → List ℕ → judge.Reply → Case
  -- a flow, a sheet and a lent output
  writing : String → List ℕ → List ℕ → sheet.Reply → List ℕ → Case
  -- a flow, a file and a lent output
  reading : String → List ℕ → List ℕ → sheet.Reply → List ℕ → Case
  -- a flow, a file, a record and a field
  asking : String → List ℕ → ℕ → ℕ → value.Reply → Case
  -- a type, its mark and the field's bytes
  of_type : FieldType → Marked → String → field.Reply → Case
  -- bytes
  summing : List ℕ → ℕ → Case
  -- a flow, and kinds end to end
  stepping : String → String → Stepped → Case
  -- a flow, a file and a lent output
  exporting : String → List ℕ → List ℕ → sheet.Reply → List ℕ → Case
  -- a text and a lent output
  importing : List ℕ → List ℕ → sheet.Reply → List ℕ → Case
  -- a flow, a file and a lent list
  indexing : String → List ℕ → List Entry → index.Reply → List Entry → Case
  -- a flow, a file and a period
  finding : String → List ℕ → ℕ → period.Reply → Case

-- the answer of a part that makes a file, a sheet or a text, and the lent output after it
abbrev pub transferred : Transfer → List ℕ → List ℕ → Said
transferred answer result old = of_sheet (paper answer) (output answer result old)

-- the answer by the definitions; import's by the walk, which `csv:Computed.computed-right` shows to be the only one that meets its promise
unfoldable pub given : Case → Said
given (judging flow f r) = of_file (judged (asked (bytes flow)) f)
given (writing flow s old r new) = transferred (written (asked (bytes flow)) s (length old)) (made s) old
given (reading flow f old r new) = transferred (read_to (asked (bytes flow)) f (length old)) (sheet_of f) old
given (asking flow f n k r) = of_value (valued (asked (bytes flow)) f n k)
given (of_type t m s r) = of_field (field_judged t m (bytes s))
given (summing s n) = of_sum (checksum_of s)
given (stepping flow kinds r) = of_step (stepped (asked (bytes flow)) (bytes kinds))
given (exporting flow f old r new) = transferred (exported (asked (bytes flow)) f (length old)) (export_of f) old
given (importing text old r new) = transferred (imported text (length old)) (sheet_from AtLine text) old
given (indexing flow f old r new) = of_index (indexed (asked (bytes flow)) f (length old)) (listed (asked (bytes flow)) f old)
given (finding flow f p r) = of_period (has_period (asked (bytes flow)) f p)

-- the answer by the papers
unfoldable pub expected : Case → Said
expected (judging flow f r) = of_file r
expected (writing flow s old r new) = of_sheet r new
expected (reading flow f old r new) = of_sheet r new
expected (asking flow f n k r) = of_value r
expected (of_type t m s r) = of_field r
expected (summing s n) = of_sum n
expected (stepping flow kinds r) = of_step r
expected (exporting flow f old r new) = of_sheet r new
expected (importing text old r new) = of_sheet r new
expected (indexing flow f old r new) = of_index r new
expected (finding flow f p r) = of_period r

-- all of some cases are answered as the papers say
abbrev pub Right : List Case → Type 0
Right cs = map given cs ≡ map expected cs

pub both_right : (a b : List Case) → Right a → Right b → Right (a ++ b)
both_right a b p q = map-append given a b ∙ (λ i. p i ++ q i) ∙ sym (map-append expected a b)

-- a record with a fault: its text, the refusal's number and the field
pub data Bad : Type 0 where
  bad : String → ℕ → ℕ → Bad

-- how many bytes of a record stand before its field k: those up to the bar in front of it, and none before field 0 and field 1
unfoldable pub bytes_before : ℕ → List ℕ → ℕ
bytes_before k [] = 0
bytes_before zero (b ∷ s) = 0
bytes_before (suc zero) (b ∷ s) = 0
bytes_before (suc (suc k)) (b ∷ s) = suc (cond (eqb b 0x7C) (bytes_before (suc k) s) (bytes_before (suc (suc k)) s))

-- each of some bad records, judged as record n behind the same right records
unfoldable pub behind : String → List String → ℕ → List Bad → List Case
behind flow before n [] = []
behind flow before n (bad r number f ∷ rs) =
    judging flow (lines (before ++ r ∷ [])) (refused number n f (length (lines before) + bytes_before f (bytes r))) ∷ behind flow before n rs
