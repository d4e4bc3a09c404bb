-- What some headers say, computed. Assumes nothing.
use Prim.Native.Nat.{ℕ}
use mathlib.Core.Path.{◌≡◌, refl}
use mathlib.Core.List.{List, [], ◌∷◌, ◌++◌}
use Rattle.text.specs.Characters.{bytes, is_digit}
use Rattle.record.specs.Records.{fields, onto, field}
use Rattle.field.specs.declared.FieldType.TheVariants.{Dec}
use Rattle.field.specs.declared.Mark.TheVariants.{Fixed}
use Rattle.words.specs.Spelling.{is_number, number_of, bracketed, ends_in, dec_of, wide_of, form_of, mark_of}
use Rattle.headers.specs.Headers.{plain_of, value_of, period_of, making_of, index_of, field_of, room_named, case_named, header_of}
use Rattle.headers.specs.declared.Ask.{Ask}
use Rattle.headers.specs.declared.Ask.TheVariants.{Judge, Value, Period, Field, Sum, Step, Make, Index}
use Rattle.headers.specs.declared.Making.TheVariants.{Write, Read, Export, Import}
use Rattle.headers.specs.declared.Fault.TheVariants as faults
use Rattle.headers.specs.declared.Case.{Case}
use Rattle.headers.specs.declared.Fault.{Fault}
use Rattle.std.specs.Prelude.{Result, Ok, Err}

-- words with a tab between each two
abbrev tabbed : List (List ℕ) → List ℕ
tabbed [] = []
tabbed (w ∷ []) = w
tabbed (w ∷ v ∷ ws) = w ++ 0x09 ∷ tabbed (v ∷ ws)

abbrev said : Ask → ℕ → ℕ → Result Case Fault
said ask fixed length = Ok (record { ask = ask; fixed = fixed; length = length })

abbrev P0138001 : List ℕ
P0138001 = bytes "P0138001"

-- a header of each case
pub cases_said : (header_of (tabbed (bytes "judge" ∷ P0138001 ∷ bytes "88" ∷ [])) ≡ said Judge 0 88)
    × (header_of (tabbed (bytes "value" ∷ P0138001 ∷ bytes "3" ∷ bytes "2" ∷ bytes "88" ∷ [])) ≡ said (Value 3 2) 0 88)
    × (header_of (tabbed (bytes "period" ∷ bytes "P0012001" ∷ bytes "17" ∷ bytes "88" ∷ [])) ≡ said (Period 17) 0 88)
    × (header_of (tabbed (bytes "field" ∷ bytes "dec(4,2)" ∷ bytes "=" ∷ bytes "5" ∷ bytes "6" ∷ [])) ≡ said (Field (Dec 4 2) Fixed) 5 6)
    × (header_of (tabbed (bytes "sum" ∷ bytes "1114112" ∷ [])) ≡ said Sum 0 1114112)
    × (header_of (tabbed (bytes "step" ∷ [] ∷ bytes "6" ∷ [])) ≡ said Step 0 6)
    × (header_of (tabbed (bytes "write" ∷ P0138001 ∷ bytes "100" ∷ bytes "72" ∷ [])) ≡ said (Make Write 100) 0 72)
    × (header_of (tabbed (bytes "read" ∷ P0138001 ∷ bytes "100" ∷ bytes "88" ∷ [])) ≡ said (Make Read 100) 0 88)
    × (header_of (tabbed (bytes "export" ∷ P0138001 ∷ bytes "100" ∷ bytes "88" ∷ [])) ≡ said (Make Export 100) 0 88)
    × (header_of (tabbed (bytes "import" ∷ bytes "100" ∷ bytes "75" ∷ [])) ≡ said (Make Import 100) 0 75)
    × (header_of (tabbed (bytes "index" ∷ P0138001 ∷ bytes "8192" ∷ bytes "88" ∷ [])) ≡ said (Index 8192) 0 88)
unfolding header_of case_named room_named plain_of value_of period_of field_of making_of index_of ends_in form_of wide_of dec_of bracketed mark_of number_of is_number is_digit fields onto field
cases_said = (refl, refl, refl, refl, refl, refl, refl, refl, refl, refl, refl)

-- a header with each fault
pub faults_said : (header_of (tabbed (bytes "judge" ∷ P0138001 ∷ (bytes "88" ++ 0x0D ∷ []) ∷ [])) ≡ Err faults.CarriageReturn)
    × (header_of (tabbed (bytes "judged" ∷ P0138001 ∷ bytes "88" ∷ [])) ≡ Err faults.NoCase) × (header_of [] ≡ Err faults.NoCase)
    × (header_of (tabbed (bytes "judge" ∷ bytes "88" ∷ [])) ≡ Err (faults.Words 3 2))
    × (header_of (tabbed (bytes "import" ∷ P0138001 ∷ bytes "100" ∷ bytes "75" ∷ [])) ≡ Err (faults.Words 3 4))
    × (header_of (tabbed (bytes "value" ∷ P0138001 ∷ bytes "1000000001" ∷ bytes "x" ∷ bytes "88" ∷ [])) ≡ Err faults.Record)
    × (header_of (tabbed (bytes "value" ∷ P0138001 ∷ bytes "1" ∷ bytes "00000000001" ∷ bytes "88" ∷ [])) ≡ Err faults.Field)
    × (header_of (tabbed (bytes "period" ∷ bytes "P0012001" ∷ bytes "-1" ∷ bytes "x" ∷ [])) ≡ Err faults.Period)
    × (header_of (tabbed (bytes "field" ∷ bytes "text" ∷ bytes "?" ∷ bytes "0" ∷ bytes "6" ∷ [])) ≡ Err faults.Type)
    × (header_of (tabbed (bytes "field" ∷ bytes "bol" ∷ bytes "?" ∷ bytes "x" ∷ bytes "6" ∷ [])) ≡ Err faults.Mark)
    × (header_of (tabbed (bytes "field" ∷ bytes "bol" ∷ bytes "opt" ∷ bytes "-1" ∷ bytes "x" ∷ [])) ≡ Err faults.Fixed)
    × (header_of (tabbed (bytes "write" ∷ P0138001 ∷ bytes "1114113" ∷ bytes "x" ∷ [])) ≡ Err faults.Room)
    × (header_of (tabbed (bytes "index" ∷ P0138001 ∷ bytes "8193" ∷ bytes "88" ∷ [])) ≡ Err faults.Entries)
    × (header_of (tabbed (bytes "sum" ∷ [] ∷ [])) ≡ Err faults.Length)
unfolding header_of case_named room_named plain_of value_of period_of field_of making_of index_of ends_in form_of wide_of dec_of bracketed mark_of number_of is_number is_digit fields onto field
faults_said = (refl, refl, refl, refl, refl, refl, refl, refl, refl, refl, refl, refl, refl, refl)
