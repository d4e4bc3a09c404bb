-- What is easy to miss of export and import: fields as text by computing, and the limits as laws; more are in answers:CommaText. Assumes
-- nothing.
use Prim.Native.Nat.{ℕ, ◌<◌}
use mathlib.Core.Path.{◌≡◌, refl}
use mathlib.Core.Bool.{true}
use mathlib.Core.List.{List, [], ◌∷◌, ◌++◌, map}
use native.Mathlib.Omega.{arith}
use lib.Dec.{lit≤}
use lib.ListN.{length, length-append}
use Rattle.text.specs.Characters.{all, bytes}
use Rattle.record.specs.Records.{onto, records, fields, joined, holds}
use Rattle.sheet.specs.Sheets.{but_last, parted, bar_line}
use Rattle.sheet.specs.Write.{done, refused}
use Rattle.rfc4180.specs.Rfc.{feed, textdata, Text, lines_of}
use Rattle.rfc4180.specs.Rfc as rfc
use Rattle.csv_text.specs.Export.{doubled, field_of, text_of, export_of}
use Rattle.csv_text.specs.Import.{Readable, Imported}
use Rattle.csv_text.specs.Import as imports

-- a field is quoted just where there is a comma or a quotation mark, which is doubled
pub field_cases : map field_of (bytes "a b;'c" ∷ [] ∷ bytes "a,b" ∷ bytes "," ∷ bytes "say \"x\"" ∷ bytes "\"" ∷ [])
    ≡ (bytes "a b;'c" ∷ [] ∷ bytes "\"a,b\"" ∷ bytes "\",\"" ∷ bytes "\"say \"\"x\"\"\"" ∷ bytes "\"\"\"\"" ∷ [])
unfolding field_of holds doubled
field_cases = refl

-- a line a record without the last, each ended CR LF, the last record ended or not
pub export_cases : map export_of (bytes "ZHD|a||b,c\nSUB|\n\"|x\nZPT|1\n" ∷ bytes "ZHD|a\nZPT|1" ∷ [])
    ≡ (bytes "ZHD,a,,\"b,c\"\r\nSUB,\r\n\"\"\"\",x\r\n" ∷ bytes "ZHD,a\r\n" ∷ [])
unfolding export_of records onto but_last fields text_of parted field_of holds doubled
export_cases = refl

-- the first 2 is for any text of more than 1,048,000 bytes, whatever they are
pub long_text : (s old : List ℕ) → 1048000 < length s → Imported s old (refused 2 0 0 0) old
long_text s old h = imports.Imported.over h

-- the second 2: 1,048,000 bytes in one line without CR LF make a sheet of one byte more
one_line : (s : List ℕ) → s ++ feed ∷ [] ≡ joined (lines_of ((s ∷ []) ∷ []))
unfolding joined parted
one_line s = refl

pub long_sheet : (s old : List ℕ) → all textdata s ≡ true → length s ≡ 1048000 → Imported s old (refused 2 0 0 0) old
long_sheet s old e h =
    let reads : Text s ((s ∷ []) ∷ []) = rfc.Text.last {s = s} (omega arith) (rfc.Line.last (rfc.Field.non_escaped e)) in
    let r : Readable s ((s ∷ []) ∷ []) (s ++ feed ∷ []) = record { short = omega arith; reads = reads; makes = one_line s } in
    imports.Imported.long r (omega (arith, length-append s (feed ∷ [])))

-- an empty result needs no room
pub no_room_needed : Imported [] [] (done 0 0) []
unfolding joined bar_line
no_room_needed = imports.Imported.made {rows = []} {sheet = []} record { short = lit≤ tt; reads = rfc.Text.none; makes = refl } (lit≤ tt) refl (lit≤ tt)
