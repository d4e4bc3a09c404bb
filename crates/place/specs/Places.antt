-- Where a refusal points: the byte that a record and a field stand for, counted from 0 (document 02, C-12). Assumes nothing.
use Rattle.std.specs.Prelude.{ℕ, ◌+◌, ◌-◌, cond, List, [], eqb, leb, length, get_or, take}
use Rattle.text.specs.Rules.{must}
use Rattle.text.specs.Characters.{from_to}
use Rattle.record.specs.Records.{records, fields, extent}
use Rattle.place.specs.declared.Refusal.{Refusal}

-- record n of a file or line n of a sheet, counted from 1
abbrev pub record_at : List ℕ → ℕ → List ℕ
record_at s n = get_or (records s) (n - 1) []

-- its first byte: behind the records before it, each with its line feed
abbrev pub record_start : List ℕ → ℕ → ℕ
record_start s n = extent (take (n - 1) (records s))

-- the first byte of field k in its record: behind the fields before it, each with its separator; 0 where k is 0 or there is no such field
unfoldable pub field_start : ℕ → List ℕ → ℕ → ℕ
field_start sep r k = must (from_to 1 (length (fields sep r)) k) 0 (extent (take (k - 1) (fields sep r)))

-- the place of record n, field k: 0 where the record is 0, the length where there is no such record, else the field's or the record's first byte
unfoldable pub place_at : ℕ → List ℕ → ℕ → ℕ → ℕ
place_at sep s n k =
    cond (eqb n 0) 0
    (must (leb n (length (records s))) (length s)
    (record_start s n + field_start sep (record_at s n) k))

-- a refusal's number, record, field and place
abbrev pub refusal : ℕ → ℕ → ℕ → ℕ → Refusal
refusal number n k place = record { number = number; «record» = n; field = k; place = place }

-- a refusal of a file or a sheet, its fields parted by sep, at record n, field k
abbrev pub refusal_at : ℕ → List ℕ → ℕ → ℕ → ℕ → Refusal
refusal_at sep s number n k = refusal number n k (place_at sep s n k)

-- a refusal of the whole: record 0, field 0, place 0
abbrev pub whole : ℕ → Refusal
whole number = refusal number 0 0 0
