-- What a step of a cursor answers.
use Rattle.std.specs.Prelude.{ℕ, ◌≤◌, ◌<◌, ◌-◌, ◌+◌, ◌≡◌, List, [], ◌∷◌, length, take, drop, Option, Some, None}
use Rattle.record.specs.Records.{records, fields_from}
use Rattle.record.specs.declared.Span.{Span}
use Rattle.record.specs.declared.Cursor.{Cursor}
use Rattle.record.specs.declared.FieldCursor.{FieldCursor}
use Rattle.record.specs.declared.RecordSpans.{RecordSpans}
use Rattle.record.specs.declared.FieldSpans.{FieldSpans}

-- of the records from at on, the first is the bytes from a up to e, and the others are the records from n on
pub record IsRecord (s : List ℕ) (at a e n : ℕ) : Type 0 where
  pub starts : a ≡ at
  pub ordered : a ≤ e
  pub within : e ≤ length s
  pub onward : at < n
  pub next_within : n ≤ length s
  pub past : n < length s → n ≡ e + 1
  pub splits : records (drop at s) ≡ take (e - a) (drop a s) ∷ records (drop n s)

-- a step gives the next record and the cursor moved past it, and none where there is none
abbrev pub Stepped : List ℕ → ℕ → Option (Span × Cursor) → Type 0
Stepped s at (Some (x, moved)) = IsRecord s at x.start x.end moved.at
Stepped s at None = records (drop at s) ≡ []

-- a call of next gives the record of such a step and leaves those behind it
abbrev pub RecordYielded : RecordSpans → Option Span → RecordSpans → Type 0
RecordYielded s (Some x) t = (t.bytes.now ≡ s.bytes.now) × IsRecord s.bytes.now s.at x.start x.end t.at
RecordYielded s None t = (t.bytes.now ≡ s.bytes.now) × (records (drop s.at s.bytes.now) ≡ [])

-- of the fields of r from at on, the first is the bytes from a up to e, and the others are the fields from n on
pub record IsField (sep : ℕ) (r : List ℕ) (at a e n : ℕ) : Type 0 where
  pub starts : a ≡ at
  pub ordered : a ≤ e
  pub within : e ≤ length r
  pub past : n ≡ e + 1
  pub splits : fields_from sep at r ≡ take (e - a) (drop a r) ∷ fields_from sep n r

-- a step gives the next field and the cursor moved past it, and none where the record has ended
abbrev pub FieldStepped : ℕ → List ℕ → ℕ → Option (Span × FieldCursor) → Type 0
FieldStepped sep r at (Some (x, moved)) = IsField sep r at x.start x.end moved.at
FieldStepped sep r at None = length r < at

-- a call of next gives the field of such a step and leaves those behind it
abbrev pub FieldYielded : FieldSpans → Option Span → FieldSpans → Type 0
FieldYielded s (Some x) t = (t.sep ≡ s.sep) × (t.bytes.now ≡ s.bytes.now) × IsField s.sep s.bytes.now s.at x.start x.end t.at
FieldYielded s None t = (t.sep ≡ s.sep) × (t.bytes.now ≡ s.bytes.now) × (length s.bytes.now < s.at)
