-- What the search for a record or a field by its number answers.
use Rattle.std.specs.Prelude.{ℕ, ◌-◌, ◌≤◌, ◌<◌, ◌≡◌, List, [], length, take, get_or, Option, Some, None}
use Rattle.record.specs.Records.{records, fields, extent, IsPart}
use Rattle.record.specs.declared.Span.{Span}

-- part n of the parts of s, counted from 1, is the bytes from start up to end, behind the parts before it
pub record Stands (ps : List (List ℕ)) (s : List ℕ) (n start end : ℕ) : Type 0 where
  pub least : 1 ≤ n
  pub most : n ≤ length ps
  pub starts : start ≡ extent (take (n - 1) ps)
  pub is : IsPart s start end (get_or ps (n - 1) [])

-- part n is found; or n is 0 or above the number of parts
abbrev pub PartFound : List (List ℕ) → List ℕ → ℕ → Option Span → Type 0
PartFound ps s n (Some x) = Stands ps s n x.start x.end
PartFound ps s n None = 1 ≤ n → length ps < n

-- record n of a file, and field k of a record
abbrev pub RecordFound : List ℕ → ℕ → Option Span → Type 0
RecordFound f n found = PartFound (records f) f n found

abbrev pub FieldFound : ℕ → List ℕ → ℕ → Option Span → Type 0
FieldFound sep r k found = PartFound (fields sep r) r k found
