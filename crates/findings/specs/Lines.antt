-- What is found in a file or a sheet where it is refused; its fields are parted by the byte sep. Assumes nothing.
use Rattle.std.specs.Prelude.{ℕ, ◌-◌, Bool, cond, eqb, take}
use mathlib.Core.List.{List, [], foldl}
use Rattle.record.specs.Records.{records, field}
use Rattle.layout.specs.Layout.{Layout, is_footer}
use Rattle.fault.specs.Record.{kind_of}

-- line n of a sheet is a ZPT line
abbrev pub footer_line : ℕ → Layout → List ℕ → ℕ → Bool
footer_line sep l sheet n = is_footer l (kind_of sep l (field 10 n sheet))

-- the last record of kind k, with one record more
abbrev pub with_one : ℕ → Layout → ℕ → List ℕ → List ℕ → List ℕ
with_one sep l k last r = cond (eqb (kind_of sep l r) k) r last

-- the last of some records that is of kind k; no bytes where there is none
unfoldable pub last_of_kind : ℕ → Layout → ℕ → List (List ℕ) → List ℕ
last_of_kind sep l k rs = foldl (with_one sep l k) [] rs

-- the records before record n
abbrev pub records_before : List ℕ → ℕ → List (List ℕ)
records_before f n = take (n - 1) (records f)
