-- What is wrong with one record, given the records before it (document 01, refusals 3 to 13). Fields are parted by the byte sep,
-- a bar in a file. Assumes nothing.
use Rattle.std.specs.Prelude.{ℕ, cond, eqb, leb, length}
use mathlib.Core.List.{List, [], ◌∷◌, foldl, map}
use Rattle.text.specs.Rules.{must}
use Rattle.record.specs.Records.{barred}
use Rattle.checksum.specs.Checksum.{checksum}
use Rattle.layout.specs.Layout.{Layout, row}
use Rattle.fault.specs.Fields.{Check, fault as wrong}
use Rattle.fault.specs.Record.{kind_of, key_in, kind_fault}

-- the kind of the last of some records, 0 where there is none
unfoldable pub last_kind : ℕ → Layout → List (List ℕ) → ℕ
last_kind sep l [] = 0
last_kind sep l (r ∷ []) = kind_of sep l r
last_kind sep l (r ∷ q ∷ rs) = last_kind sep l (q ∷ rs)

-- the last key of kind k with one record more: a record that heads its set starts it anew, one of kind k has it
unfoldable pub key_with : ℕ → Layout → ℕ → List ℕ → List ℕ → List ℕ
key_with sep l k old r = cond (eqb (kind_of sep l r) (row l k).head) [] (cond (eqb (kind_of sep l r) k) (key_in sep l k r) old)

-- the last key of kind k since its set began; no bytes where there is none
unfoldable pub key_before : ℕ → Layout → List (List ℕ) → ℕ → List ℕ
key_before sep l before k = foldl (key_with sep l k) [] before

-- the checksum of the records before, their fields parted by bars
abbrev pub sum_of : ℕ → List (List ℕ) → ℕ
sum_of sep before = checksum (map (barred sep) before)

-- the first fault of a record that stands after these records
unfoldable pub fault : ℕ → Layout → List (List ℕ) → List ℕ → Check
fault sep l before r =
    must (leb (length r) 512) (wrong 3 0)
    (kind_fault sep l (length before) (last_kind sep l before) (sum_of sep before) (key_before sep l before (kind_of sep l r)) (kind_of sep l r) r)
