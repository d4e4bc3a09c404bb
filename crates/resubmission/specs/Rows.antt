-- The CM1 records of a subject and a GSP Group in a P0133001 file (document 02, C-18). Assumes nothing.
use Rattle.std.specs.Prelude.{ℕ, zero, suc, ◌+◌, Bool, true, false, cond, ◌&&◌, List, [], ◌∷◌, ◌++◌, length, get_or}
use Rattle.text.specs.Order.{same_bytes}
use Rattle.record.specs.Records.{records, field, extent, bar}
use Rattle.field.specs.Judge.{Marked, bare, opt, fixed}
use Rattle.layout.specs.Layout.{Rule}
use Rattle.flow.specs.Letters.{SB1, CM1}
use Rattle.flow.specs.Publication.{Flow}
use Rattle.judge.specs.Right.{kind_in, published_as}

-- what is asked for: a subject's participant id and period end date, and a GSP Group; no bytes count as a group too
pub record Pair : Type 0 where
  pub id : List ℕ
  pub date : List ℕ
  pub group : List ℕ

abbrev pub pair : List ℕ → List ℕ → List ℕ → Pair
pair id date group = record { id = id; date = date; group = group }

-- a field's value is not fixed
abbrev pub is_free : Marked → Bool
is_free bare = true
is_free opt = true
is_free (fixed value) = false

-- the number of the first field, from field k on, that is not fixed; 0 where each is
unfoldable pub first_free : ℕ → List Rule → ℕ
first_free k [] = 0
first_free k (r ∷ rs) = cond (is_free r.mark) k (first_free (suc k) rs)

-- of an SB1 only the id and, right behind it, the date are not fixed: so the SB1 of an edition says which fields they are
unfoldable pub id_field : Flow → ℕ
id_field flow = first_free 2 (published_as flow.kinds SB1).fields

unfoldable pub date_field : Flow → ℕ
date_field flow = id_field flow + 1

-- an SB1
abbrev pub is_sb1 : List ℕ → Bool
is_sb1 r = same_bytes SB1 (kind_in r)

-- an SB1 with this id and date
abbrev pub is_subject : Flow → List ℕ → List ℕ → List ℕ → Bool
is_subject flow id date r = is_sb1 r && (same_bytes id (field bar (id_field flow) r) && same_bytes date (field bar (date_field flow) r))

-- a CM1 with this group
abbrev pub is_of_group : List ℕ → List ℕ → Bool
is_of_group group r = same_bytes CM1 (kind_in r) && same_bytes group (field bar 2 r)

-- the last SB1 of some records; where there is none, s
unfoldable pub last_sb1 : List ℕ → List (List ℕ) → List ℕ
last_sb1 s [] = s
last_sb1 s (r ∷ rs) = last_sb1 (cond (is_sb1 r) r s) rs

-- the last SB1 of some records is the subject's
abbrev pub under_subject : Flow → Pair → List (List ℕ) → Bool
under_subject flow p before = is_subject flow p.id p.date (last_sb1 [] before)

-- a record of the file, and its first byte there
pub record Row : Type 0 where
  pub start : ℕ
  pub bytes : List ℕ

abbrev pub row : ℕ → List ℕ → Row
row start bytes = record { start = start; bytes = bytes }

-- the end of a row, without its line feed
abbrev pub end_of : Row → ℕ
end_of r = r.start + length r.bytes

-- the CM1 of the group among some records that stand under the subject, in the file's order; the records before them given
unfoldable pub rows_from : Flow → Pair → List (List ℕ) → List (List ℕ) → List Row
rows_from flow p before [] = []
rows_from flow p before (r ∷ rs) =
    cond (under_subject flow p before && is_of_group p.group r) (row (extent before) r ∷ rows_from flow p (before ++ r ∷ []) rs)
    (rows_from flow p (before ++ r ∷ []) rs)

-- those of a file
abbrev pub rows_in : Flow → Pair → List ℕ → List Row
rows_in flow p f = rows_from flow p [] (records f)

-- row n of some, counted from 1; no bytes at 0 where there is none
unfoldable pub row_at : List Row → ℕ → Row
row_at rows zero = row 0 []
row_at rows (suc i) = get_or rows i (row 0 [])
