-- Laws of lines and of their text, field by field and record by record; and how long a text is at most. Assumes nothing.
use Prim.Native.Nat.{ℕ, ◌+◌, ◌*◌, ◌-◌, ◌≤◌, ◌<◌}
use mathlib.Core.Path.{◌≡◌, refl, ap, ap₂, ◌∙◌}
use mathlib.Core.Bool.{Bool, true, false, cond}
use mathlib.Core.List.{List, [], ◌∷◌, ◌++◌, map, append-nil}
use native.Mathlib.Decide.{dec_lt}
use native.Mathlib.Omega.{arith}
use lib.Dec.{eqb}
use lib.ListN.{length, take, drop, length-append}
use Rattle.record.specs.Records.{onto, records, fields, fields_from, turned, holds, some_holds, bar}
use Rattle.record.specs.Step.{IsRecord, IsField}
use Rattle.record.proofs.Cursors.{from_within, from_past}
use Rattle.record.proofs.Cutting.{neither}
use Rattle.record.proofs.Runs.{fields_some}
use Rattle.record.proofs.Turned.{turned_length}
use Rattle.sheet.specs.Sheets.{parted}
use Rattle.sheet.proofs.Holding.{fields_hold}
use Rattle.sheet.proofs.AcceptedFiles.{parted_turned}
use Rattle.rfc4180.specs.Rfc.{comma, quote, return, feed}
use Rattle.csv_text.specs.Export.{quoted, field_of, line_of, text_of, rows_of}
use Rattle.csv_text.proofs.Doubling.{field_le, field_plain}

pub line_more : (x : List ℕ) (xs : List (List ℕ)) → 0 < length xs → line_of (x ∷ xs) ≡ field_of x ++ comma ∷ line_of xs
unfolding parted
line_more x [] h = absurd (omega arith)
line_more x (y ∷ xs) h = refl

-- a record without comma and quotation mark has no field to quote
none_quoted : (xs : List (List ℕ)) → some_holds comma xs ≡ false → some_holds quote xs ≡ false → map field_of xs ≡ xs
unfolding some_holds
none_quoted [] c q = refl
none_quoted (x ∷ xs) c q =
    let p = neither (holds comma x) (some_holds comma xs) c in
    let r = neither (holds quote x) (some_holds quote xs) q in
    ap₂ ◌∷◌ (field_plain x (rw p.0 r.0)) (none_quoted xs p.1 r.1)

pub line_plain : (r : List ℕ) → quoted r ≡ false → line_of (fields bar r) ≡ turned bar comma r
line_plain r h =
    let n = neither (holds comma r) (holds quote r) h in
    ap (parted comma) (none_quoted (fields bar r) (fields_hold comma bar r (λ e. omega arith) ∙ n.0) (fields_hold quote bar r (λ e. omega arith) ∙ n.1))
    ∙ parted_turned bar comma r

pub size_plain : (r : List ℕ) → quoted r ≡ false → length (line_of (fields bar r)) ≡ length r
size_plain r h = ap length (line_plain r h) ∙ turned_length bar comma r

-- at a field that a step found
module _ (r : List ℕ) (at : ℕ) {a e n : ℕ} (x : IsField bar r at a e n) where
  abbrev pub part : List ℕ
  part = take (e - a) (drop a r)

  pub at_last : length r ≤ e → line_of (fields_from bar at r) ≡ field_of part ++ line_of (fields_from bar n r)
  unfolding parted
  at_last h =
      let none = from_past bar n r (omega (arith, x.past)) in
      ap line_of (x.splits ∙ ap (λ (l : List (List ℕ)). part ∷ l) none) ∙ rw (none, append-nil (field_of part))

  pub at_more : e < length r → line_of (fields_from bar at r) ≡ field_of part ++ comma ∷ line_of (fields_from bar n r)
  at_more h =
      let some : 0 < length (fields_from bar n r) = rw (from_within bar n r (omega (arith, x.past))) (fields_some bar (drop n r)) in
      ap line_of x.splits ∙ line_more part (fields_from bar n r) some

-- behind the last field
pub line_ended : (r : List ℕ) (at : ℕ) → length r < at → line_of (fields_from bar at r) ≡ []
unfolding parted
line_ended r at h = ap line_of (from_past bar at r h)

-- at a record that a step found
abbrev pub text_from : List ℕ → ℕ → List ℕ
text_from s at = text_of (rows_of (records (drop at s)))

module _ (s : List ℕ) (at : ℕ) {a e n : ℕ} (x : IsRecord s at a e n) where
  pub at_record_lem : text_from s at ≡ line_of (fields bar (take (e - a) (drop a s))) ++ return ∷ feed ∷ text_from s n
  unfolding text_of
  at_record_lem = ap (λ (rs : List (List ℕ)). text_of (rows_of rs)) x.splits

pub at_end_lem : (s : List ℕ) (at : ℕ) → records (drop at s) ≡ [] → text_from s at ≡ []
unfolding text_of
at_end_lem s at e = ap (λ (rs : List (List ℕ)). text_of (rows_of rs)) e

-- how long
weight : List (List ℕ) → ℕ
weight [] = 0
weight (x ∷ xs) = length x + length x + 3 + weight xs

line_le : (xs : List (List ℕ)) → length (line_of xs) ≤ weight xs
unfolding parted weight
line_le [] = omega arith
line_le (x ∷ []) = omega (arith, field_le x)
line_le (x ∷ y ∷ xs) = omega (arith, field_le x, line_le (y ∷ xs), length-append (field_of x) (comma ∷ line_of (y ∷ xs)))

weight_go : (b n : ℕ) (ps : List (List ℕ)) (t : Bool) → weight ps ≤ n → 0 < length ps → weight (cond t ([] ∷ ps) (onto b ps)) ≤ n + 3
unfolding weight onto
weight_go b n ps true h k = omega arith
weight_go b n [] false h k = absurd (omega arith)
weight_go b n (p ∷ ps) false h k = omega arith

fields_weight : (sep : ℕ) (r : List ℕ) → weight (fields sep r) ≤ 3 * length r + 3
unfolding weight fields
fields_weight sep [] = omega arith
fields_weight sep (b ∷ s) = omega (arith, weight_go b (3 * length s + 3) (fields sep s) (eqb b sep) (fields_weight sep s) (fields_some sep s))

load : List (List ℕ) → ℕ
load [] = 0
load (r ∷ rs) = 3 * length r + 5 + load rs

text_le : (rs : List (List ℕ)) → length (text_of (rows_of rs)) ≤ load rs
unfolding text_of load
text_le [] = omega arith
text_le (r ∷ rs) =
    omega (
      arith,
      fields_weight bar r,
      line_le (fields bar r),
      text_le rs,
      length-append (line_of (fields bar r)) (return ∷ feed ∷ text_of (rows_of rs)),
    )

load_go : (b n : ℕ) (ps : List (List ℕ)) (t : Bool) → load ps ≤ n → load (cond t ([] ∷ ps) (onto b ps)) ≤ n + 8
unfolding load onto
load_go b n ps true h = omega arith
load_go b n [] false h = omega arith
load_go b n (p ∷ ps) false h = omega arith

records_load : (s : List ℕ) → load (records s) ≤ 8 * length s
unfolding load records
records_load [] = omega arith
records_load (b ∷ s) = omega (arith, load_go b (8 * length s) (records s) (eqb b 0x0A) (records_load s))

pub text_short : (s : List ℕ) → length (text_of (rows_of (records s))) ≤ 8 * length s
text_short s = omega (arith, text_le (records s), records_load s)

-- sizes
module _ (r : List ℕ) (at : ℕ) {a e n : ℕ} (x : IsField bar r at a e n) where
  pub size_last : length r ≤ e → length (line_of (fields_from bar at r)) ≡ length (field_of (take (e - a) (drop a r))) + length (line_of (fields_from bar n r))
  size_last h = ap length (at_last r at x h) ∙ length-append (field_of (take (e - a) (drop a r))) (line_of (fields_from bar n r))

  pub size_more : e < length r
      → length (line_of (fields_from bar at r)) ≡ length (field_of (take (e - a) (drop a r))) + 1 + length (line_of (fields_from bar n r))
  size_more h =
      omega (arith, ap length (at_more r at x h), length-append (field_of (take (e - a) (drop a r))) (comma ∷ line_of (fields_from bar n r)))

  least_go : Dec (e < length r) → length (field_of (take (e - a) (drop a r))) ≤ length (line_of (fields_from bar at r))
  least_go (yes h) = omega (arith, size_more h)
  least_go (no h) = omega (arith, size_last (omega arith))

  pub size_least : length (field_of (take (e - a) (drop a r))) ≤ length (line_of (fields_from bar at r))
  size_least = least_go (dec_lt e (length r))
