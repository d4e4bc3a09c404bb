-- What a place points at: the bytes there are the field's or the record's, and the code's two searches find it. Assumes nothing.
use Prim.Native.Nat.{ℕ, ◌+◌, ◌-◌, ◌≤◌, ◌<◌}
use mathlib.Core.Path.{◌≡◌, sym, ap, ◌∙◌}
use mathlib.Core.List.{List}
use native.Mathlib.Omega.{arith}
use lib.ListN.{length, take, drop}
use borrow.Author.Tests.{le-leb, lt-leb, eq-eqb, ne_eqb}
use Rattle.record.specs.Records.{records, fields, field, extent, IsPart}
use Rattle.record.specs.Found.{Stands}
use Rattle.record.proofs.Cutting.{part_as}
use Rattle.record.proofs.Fields.{by_number}
use Rattle.place.specs.Places.{record_at, record_start, field_start, place_at}
use Rattle.place.proofs.Counted.{counts, counts_not}
use Rattle.place.proofs.Lies.{part_at, part_in_part, record_lies, field_lies}

-- where a field starts, and where there is none
pub field_there_lem : (sep : ℕ) (r : List ℕ) (k : ℕ) → 1 ≤ k → k ≤ length (fields sep r) → field_start sep r k ≡ extent (take (k - 1) (fields sep r))
unfolding field_start
field_there_lem sep r k h g = rw (counts (length (fields sep r)) k h g)

pub no_field : (sep : ℕ) (r : List ℕ) (k : ℕ) → (1 ≤ k → length (fields sep r) < k) → field_start sep r k ≡ 0
unfolding field_start
no_field sep r k h = rw (counts_not (length (fields sep r)) k h)

module _ (sep : ℕ) (s : List ℕ) where
  -- record 0
  pub at_zero : (n k : ℕ) → n ≡ 0 → place_at sep s n k ≡ 0
  unfolding place_at
  at_zero n k e = rw (eq-eqb n 0 e)

  -- past the last record
  pub past_end : (n k : ℕ) → length (records s) < n → place_at sep s n k ≡ length s
  unfolding place_at
  past_end n k h = rw (ne_eqb n 0 (λ e. omega arith), lt-leb n (length (records s)) h)

module _ (sep : ℕ) (s : List ℕ) (n k : ℕ) (least : 1 ≤ n) (most : n ≤ length (records s)) where
  -- in a record that is there
  pub in_record : place_at sep s n k ≡ record_start s n + field_start sep (record_at s n) k
  unfolding place_at
  in_record = rw (ne_eqb n 0 (λ e. omega arith), le-leb n (length (records s)) most)

  -- the place of a field that is not there, or of field 0, holds the record's bytes
  pub record_at_place : (1 ≤ k → length (fields sep (record_at s n)) < k)
      → IsPart s (place_at sep s n k) (place_at sep s n k + length (record_at s n)) (record_at s n)
  record_at_place h =
      let e : record_start s n ≡ place_at sep s n k = omega (arith, in_record, no_field sep (record_at s n) k h) in
      part_at e (omega (arith, e)) (record_lies (n - 1) s (omega arith))

  -- the place of a field that is there holds the field's bytes
  pub field_at_place : 1 ≤ k → k ≤ length (fields sep (record_at s n))
      → IsPart s (place_at sep s n k) (place_at sep s n k + length (field sep k (record_at s n))) (field sep k (record_at s n))
  field_at_place h g =
      let r = record_at s n in
      let same = by_number sep k r h in
      let e : record_start s n + extent (take (k - 1) (fields sep r)) ≡ place_at sep s n k = omega (arith, in_record, field_there_lem sep r k h g) in
      let here = part_in_part (record_lies (n - 1) s (omega arith)) (field_lies sep (k - 1) r (omega arith)) in
      part_at e (omega (arith, e, ap length same)) (part_as here same)

-- the record that was found, and a field of it that was found or not
module _ (sep : ℕ) (s : List ℕ) (n k : ℕ) {start end : ℕ} (x : Stands (records s) s n start end) where
  abbrev r : List ℕ
  r = take (end - start) (drop start s)

  found_record : place_at sep s n k ≡ start + field_start sep r k
  found_record = in_record sep s n k x.least x.most ∙ (λ i. sym x.starts i + field_start sep (sym x.is.is i) k)

  pub found_no_field : (1 ≤ k → length (fields sep r) < k) → start ≡ place_at sep s n k
  found_no_field h = omega (arith, found_record, no_field sep r k h)

  pub found_field : {a e : ℕ} → Stands (fields sep r) r k a e → start + a ≡ place_at sep s n k
  found_field y = omega (arith, found_record, field_there_lem sep r k y.least y.most, y.starts)
