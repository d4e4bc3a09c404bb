-- A place in a record that is there lies within it, or right behind it. Assumes nothing.
use Prim.Native.Nat.{ℕ, ◌-◌, ◌≤◌, ◌<◌}
use mathlib.Core.Path.{◌≡◌, ap}
use mathlib.Core.List.{List}
use native.Mathlib.Decide.{dec_lt}
use native.Mathlib.Omega.{arith}
use lib.ListN.{length}
use Rattle.record.specs.Records.{records, fields}
use Rattle.record.specs.Found.{Stands}
use Rattle.record.proofs.Cursors.{part_length}
use Rattle.place.specs.Places.{record_at, field_start, place_at}
use Rattle.place.proofs.Lies.{field_lies}
use Rattle.place.proofs.Points.{field_there_lem, no_field, in_record}

-- a field starts within its record
field_within : (sep : ℕ) (r : List ℕ) (k : ℕ) → field_start sep r k ≤ length r
field_within sep r k = by (dec_lt 0 k) (dec_lt (length (fields sep r)) k)
  where
    by : Dec (0 < k) → Dec (length (fields sep r) < k) → field_start sep r k ≤ length r
    by (no z) m = omega (arith, no_field sep r k (λ h. absurd (omega arith)))
    by (yes z) (yes m) = omega (arith, no_field sep r k (λ h. m))
    by (yes z) (no m) =
        let here = field_lies sep (k - 1) r (omega arith) in
        omega (arith, field_there_lem sep r k (omega arith) (omega arith), here.ordered, here.within)

-- so does its place, in a record that was found
module _ (sep : ℕ) (s : List ℕ) (n k : ℕ) {start end : ℕ} (x : Stands (records s) s n start end) where
  length_found : length (record_at s n) ≡ end - start
  length_found = omega (arith, ap length x.is.is, part_length s start end x.is.ordered x.is.within)

  pub place_inside : (start ≤ place_at sep s n k) × (place_at sep s n k ≤ end)
  place_inside =
      let e = in_record sep s n k x.least x.most in
      (omega (arith, e, x.starts), omega (arith, e, x.starts, x.is.ordered, length_found, field_within sep (record_at s n) k))
