-- Laws of a record's fields, from its start, from a place on, and by number.
use Prim.Native.Nat.{ℕ, zero, suc, ◌+◌, ◌-◌, ◌≤◌, ◌<◌}
use mathlib.Core.Path.{◌≡◌, refl, sym}
use mathlib.Core.List.{List, []}
use native.Mathlib.Decide.{dec_lt}
use native.Mathlib.Omega.{arith}
use lib.ListN.{length, drop, get_or}
use Rattle.record.specs.Records.{fields, fields_from, field, run}
use Rattle.record.specs.Step.{IsRecord, IsField}
use Rattle.record.proofs.Cursors.{from_within, record_mid, record_last, field_found, record_same_end, field_same_end}

-- from the start on, all fields
pub from_start : (sep : ℕ) (r : List ℕ) → fields_from sep 0 r ≡ fields sep r
from_start sep r = from_within sep 0 r (omega arith)

-- a field by its number, counted from 1
pub field_number : (sep k : ℕ) (r : List ℕ) → field sep (suc k) r ≡ get_or (fields sep r) k []
unfolding field
field_number sep k r = refl

-- the same among all fields
pub by_number : (sep k : ℕ) (r : List ℕ) → 1 ≤ k → get_or (fields sep r) (k - 1) [] ≡ field sep k r
by_number sep zero r h = absurd (omega arith)
by_number sep (suc k) r h =
    let z : suc k - 1 ≡ k = omega arith in
    rw z (sym (field_number sep k r))

-- where the record that a step gives ends, and the field
module _ (s : List ℕ) (at : ℕ) {a e n : ℕ} (x : IsRecord s at a e n) where
  abbrev end : ℕ
  end = at + run 0x0A (drop at s)

  inside : at < length s
  inside = omega (arith, x.onward, x.next_within)

  ends_go : Dec (end < length s) → e ≡ end
  ends_go (yes h) = record_same_end s at x (record_mid s at end inside refl h)
  ends_go (no h) = record_same_end s at x (record_last s at end inside refl (omega arith))

  pub record_ends : e ≡ at + run 0x0A (drop at s)
  record_ends = ends_go (dec_lt end (length s))

pub field_ends : (sep : ℕ) (r : List ℕ) (at : ℕ) {a e n : ℕ} → IsField sep r at a e n → e ≡ at + run sep (drop at r)
field_ends sep r at x =
    let inside : at ≤ length r = omega (arith, x.starts, x.ordered, x.within) in
    field_same_end sep r at x (field_found sep r at (at + run sep (drop at r)) inside refl)
