-- Bytes taken one after the other: what is left to take, taken, is the whole taken. Assumes nothing.
use Prim.Native.Nat.{ℕ, ◌+◌, ◌-◌, ◌≤◌, ◌<◌}
use mathlib.Core.Path.{◌≡◌}
use mathlib.Core.List.{List, [], ◌∷◌, ◌++◌}
use native.Mathlib.Omega.{arith}
use lib.ListN.{length, take, drop, length-append}
use Rattle.record.specs.Records.{fields, fields_from, bar}
use Rattle.record.specs.Step.{IsRecord, IsField}
use Rattle.rfc4180.specs.Rfc.{comma, return, feed}
use Rattle.csv_text.specs.Export.{field_of, line_of}
use Rattle.csv_text.specs.Code.{SinkLaws}
use Rattle.csv_text.proofs.Lines.{text_from, at_record_lem, at_last, at_more, size_least}

-- once the rest is taken too, the whole is taken from the first state on
pub record Left {S : Type 0} (has_room : S → ℕ → Type 0) (took : S → List ℕ → S → Type 0) (first : S) (whole : List ℕ) (now : S) (rest : List ℕ) : Type 0 where
  pub ends : (t : S) → took now rest t → took first whole t
  pub fits : has_room now (length rest)

module _ {S : Type 0} {has_room : S → ℕ → Type 0} {took : S → List ℕ → S → Type 0} where
  pub left_all : (first : S) (whole : List ℕ) → has_room first (length whole) → Left has_room took first whole first whole
  left_all first whole h = record { ends = λ t k. k; fits = h }

  module _ {first now : S} {whole : List ℕ} where
    -- what is left, by another name
    pub left_as : {rest rest' : List ℕ} → Left has_room took first whole now rest → rest ≡ rest' → Left has_room took first whole now rest'
    left_as l q = rw q at l

  module _ (laws : SinkLaws has_room took) {first now : S} {whole : List ℕ} where
    -- room for what is taken next
    pub left_room : (x y : List ℕ) → Left has_room took first whole now (x ++ y) → has_room now (length x)
    left_room x y l = laws.fewer now (length x) (length (x ++ y)) (omega (arith, length-append x y)) l.fits

    pub left_byte : {b : ℕ} {y : List ℕ} → Left has_room took first whole now (b ∷ y) → has_room now 1
    left_byte {b} {y} l = laws.fewer now 1 (length (b ∷ y)) (omega arith) l.fits

    -- a part taken
    pub left_part : {next : S} (x y : List ℕ) → Left has_room took first whole now (x ++ y) → took now x next → Left has_room took first whole next y
    left_part {next} x y l p =
        let both : has_room now (length x + length y) = rw (length-append x y) at l.fits in
        record {
          ends = λ t k. l.ends t (laws.joins now next t x y both p k);
          fits = laws.leaves now next x (length y) both p;
        }

    -- one byte taken
    pub left_next : {next : S} {b : ℕ} {y : List ℕ} → Left has_room took first whole now (b ∷ y) → took now (b ∷ []) next → Left has_room took first whole next y
    left_next {b} {y} l p = left_part (b ∷ []) y l p

    -- a record's line taken, its end is next
    pub left_line : {next : S} {s : List ℕ} {at a b n : ℕ} → Left has_room took first whole now (text_from s at) → IsRecord s at a b n
        → took now (line_of (fields bar (take (b - a) (drop a s)))) next → Left has_room took first whole next (return ∷ feed ∷ text_from s n)
    left_line {s} {at} {a} {b} {n} l x p =
        left_part (line_of (fields bar (take (b - a) (drop a s)))) (return ∷ feed ∷ text_from s n) (left_as l (at_record_lem s at x)) p

    -- room for the bytes of a record, and for those of a field
    pub room_line : {s r : List ℕ} {at a b n : ℕ} → Left has_room took first whole now (text_from s at) → IsRecord s at a b n
        → r ≡ take (b - a) (drop a s) → has_room now (length (line_of (fields bar r)))
    room_line {s} {r} {n = n} l x e =
        left_room (line_of (fields bar r)) (return ∷ feed ∷ text_from s n) (rw e (left_as l (at_record_lem s _ x)))

    pub room_field : {r y : List ℕ} {at a b n : ℕ} → Left has_room took first whole now (line_of (fields_from bar at r)) → IsField bar r at a b n
        → y ≡ take (b - a) (drop a r) → has_room now (length (field_of y))
    room_field {r} l x e = rw e (laws.fewer now _ _ (size_least r _ x) l.fits)

    -- a field taken that is not the last, a comma is next
    pub left_field : {next : S} {r : List ℕ} {at a b n : ℕ} → Left has_room took first whole now (line_of (fields_from bar at r)) → IsField bar r at a b n → b < length r
        → took now (field_of (take (b - a) (drop a r))) next → Left has_room took first whole next (comma ∷ line_of (fields_from bar n r))
    left_field {r} {at} {a} {b} {n} l x h p =
        left_part (field_of (take (b - a) (drop a r))) (comma ∷ line_of (fields_from bar n r)) (left_as l (at_more r at x h)) p

    -- the last field taken, nothing is next
    pub left_last_field : {next : S} {r : List ℕ} {at a b n : ℕ} → Left has_room took first whole now (line_of (fields_from bar at r)) → IsField bar r at a b n → length r ≤ b
        → took now (field_of (take (b - a) (drop a r))) next → Left has_room took first whole next (line_of (fields_from bar n r))
    left_last_field {r} {at} {a} {b} {n} l x h p =
        left_part (field_of (take (b - a) (drop a r))) (line_of (fields_from bar n r)) (left_as l (at_last r at x h)) p

  -- nothing left
  pub left_none : (laws : SinkLaws has_room took) {first now : S} {whole : List ℕ} → Left has_room took first whole now [] → took first whole now
  left_none laws {now = now} l = l.ends now (laws.none now)
