-- Records and fields stand where their extents say, within the bytes they were cut from. Assumes nothing.
use Prim.Native.Nat.{ℕ, zero, suc, ◌+◌, ◌-◌, ◌≤◌, ◌<◌}
use mathlib.Core.Path.{◌≡◌, sym, ap, subst, ◌∙◌}
use mathlib.Core.List.{List, [], ◌∷◌}
use native.Mathlib.Decide.{dec_lt}
use native.Mathlib.Omega.{arith}
use lib.ListN.{length, take, drop, get_or, length-take, length-drop}
use lib.Seq.{drop-drop, take-take, take-nil, take-length}
use Rattle.record.specs.Records.{records, fields, run, extent, IsPart}
use Rattle.record.proofs.Runs.{run_le, records_first, fields_last, fields_more}
use Rattle.record.proofs.Cutting.{records_le, part_within}

-- what is cut off in front of a part
drop_take : (a n : ℕ) (s : List ℕ) → drop a (take n s) ≡ take (n - a) (drop a s)
drop_take zero n s =
    let q : n - 0 ≡ n = omega arith in
    rw q
drop_take (suc a) zero s =
    let q : 0 - suc a ≡ 0 = omega arith in
    rw q
drop_take (suc a) (suc n) [] = sym (take-nil (suc n - suc a))
drop_take (suc a) (suc n) (x ∷ s) =
    let q : suc n - suc a ≡ n - a = omega arith in
    rw q (drop_take a n s)

pub take_short : (n : ℕ) (s : List ℕ) → length (take n s) ≤ n
take_short n s = omega (arith, length-take n s)

-- a part of a record is a part of the file
pub inner : (f : List ℕ) (start end from to : ℕ) (p : List ℕ) → IsPart (take (end - start) (drop start f)) from to p
    → take (to - from) (drop (start + from) f) ≡ p
inner f start end from to p h =
    let m : length (take (end - start) (drop start f)) ≤ end - start = take_short (end - start) (drop start f) in
    let w : to - from ≤ end - start - from = omega (arith, h.ordered, h.within) in
    rw (← drop-drop from start f)
    (sym (take-take (to - from) (end - start - from) (drop from (drop start f)) w)
    ∙ ap (take (to - from)) (sym (drop_take from (end - start) (drop start f))) ∙ h.is)

-- the same part by equal places
pub part_at : {s p : List ℕ} {a e b c : ℕ} → a ≡ b → e ≡ c → IsPart s a e p → IsPart s b c p
part_at {s} x y i =
    record {
      ordered = omega (arith, x, y, i.ordered);
      within = omega (arith, y, i.within);
      is = (λ j. take (sym y j - sym x j) (drop (sym x j) s)) ∙ i.is;
    }

-- a part of a part
pub part_in_part : {s r p : List ℕ} {a e b c : ℕ} → IsPart s a e r → IsPart r b c p → IsPart s (a + b) (a + c) p
part_in_part {s} {r} {p} {a} {e} {b} {c} x y =
    let z : (a + c) - (a + b) ≡ c - b = omega (arith, y.ordered) in
    record {
      ordered = omega (arith, y.ordered);
      within = omega (arith, x.ordered, x.within, y.within, ap length (sym x.is), length-take (e - a) (drop a s), length-drop a s);
      is = rw z (inner s a e b c p (subst (λ (l : List ℕ). IsPart l b c p) (sym x.is) y));
    }

-- of the parts of s, the one with k before it stands behind them
abbrev pub Lies : List (List ℕ) → List ℕ → ℕ → Type 0
Lies ps s k = IsPart s (extent (take k ps)) (extent (take k ps) + length (get_or ps k [])) (get_or ps k [])

-- the first m bytes are the first part, and the others are the parts behind them and the byte that ends them
module _ {ps qs : List (List ℕ)} (s : List ℕ) (m : ℕ) (e : ps ≡ take m s ∷ qs) (h : m ≤ length s) where
  first_lies : Lies ps s 0
  unfolding extent
  first_lies =
      let z : length (take m s) ≡ m = omega (arith, length-take m s) in
      let w : 0 + length (take m s) - 0 ≡ m = omega arith in
      subst (λ (l : List (List ℕ)). Lies l s 0) (sym e) (record { ordered = omega arith; within = omega arith; is = rw w })

  later_lies : (k : ℕ) → m < length s → Lies qs (drop (suc m) s) k → Lies ps s (suc k)
  unfolding extent
  later_lies k l i =
      let z : length (take m s) ≡ m = omega (arith, length-take m s) in
      subst (λ (l : List (List ℕ)). Lies l s (suc k)) (sym e) (part_at (omega arith) (omega arith) (part_within s (suc m) _ _ _ l i))

-- each record of a file
pub record_lies : (k : ℕ) (s : List ℕ) → k < length (records s) → Lies (records s) s k
record_lies zero s h = first_lies s (run 0x0A s) (records_first s (omega (arith, records_le s))) (run_le 0x0A s)
record_lies (suc k) s h =
    let m = run 0x0A s in
    let first = records_first s (omega (arith, records_le s)) in
    let more : k < length (records (drop (suc m) s)) = omega (arith, ap length first) in
    later_lies s m first (run_le 0x0A s) k (omega (arith, records_le (drop (suc m) s), length-drop (suc m) s)) (record_lies k (drop (suc m) s) more)

-- each field of a record: the first, and another where a separator is left
last_field : (sep : ℕ) (r : List ℕ) → length r ≤ run sep r → fields sep r ≡ take (length r) r ∷ []
last_field sep r h = fields_last sep r h ∙ ap (λ (l : List ℕ). l ∷ []) (sym (take-length r))

first_field_lies : (sep : ℕ) (r : List ℕ) → Dec (run sep r < length r) → Lies (fields sep r) r 0
first_field_lies sep r (yes l) = first_lies r (run sep r) (fields_more sep r l) (run_le sep r)
first_field_lies sep r (no l) = first_lies r (length r) (last_field sep r (omega arith)) (omega arith)

later_field_lies : (sep k : ℕ) (r : List ℕ) → ((q : List ℕ) → k < length (fields sep q) → Lies (fields sep q) q k)
    → suc k < length (fields sep r) → Dec (run sep r < length r) → Lies (fields sep r) r (suc k)
later_field_lies sep k r ih h (yes l) =
    let m = run sep r in
    let more = fields_more sep r l in
    later_lies r m more (run_le sep r) k l (ih (drop (suc m) r) (omega (arith, ap length more)))
later_field_lies sep k r ih h (no l) = absurd (omega (arith, ap length (last_field sep r (omega arith))))

pub field_lies : (sep k : ℕ) (r : List ℕ) → k < length (fields sep r) → Lies (fields sep r) r k
field_lies sep zero r h = first_field_lies sep r (dec_lt (run sep r) (length r))
field_lies sep (suc k) r h = later_field_lies sep k r (field_lies sep k) h (dec_lt (run sep r) (length r))
