-- The search for a part by its number: what the code's two loops keep, what it comes to, and that it has one answer.
use Prim.Native.Nat.{ℕ, ◌+◌, ◌-◌, ◌≤◌, ◌<◌}
use mathlib.Core.Path.{◌≡◌, refl, sym, ap, ◌∙◌}
use mathlib.Core.List.{List, [], ◌∷◌, ◌++◌}
use native.Mathlib.Decide.{dec_lt}
use native.Mathlib.Omega.{arith}
use lib.ListN.{length, take, drop, get_or, length-append, get_or-eq_default}
use lib.Seq.{append_snoc, take_at, get_or_at}
use Rattle.record.specs.Records.{records, fields, fields_from, field, extent, IsPart}
use Rattle.std.specs.Prelude.{Option, Some, None}
use Rattle.std.specs.Iterator.{Yields, SkipsThenYields}
use Rattle.record.specs.Step.{IsRecord, IsField, RecordYielded, FieldYielded}
use Rattle.record.specs.Found.{Stands, PartFound, RecordFound, FieldFound}
use Rattle.record.specs.declared.Span.{Span}
use Rattle.record.specs.declared.RecordSpans.{RecordSpans}
use Rattle.record.specs.declared.FieldSpans.{FieldSpans}
use Rattle.record.proofs.Cursors.{records_end, from_past, part_length}
use Rattle.record.proofs.Cutting.{part_as}
use Rattle.record.proofs.Fields.{from_start, by_number}

-- the extent with one part more
pub extent_snoc : (ps : List (List ℕ)) (p : List ℕ) → extent (ps ++ p ∷ []) ≡ extent ps + (length p + 1)
unfolding extent
extent_snoc [] p = omega arith
extent_snoc (q ∷ ps) p = omega (arith, extent_snoc ps p)

-- at a place: the parts passed and those from there on are all parts, and so many are left to pass before part n
pub record Sought (all rest : List (List ℕ)) (n at left : ℕ) : Type 0 where
  pub before : List (List ℕ)
  pub every : before ++ rest ≡ all
  pub counted : length before + left + 1 ≡ n
  pub place : 0 < length rest → at ≡ extent before

-- before the first part; and part 0 is asked
pub at_start : (all rest : List (List ℕ)) (n : ℕ) → rest ≡ all → (n ≡ 0 → ⊥) → Sought all rest n 0 (n - 1)
unfolding extent
at_start all rest n e h = record { before = []; every = e; counted = omega arith; place = λ _. refl }

pub zero_asked : (ps : List (List ℕ)) (n : ℕ) → n ≡ 0 → 1 ≤ n → length ps < n
zero_asked ps n z h = omega arith

module _ {all rest : List (List ℕ)} {n at left : ℕ} (x : Sought all rest n at left) where
  size : length all ≡ length x.before + length rest
  size = ap length (sym x.every) ∙ length-append x.before rest

  -- no parts are left
  pub none_left : rest ≡ [] → 1 ≤ n → length all < n
  none_left e h = omega (arith, size, ap length e, x.counted)

  module _ {p : List ℕ} {more : List (List ℕ)} (e : rest ≡ p ∷ more) where
    split : x.before ++ p ∷ more ≡ all
    split = ap (λ (l : List (List ℕ)). x.before ++ l) (sym e) ∙ x.every

    here_place : at ≡ extent x.before
    here_place = x.place (omega (arith, ap length e))

    -- the next part is the one sought
    pub sought_here : left ≡ 0 → {s : List ℕ} {start end : ℕ} → start ≡ at → IsPart s start end p → Stands all s n start end
    sought_here z b i =
        let k : length x.before ≡ n - 1 = omega (arith, x.counted) in
        let front = ap (take (n - 1)) (sym split) ∙ take_at x.before (p ∷ more) (n - 1) k in
        let it = ap (λ (l : List (List ℕ)). get_or l (n - 1) []) (sym split) ∙ get_or_at x.before p more [] (n - 1) k in
        record {
          least = omega (arith, x.counted);
          most = omega (arith, x.counted, size, ap length e);
          starts = b ∙ here_place ∙ sym (ap extent front);
          is = part_as i (sym it);
        }

    -- it is not, and is passed
    pub sought_later : (left ≡ 0 → ⊥) → {next : ℕ} → (0 < length more → next ≡ at + (length p + 1)) → Sought all more n next (left - 1)
    sought_later z b =
        record {
          before = x.before ++ p ∷ [];
          every = append_snoc x.before p more ∙ split;
          counted = omega (arith, x.counted, length-append x.before (p ∷ []));
          place = λ h. omega (arith, b h, here_place, extent_snoc x.before p);
        }

-- a part is itself
itself : (s : List ℕ) (a e : ℕ) → a ≤ e → e ≤ length s → IsPart s a e (take (e - a) (drop a s))
itself s a e h k = record { ordered = h; within = k; is = refl }

-- the records of a file
module _ (f : List ℕ) {n at left : ℕ} (x : Sought (records f) (records (drop at f)) n at left) {a e m : ℕ} (y : IsRecord f at a e m) where
  pub record_here : left ≡ 0 → Stands (records f) f n a e
  record_here z = sought_here x y.splits z y.starts (itself f a e y.ordered y.within)

  onward : Dec (m < length f) → 0 < length (records (drop m f)) → m ≡ at + (length (take (e - a) (drop a f)) + 1)
  onward (yes l) h = omega (arith, y.past l, y.starts, y.ordered, part_length f a e y.ordered y.within)
  onward (no l) h = absurd (omega (arith, ap length (records_end f m (omega arith))))

  pub record_later : (left ≡ 0 → ⊥) → Sought (records f) (records (drop m f)) n m (left - 1)
  record_later z = sought_later x y.splits z (onward (dec_lt m (length f)))

-- the fields of a record
module _ (sep : ℕ) (r : List ℕ) where
  pub first_field : (k : ℕ) → (k ≡ 0 → ⊥) → Sought (fields sep r) (fields_from sep 0 r) k 0 (k - 1)
  first_field k h = at_start (fields sep r) (fields_from sep 0 r) k (from_start sep r) h

  module _ {k at left : ℕ} (x : Sought (fields sep r) (fields_from sep at r) k at left) where
    pub no_field_left : length r < at → 1 ≤ k → length (fields sep r) < k
    no_field_left h = none_left x (from_past sep at r h)

    module _ {a e m : ℕ} (y : IsField sep r at a e m) where
      pub field_here : left ≡ 0 → Stands (fields sep r) r k a e
      field_here z = sought_here x y.splits z y.starts (itself r a e y.ordered y.within)

      pub field_later : (left ≡ 0 → ⊥) → Sought (fields sep r) (fields_from sep m r) k m (left - 1)
      field_later z =
          sought_later x y.splits z
          (λ _. omega (arith, y.past, y.starts, y.ordered, part_length r a e y.ordered y.within))

-- calls of next that gave so many parts lead to a place that many parts on
module _ {S : Type 0} (steps : S → Option Span → S → Type 0) (At : S → ℕ → Type 0)
    (later : (s t : S) (x : Span) (left : ℕ) → steps s (Some x) t → At s left → (left ≡ 0 → ⊥) → At t (left - 1)) where
  passed : (s t : S) (xs : List Span) (left m : ℕ) → Yields steps s xs t → m + length xs ≡ left → At s left → At t m
  passed s t [] left m y e x =
      let k : left ≡ m = omega arith in
      rw (← y, ← k) x
  passed s t (p ∷ ps) left m (j, st, ys) e x = passed j t ps (left - 1) m ys (omega arith) (later s j p left st x (omega arith))

-- the records that calls of next give from the front of a file: the part sought is found, or there is none
module _ (f : List ℕ) (n : ℕ) where
  abbrev AtRecord : RecordSpans → ℕ → Type 0
  AtRecord s left = (s.bytes.now ≡ f) × Sought (records f) (records (drop s.at f)) n s.at left

  one_record : (s t : RecordSpans) (x : Span) (left : ℕ) → RecordYielded s (Some x) t → AtRecord s left → (left ≡ 0 → ⊥) → AtRecord t (left - 1)
  one_record s t x left (same, is) (b, y) h =
      let here : IsRecord f s.at x.start x.end t.at = rw b at is in
      (same ∙ b, record_later f y here h)

  pub record_found : (s u : RecordSpans) (r : Option Span) → (n ≡ 0 → ⊥) → s.bytes.now ≡ f → s.at ≡ 0 → SkipsThenYields RecordYielded s (n - 1) r u → RecordFound f n r
  record_found s u (Some x) h b z (xs, (t, ys, (same, is)), e) =
      let start : AtRecord s (n - 1) = (b, rw z (at_start (records f) (records f) n refl h)) in
      let (c, y) : AtRecord t 0 = passed RecordYielded AtRecord one_record s t xs (n - 1) 0 ys (omega arith) start in
      let here : IsRecord f t.at x.start x.end u.at = rw c at is in
      record_here f y here refl
  record_found s u None h b z (xs, (t, ys, (same, is)), e) =
      let start : AtRecord s (n - 1) = (b, rw z (at_start (records f) (records f) n refl h)) in
      let (c, y) : AtRecord t (n - 1 - length xs) = passed RecordYielded AtRecord one_record s t xs (n - 1) (n - 1 - length xs) ys (omega arith) start in
      none_left y (rw c at is)

-- and so for the fields of a record
module _ (sep : ℕ) (r : List ℕ) (k : ℕ) where
  abbrev AtField : FieldSpans → ℕ → Type 0
  AtField s left = (s.sep ≡ sep) × (s.bytes.now ≡ r) × Sought (fields sep r) (fields_from sep s.at r) k s.at left

  one_field : (s t : FieldSpans) (x : Span) (left : ℕ) → FieldYielded s (Some x) t → AtField s left → (left ≡ 0 → ⊥) → AtField t (left - 1)
  one_field s t x left (same, bytes, is) (p, b, y) h =
      let here : IsField sep r s.at x.start x.end t.at = rw (p, b) at is in
      (same ∙ p, bytes ∙ b, field_later sep r y here h)

  pub field_found_at : (s u : FieldSpans) (x : Option Span) → (k ≡ 0 → ⊥) → s.sep ≡ sep → s.bytes.now ≡ r → s.at ≡ 0 → SkipsThenYields FieldYielded s (k - 1) x u → FieldFound sep r k x
  field_found_at s u (Some x) h p b z (xs, (t, ys, (same, bytes, is)), e) =
      let start : AtField s (k - 1) = (p, b, rw z (first_field sep r k h)) in
      let (q, c, y) : AtField t 0 = passed FieldYielded AtField one_field s t xs (k - 1) 0 ys (omega arith) start in
      let here : IsField sep r t.at x.start x.end u.at = rw (q, c) at is in
      field_here sep r y here refl
  field_found_at s u None h p b z (xs, (t, ys, (same, bytes, is)), e) =
      let start : AtField s (k - 1) = (p, b, rw z (first_field sep r k h)) in
      let (q, c, y) : AtField t (k - 1 - length xs) = passed FieldYielded AtField one_field s t xs (k - 1) (k - 1 - length xs) ys (omega arith) start in
      no_field_left sep r y (rw c at is)

-- field k where the search found it; where it found nothing the field has no bytes
module _ (sep k : ℕ) (r : List ℕ) where
  pub field_stands : {x : Span} → FieldFound sep r k (Some x) → IsPart r x.start x.end (field sep k r)
  field_stands x = part_as x.is (by_number sep k r x.least)

  absent_go : Dec (0 < k) → FieldFound sep r k None → field sep k r ≡ []
  unfolding field
  absent_go (yes l) h = sym (by_number sep k r l) ∙ get_or-eq_default (fields sep r) [] {n = k - 1} (omega (arith, h l))
  absent_go (no l) h =
      let z : k ≡ 0 = omega arith in
      rw z

  pub field_absent : FieldFound sep r k None → field sep k r ≡ []
  field_absent = absent_go (dec_lt 0 k)

-- two answers that meet the promise are one
module _ (ps : List (List ℕ)) (s : List ℕ) (n : ℕ) where
  stands_end : {a e : ℕ} → Stands ps s n a e → e ≡ extent (take (n - 1) ps) + length (get_or ps (n - 1) [])
  stands_end {a} {e} x =
      omega (arith, x.starts, x.is.ordered, ap length x.is.is, part_length s a e x.is.ordered x.is.within)

  not_both : {a e : ℕ} → Stands ps s n a e → (1 ≤ n → length ps < n) → ⊥
  not_both x h = omega (arith, x.least, x.most, h x.least)

  pub one_found : (x y : Option Span) → PartFound ps s n x → PartFound ps s n y → x ≡ y
  one_found (Some x) (Some y) p q = λ i. Some (record { start = (p.starts ∙ sym q.starts) i; end = (stands_end p ∙ sym (stands_end q)) i })
  one_found (Some x) None p q = absurd (not_both p q)
  one_found None (Some y) p q = absurd (not_both q p)
  one_found None None p q = refl
