-- What the steps of the cursors answer is what their contracts say.
use Prim.Native.Nat.{ℕ, suc, ◌+◌, ◌-◌, ◌≤◌, ◌<◌}
use mathlib.Core.Path.{◌≡◌, refl, sym, ap, ◌∙◌}
use mathlib.Core.List.{List, [], ◌∷◌}
use native.Mathlib.Decide.{dec_lt}
use native.Mathlib.Omega.{arith}
use lib.ListN.{length, take, drop, length-take, length-drop, drop_of_length-le}
use lib.Seq.{drop-drop, take_all}
use borrow.Author.Tests.{le-leb, lt-leb}
use Rattle.record.specs.Records.{records, fields, fields_from, run}
use Rattle.std.specs.Prelude.{Option, Some, None}
use Rattle.record.specs.Step.{IsRecord, IsField, Stepped, FieldStepped}
use Rattle.record.specs.declared.Span.{Span}
use Rattle.record.specs.declared.Cursor.{Cursor}
use Rattle.record.specs.declared.FieldCursor.{FieldCursor}
use Rattle.record.proofs.Runs.{run_le, records_first, fields_last, fields_more}

module _ (s : List ℕ) (at e : ℕ) (h : at < length s) (ends : e ≡ at + run 0x0A (drop at s)) where
  end_le : e ≤ length s
  end_le = omega (arith, run_le 0x0A (drop at s), length-drop at s)

  split : records (drop at s) ≡ take (e - at) (drop at s) ∷ records (drop (e + 1) s)
  split =
      let k = run 0x0A (drop at s) in
      let p : k ≡ e - at = omega arith in
      let q : at + suc k ≡ e + 1 = omega arith in
      records_first (drop at s) (omega (arith, length-drop at s)) ∙ rw (drop-drop, q, p)

  pub record_mid : e < length s → IsRecord s at at e (e + 1)
  record_mid l =
      record { starts = refl; ordered = omega arith; within = end_le; onward = omega arith; next_within = omega arith; past = λ _. refl; splits = split }

  pub record_last : length s ≤ e → IsRecord s at at e e
  record_last l =
      record {
        starts = refl;
        ordered = omega arith;
        within = end_le;
        onward = omega arith;
        next_within = end_le;
        past = omega arith;
        splits = split ∙ ap (λ (l : List ℕ). take (e - at) (drop at s) ∷ records l) (drop_of_length-le s {i = e + 1} (omega arith) ∙ sym (drop_of_length-le s l));
      }

pub records_end : (s : List ℕ) (at : ℕ) → length s ≤ at → records (drop at s) ≡ []
unfolding records
records_end s at h = rw (drop_of_length-le s h)

-- the fields from a place on, within the record and past its end
module _ (sep at : ℕ) (r : List ℕ) where
  pub from_within : at ≤ length r → fields_from sep at r ≡ fields sep (drop at r)
  unfolding fields_from
  from_within h = simp (le-leb _ _ h)

  pub from_past : length r < at → fields_from sep at r ≡ []
  unfolding fields_from
  from_past h = simp (lt-leb _ _ h)

module _ (sep : ℕ) (r : List ℕ) (at e : ℕ) (h : at ≤ length r) (ends : e ≡ at + run sep (drop at r)) where
  field_end_le : e ≤ length r
  field_end_le = omega (arith, run_le sep (drop at r), length-drop at r)

  last_split : length r ≤ e → fields sep (drop at r) ≡ take (e - at) (drop at r) ∷ []
  last_split l =
      fields_last sep (drop at r) (omega (arith, length-drop at r))
      ∙ ap (λ (p : List ℕ). p ∷ []) (sym (take_all (e - at) (drop at r) (omega (arith, length-drop at r))))

  more_split : e < length r → fields sep (drop at r) ≡ take (e - at) (drop at r) ∷ fields sep (drop (e + 1) r)
  more_split l =
      let k = run sep (drop at r) in
      let p : k ≡ e - at = omega arith in
      let q : at + suc k ≡ e + 1 = omega arith in
      fields_more sep (drop at r) (omega (arith, length-drop at r)) ∙ rw (drop-drop, q, p)

  field_mid : e < length r → IsField sep r at at e (e + 1)
  field_mid l =
      record {
        starts = refl;
        ordered = omega arith;
        within = field_end_le;
        past = refl;
        splits = from_within sep at r h ∙ more_split l ∙ ap (λ (fs : List (List ℕ)). take (e - at) (drop at r) ∷ fs) (sym (from_within sep (e + 1) r (omega arith)));
      }

  field_last : length r ≤ e → IsField sep r at at e (e + 1)
  field_last l =
      record {
        starts = refl;
        ordered = omega arith;
        within = field_end_le;
        past = refl;
        splits = from_within sep at r h ∙ last_split l ∙ ap (λ (fs : List (List ℕ)). take (e - at) (drop at r) ∷ fs) (sym (from_past sep (e + 1) r (omega arith)));
      }

  field_go : Dec (e < length r) → IsField sep r at at e (e + 1)
  field_go (yes l) = field_mid l
  field_go (no l) = field_last (omega arith)

  pub field_found : IsField sep r at at e (e + 1)
  field_found = field_go (dec_lt e (length r))

-- a part's length
pub part_length : (s : List ℕ) (a e : ℕ) → a ≤ e → e ≤ length s → length (take (e - a) (drop a s)) ≡ e - a
part_length s a e h k = omega (arith, length-take (e - a) (drop a s), length-drop a s)

-- the records from a place on are none only at the end
none_past : (s : List ℕ) (n : ℕ) → records (drop n s) ≡ [] → length s ≤ n
none_past s n e = none_go (dec_lt n (length s))
  where
    none_go : Dec (n < length s) → length s ≤ n
    none_go (yes h) =
        let f = records_first (drop n s) (omega (arith, length-drop n s)) in
        let z : ◌≡◌ {A = ℕ} 0 1 = omega (arith, ap length (sym e ∙ f)) in
        absurd (omega arith)
    none_go (no h) = omega arith

-- two records that a step may give are one
module _ (s : List ℕ) (at : ℕ) {a e n a' e' n' : ℕ} (x : IsRecord s at a e n) (y : IsRecord s at a' e' n') where
  record_same_start : a ≡ a'
  record_same_start = x.starts ∙ sym y.starts

  tails : take (e - a) (drop a s) ∷ records (drop n s) ≡ take (e' - a') (drop a' s) ∷ records (drop n' s)
  tails = sym x.splits ∙ y.splits

  pub record_same_end : e ≡ e'
  record_same_end =
      let p : take (e - a) (drop a s) ≡ take (e' - a') (drop a' s) = cc tails in
      omega (arith, record_same_start, x.ordered, y.ordered, ap length p, part_length s a e x.ordered x.within, part_length s a' e' y.ordered y.within)

  record_same_rest : records (drop n s) ≡ records (drop n' s)
  record_same_rest = cc tails

  next_go : Dec (n < length s) → Dec (n' < length s) → n ≡ n'
  next_go (yes h) (yes k) = omega (arith, record_same_end, x.past h, y.past k)
  next_go (yes h) (no k) = absurd (omega (arith, none_past s n (record_same_rest ∙ records_end s n' (omega arith))))
  next_go (no h) (yes k) = absurd (omega (arith, none_past s n' (sym record_same_rest ∙ records_end s n (omega arith))))
  next_go (no h) (no k) = omega (arith, x.next_within, y.next_within)

  record_same_next : n ≡ n'
  record_same_next = next_go (dec_lt n (length s)) (dec_lt n' (length s))

no_record : (s : List ℕ) (at : ℕ) {a e n : ℕ} → IsRecord s at a e n → records (drop at s) ≡ [] → ⊥
no_record s at x e = let z : ◌≡◌ {A = ℕ} 0 1 = omega (arith, ap length (sym e ∙ x.splits)) in omega arith

-- a step has one answer
pub step_one : (s : List ℕ) (at : ℕ) (x y : Option (Span × Cursor)) → Stepped s at x → Stepped s at y → x ≡ y
step_one s at (Some (x, c)) (Some (y, d)) p q =
    λ i. Some (record { start = record_same_start s at p q i; end = record_same_end s at p q i }, record { at = record_same_next s at p q i })
step_one s at (Some (x, c)) None p q = absurd (no_record s at p q)
step_one s at None (Some (y, d)) p q = absurd (no_record s at q p)
step_one s at None None p q = refl

-- and so for fields
module _ (sep : ℕ) (r : List ℕ) (at : ℕ) {a e n a' e' n' : ℕ} (x : IsField sep r at a e n) (y : IsField sep r at a' e' n') where
  field_same_start : a ≡ a'
  field_same_start = x.starts ∙ sym y.starts

  pub field_same_end : e ≡ e'
  field_same_end =
      let both : take (e - a) (drop a r) ∷ fields_from sep n r ≡ take (e' - a') (drop a' r) ∷ fields_from sep n' r = sym x.splits ∙ y.splits in
      let p : take (e - a) (drop a r) ≡ take (e' - a') (drop a' r) = cc both in
      omega (arith, field_same_start, x.ordered, y.ordered, ap length p, part_length r a e x.ordered x.within, part_length r a' e' y.ordered y.within)

  field_same_next : n ≡ n'
  field_same_next = omega (arith, field_same_end, x.past, y.past)

no_field : (sep : ℕ) (r : List ℕ) (at : ℕ) {a e n : ℕ} → IsField sep r at a e n → length r < at → ⊥
no_field sep r at x h = omega (arith, x.starts, x.ordered, x.within)

pub field_step_one : (sep : ℕ) (r : List ℕ) (at : ℕ) (x y : Option (Span × FieldCursor)) → FieldStepped sep r at x → FieldStepped sep r at y → x ≡ y
field_step_one sep r at (Some (x, c)) (Some (y, d)) p q =
    λ i. Some (record { start = field_same_start sep r at p q i; end = field_same_end sep r at p q i }, record { at = field_same_next sep r at p q i })
field_step_one sep r at (Some (x, c)) None p q = absurd (no_field sep r at p q)
field_step_one sep r at None (Some (y, d)) p q = absurd (no_field sep r at q p)
field_step_one sep r at None None p q = refl
