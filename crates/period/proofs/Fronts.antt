-- The records up to the stop: where they stand in the file, and what they are with a stop and without one. Assumes nothing.
use Prim.Native.Nat.{ℕ, suc, ◌+◌, ◌≤◌, ◌<◌}
use mathlib.Core.Path.{◌≡◌, refl, sym, ap, ◌∙◌}
use mathlib.Core.Bool.{Bool, true, false, false≢true}
use mathlib.Core.List.{List, [], ◌∷◌, ◌++◌}
use native.Mathlib.Decide.{dec_lt}
use native.Mathlib.Omega.{arith}
use lib.Dec.{eqb}
use lib.ListN.{length, take, length-append}
use Rattle.record.specs.Records.{onto, records, extent}
use Rattle.period.specs.Answer.{period_in, some_stops, up_to, some_has}
use Rattle.period.proofs.Stops.{here_stops, here_ends, later_stops, later_ends, later_has}

-- no parts are no split
none_split : (before : List (List ℕ)) (r : List ℕ) (after : List (List ℕ)) → ◌≡◌ {A = List (List ℕ)} [] (before ++ r ∷ after) → ⊥
none_split before r after e = omega (arith, ap length e, length-append before (r ∷ after))

module _ {p q : List ℕ} {ps qs : List (List ℕ)} (e : p ∷ ps ≡ q ∷ qs) where
  same_head : p ≡ q
  same_head = cc

  same_tail : ps ≡ qs
  same_tail = cc

-- the first bytes of a file up to the end of the record behind some others
abbrev up_to_end : List (List ℕ) → List ℕ → List ℕ → List ℕ
up_to_end before r f = take (extent before + length r) f

abbrev FrontRecords : List ℕ → Type 0
FrontRecords f =
    (before : List (List ℕ)) (r : List ℕ) (after : List (List ℕ)) → records f ≡ before ++ r ∷ after → 0 < length r
    → records (up_to_end before r f) ≡ before ++ r ∷ []

-- one byte more in front
module _ (b : ℕ) (s : List ℕ) (ih : FrontRecords s) where
  -- a line feed, behind an empty record
  behind_feed : eqb b 0x0A ≡ true → (before : List (List ℕ)) (r : List ℕ) (after : List (List ℕ)) → [] ∷ records s ≡ before ++ r ∷ after
      → 0 < length r → records (up_to_end before r (b ∷ s)) ≡ before ++ r ∷ []
  unfolding records extent
  behind_feed t [] r after e h = absurd (omega (arith, ap length (same_head e)))
  behind_feed t (q ∷ before) r after e h =
      let n : extent (q ∷ before) + length r ≡ suc (extent before + length r) = omega (arith, ap length (same_head e)) in
      rw (n, t) (λ i. same_head e i ∷ ih before r after (same_tail e) h i)

  -- another byte, the first of a record
  in_record : eqb b 0x0A ≡ false → (parts : List (List ℕ)) → records s ≡ parts → (before : List (List ℕ)) (r : List ℕ) (after : List (List ℕ))
      → onto b parts ≡ before ++ r ∷ after → 0 < length r → records (up_to_end before r (b ∷ s)) ≡ before ++ r ∷ []
  unfolding records onto extent
  in_record t [] w [] r after e h =
      let n : extent [] + length r ≡ 1 = omega (arith, ap length (same_head e)) in
      rw (n, t) (ap (λ (l : List ℕ). l ∷ []) (same_head e))
  in_record t [] w (q ∷ before) r after e h = absurd (none_split before r after (same_tail e))
  in_record t ([] ∷ parts) w [] r after e h =
      let n : extent [] + length r ≡ 1 = omega (arith, ap length (same_head e)) in
      rw (n, t) (ap (λ (l : List ℕ). l ∷ []) (same_head e))
  in_record t ((x ∷ xs) ∷ parts) w [] r after e h =
      let n : extent [] + length r ≡ suc (extent [] + length (x ∷ xs)) = omega (arith, ap length (same_head e)) in
      rw (n, t) (ap (onto b) (ih [] (x ∷ xs) parts w (omega arith)) ∙ ap (λ (l : List ℕ). l ∷ []) (same_head e))
  in_record t (x ∷ parts) w (q ∷ before) r after e h =
      let n : extent (q ∷ before) + length r ≡ suc (extent (x ∷ before) + length r) = omega (arith, ap length (same_head e)) in
      rw (n, t)
      (ap (onto b) (ih (x ∷ before) r after (w ∙ ap (λ (l : List (List ℕ)). x ∷ l) (same_tail e)) h)
      ∙ ap (λ (l : List ℕ). l ∷ before ++ r ∷ []) (same_head e))

  one_more_lem : (t : Bool) → eqb b 0x0A ≡ t → FrontRecords (b ∷ s)
  unfolding records
  one_more_lem true t before r after e h = behind_feed t before r after (rw t at e) h
  one_more_lem false t before r after e h = in_record t (records s) refl before r after (rw t at e) h

-- the records of a file's front: up to the end of a record that has bytes, its line feed not needed
pub front_records : (f : List ℕ) → FrontRecords f
unfolding records
front_records [] before r after e h = absurd (none_split before r after e)
front_records (b ∷ s) before r after e h = one_more_lem b s (front_records s) (eqb b 0x0A) refl before r after e h

-- where some records stop: those before, the stop, those behind it
pub record StopIn (p : ℕ) (rs : List (List ℕ)) : Type 0 where
  pub before : List (List ℕ)
  pub stop : List ℕ
  pub after : List (List ℕ)
  pub whole : rs ≡ before ++ stop ∷ after
  pub front : up_to p rs ≡ before ++ stop ∷ []
  pub reaches : p ≤ period_in stop

module _ (p : ℕ) where
  stop_by_lem : (r : List ℕ) (rs : List (List ℕ)) → Dec (period_in r < p) → some_stops p (r ∷ rs) ≡ true → (some_stops p rs ≡ true → StopIn p rs) → StopIn p (r ∷ rs)
  stop_by_lem r rs (yes l) e later =
      let x = later (sym (later_stops p r rs l) ∙ e) in
      record {
        before = r ∷ x.before;
        stop = x.stop;
        after = x.after;
        whole = ap (λ (l : List (List ℕ)). r ∷ l) x.whole;
        front = later_ends p r rs l ∙ ap (λ (l : List (List ℕ)). r ∷ l) x.front;
        reaches = x.reaches;
      }
  stop_by_lem r rs (no l) e later = record { before = []; stop = r; after = rs; whole = refl; front = here_ends p r rs (omega arith); reaches = omega arith }

  pub stop_in_records : (rs : List (List ℕ)) → some_stops p rs ≡ true → StopIn p rs
  unfolding some_stops
  stop_in_records [] e = absurd (false≢true e)
  stop_in_records (r ∷ rs) e = stop_by_lem r rs (dec_lt (period_in r) p) e (stop_in_records rs)

  -- without a stop all records are read, and none has the period
  abbrev AllRead : List (List ℕ) → Type 0
  AllRead rs = (up_to p rs ≡ rs) × (some_has p rs ≡ false)

  read_by : (r : List ℕ) (rs : List (List ℕ)) → Dec (period_in r < p) → some_stops p (r ∷ rs) ≡ false → (some_stops p rs ≡ false → AllRead rs) → AllRead (r ∷ rs)
  read_by r rs (yes l) e later =
      let x = later (sym (later_stops p r rs l) ∙ e) in
      (later_ends p r rs l ∙ ap (λ (l : List (List ℕ)). r ∷ l) x.0, later_has p r rs l rs ∙ x.1)
  read_by r rs (no l) e later = absurd (false≢true (sym e ∙ here_stops p r rs (omega arith)))

  pub no_stop_all : (rs : List (List ℕ)) → some_stops p rs ≡ false → (up_to p rs ≡ rs) × (some_has p rs ≡ false)
  unfolding up_to some_has
  no_stop_all [] e = (refl, refl)
  no_stop_all (r ∷ rs) e = read_by r rs (dec_lt (period_in r) p) e (no_stop_all rs)
