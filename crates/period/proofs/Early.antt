-- What stopping early is worth: the refusals are the reader's own, and nothing behind the stop is read into the answer. Assumes nothing.
use Prim.Native.Nat.{ℕ, ◌+◌, ◌-◌, ◌≤◌, ◌<◌}
use mathlib.Core.Path.{◌≡◌, refl, sym, ap, ◌∙◌}
use mathlib.Core.Bool.{Bool, true, false, cond, false≢true}
use mathlib.Core.List.{List, [], ◌∷◌, ◌++◌, append-nil, append_assoc}
use native.Mathlib.Decide.{dec_lt}
use native.Mathlib.Omega.{arith}
use lib.Dec.{eqb, leb}
use lib.ListN.{length, take, get_or, length-append, get_or-append}
use lib.Seq.{take-append-le}
use borrow.Author.Tests.{le-leb, ne_eqb}
use Rattle.text.specs.Rules.{must}
use Rattle.text.specs.Characters.{from_to}
use Rattle.text.specs.Order.{same_bytes}
use Rattle.text.proofs.Inverse.{same_said}
use Rattle.record.specs.Records.{onto, records, extent, bar}
use Rattle.place.specs.Places.{field_start, place_at, refusal}
use Rattle.layout.specs.Layout.{Layout}
use Rattle.flow.specs.Letters.{P0012001}
use Rattle.flow.specs.Publication.{Flow, layout_for}
use Rattle.flow.specs.Editions.{Asked, a_flow, no_flow}
use Rattle.fault.specs.Fields.{Check}
use Rattle.judge.specs.Record.{fault, last_kind}
use Rattle.judge.specs.File.{unplaced, at_record, checked_from, ends_in_feed, ended, finish, judged_by, with_place}
use Rattle.judge.specs.File.{judged_for, judged, paper as said}
use Rattle.judge.specs.File as readers
use Rattle.judge.specs.declared.Unplaced.{Unplaced}
use Rattle.judge.proofs.RightFields.{no_refusal}
use Rattle.period.specs.Answer.{period_in, some_stops, up_to, some_has, at_end, read_up_to, answered, has_by, has_for, Reply, refused, truth, paper, has_period}
use Rattle.std.specs.Prelude.{Result, Ok, Err}
use Rattle.place.specs.declared.Refusal.{Refusal}
use Rattle.period.proofs.Stops.{here_stops, here_ends, later_stops, later_ends}
use Rattle.period.proofs.Reading.{stop_answer}
use Rattle.period.proofs.Fronts.{stop_in_records, no_stop_all}

-- records refused stay so, whatever stands behind them, and the record that is refused is one of them
module _ (l : Layout) where
  fault_stays : (n : ℕ) (r : Unplaced) (c : Check) (now later : Result ℕ Unplaced) → (now ≡ Err r → later ≡ Err r)
      → at_record n c now ≡ Err r → at_record n c later ≡ Err r
  fault_stays n r (Ok nothing) now later ih e = ih e
  fault_stays n r (Err x) now later ih e = e

  pub refused_stays : (before rs behind : List (List ℕ)) (r : Unplaced) → checked_from bar l before rs ≡ Err r
      → checked_from bar l before (rs ++ behind) ≡ Err r
  unfolding checked_from
  refused_stays before [] behind r e = absurd (no_refusal (sym e))
  refused_stays before (x ∷ rs) behind r e =
      fault_stays (length before + 1) r (fault bar l before x) _ _ (refused_stays (before ++ x ∷ []) rs behind r) e

  -- the record of a refusal stands among the records
  abbrev Among : List (List ℕ) → List (List ℕ) → ℕ → Type 0
  Among before rs r = (length before < r) × (r ≤ length before + length rs)

  fault_among : (before : List (List ℕ)) (x : List ℕ) (rs : List (List ℕ)) (r : Unplaced) (c : Check) (now : Result ℕ Unplaced)
      → (now ≡ Err r → Among (before ++ x ∷ []) rs r.«record») → at_record (length before + 1) c now ≡ Err r → Among before (x ∷ rs) r.«record»
  fault_among before x rs r (Ok nothing) now ih e =
      let y = ih e in
      (omega (arith, y.0, length-append before (x ∷ [])), omega (arith, y.1, length-append before (x ∷ [])))
  fault_among before x rs r (Err fault) now ih e =
      let same : unplaced fault.number (length before + 1) fault.field ≡ r = cc in
      let here : length before + 1 ≡ r.«record» = ap (λ (u : Unplaced). u.«record») same in
      (omega (arith, here), omega (arith, here))

  pub refused_among : (before rs : List (List ℕ)) (r : Unplaced) → checked_from bar l before rs ≡ Err r → Among before rs r.«record»
  unfolding checked_from
  refused_among before [] r e = absurd (no_refusal (sym e))
  refused_among before (x ∷ rs) r e =
      fault_among before x rs r (fault bar l before x) _ (refused_among (before ++ x ∷ []) rs r) e

-- what is behind the records that are read
pub up_to_front : (p : ℕ) (rs : List (List ℕ)) → (behind : List (List ℕ)) × (up_to p rs ++ behind ≡ rs)
up_to_front p rs = by_stop (some_stops p rs) refl
  where
    by_stop : (b : Bool) → some_stops p rs ≡ b → (behind : List (List ℕ)) × (up_to p rs ++ behind ≡ rs)
    by_stop true e =
        let s = stop_in_records p rs e in
        (s.after, ap (λ (l : List (List ℕ)). l ++ s.after) s.front ∙ append_assoc s.before (s.stop ∷ []) s.after ∙ sym s.whole)
    by_stop false e = ([], append-nil (up_to p rs) ∙ (no_stop_all p rs e).0)

-- a refusal of the records read, or of the end where there is no stop, is the reader's own
module _ (l : Layout) (f : List ℕ) (p : ℕ) (r : Unplaced) where
  abbrev rs : List (List ℕ)
  rs = records f

  abbrev end : Result ℕ Unplaced
  end = ended l (length rs) (last_kind bar l rs) (ends_in_feed f)

  early_records : (v w : Result ℕ Unplaced) → checked_from bar l [] (up_to p rs) ≡ v → checked_from bar l [] rs ≡ w
      → (b : Bool) → some_stops p rs ≡ b → finish v (cond b (Ok (length (up_to p rs))) end) ≡ Err r
      → finish w end ≡ Err r
  early_records (Err u) w e q b t h =
      let x = up_to_front p rs in
      let stays = refused_stays l [] (up_to p rs) x.0 _ (e ∙ h) in
      ap (λ (v : Result ℕ Unplaced). finish v end) (sym q ∙ ap (checked_from bar l []) (sym x.1) ∙ stays)
  early_records (Ok m) w e q true t h = absurd (no_refusal (sym h))
  early_records (Ok m) w e q false t h =
      ap (λ (v : Result ℕ Unplaced). finish v end) (sym q ∙ ap (checked_from bar l []) (sym (no_stop_all p rs t).0) ∙ e) ∙ h

  early_file : (b : Bool) → must b (Err (unplaced 2 0 0)) (finish (checked_from bar l [] (up_to p rs)) (at_end l f p)) ≡ Err r
      → must b (Err (unplaced 2 0 0)) (finish (checked_from bar l [] rs) end) ≡ Err r
  early_file true e = early_records (checked_from bar l [] (up_to p rs)) (checked_from bar l [] rs) refl refl (some_stops p rs) refl e
  early_file false e = e

  pub early_refusal : read_up_to l f p ≡ Err r → judged_by l f ≡ Err r
  unfolding read_up_to judged_by
  early_refusal e = early_file (leb (length f) 1048576) e

-- the same refusal, said by the reader
as_said : {x n j q number r k place : ℕ} → refused x n j q ≡ refused number r k place → readers.refused x n j q ≡ readers.refused number r k place
as_said e = cc

-- in the papers' terms: for P0012001 and a period in range, what refuses the question refuses the file
module _ (fl : Flow) (named : same_bytes P0012001 fl.name ≡ true) (p : ℕ) (in_range_lem : from_to 1 50 p ≡ true) where
  asked_by_lem : (f : List ℕ) → has_period (a_flow fl) f p ≡ paper (has_by (layout_for fl) f p)
  unfolding has_period has_for
  asked_by_lem f = rw (named, in_range_lem)

  no_answer : (b : Bool) {number r k place : ℕ} → paper (Ok b) ≡ refused number r k place → ⊥
  no_answer b e = let z : ◌≡◌ {A = ℕ} 0 1 = cc in omega arith

  pub reader_refuses : (f : List ℕ) (number r k place : ℕ) → has_period (a_flow fl) f p ≡ refused number r k place
      → judged (a_flow fl) f ≡ readers.refused number r k place
  unfolding has_by judged judged_for
  reader_refuses f number r k place e = by_verdict (read_up_to (layout_for fl) f p) refl (sym (asked_by_lem f) ∙ e)
    where
      by_verdict : (v : Result ℕ Unplaced) → read_up_to (layout_for fl) f p ≡ v → paper (answered f v (some_has p (up_to p (records f)))) ≡ refused number r k place
          → judged (a_flow fl) f ≡ readers.refused number r k place
      by_verdict (Ok n) w q = absurd (no_answer (some_has p (up_to p (records f))) q)
      by_verdict (Err u) w q =
          ap (λ (v : Result ℕ Unplaced). said (with_place bar f v)) (early_refusal (layout_for fl) f p u w) ∙ as_said q

-- the place of a record is told by the records up to it
module _ (front behind : List (List ℕ)) (f : List ℕ) (e : records f ≡ front ++ behind) (n k : ℕ) (some : 1 ≤ n) (few : n ≤ length front) where
  pub front_place : place_at bar f n k ≡ extent (take (n - 1) front) + field_start bar (get_or front (n - 1) []) k
  unfolding place_at
  front_place =
      let not-whole : eqb n 0 ≡ false = ne_eqb n 0 (λ z. omega (arith, some, z)) in
      let there : leb n (length (front ++ behind)) ≡ true = le-leb n (length (front ++ behind)) (omega (arith, few, length-append front behind)) in
      rw (e, not-whole, there, take-append-le (n - 1) front behind (omega (arith, some, few)), get_or-append front behind [] (n - 1) (omega (arith, some, few)))

-- two files that agree up to the stop
module _ (l : Layout) (p : ℕ) (f g : List ℕ) (same : up_to p (records f) ≡ up_to p (records g)) where
  same_placed : (has : Bool) (v : Result ℕ Unplaced) → checked_from bar l [] (up_to p (records f)) ≡ v → answered f v has ≡ answered g v has
  same_placed has (Ok n) e = refl
  same_placed has (Err r) e =
      let there = refused_among l [] (up_to p (records f)) r e in
      let u = up_to_front p (records f) in
      let w = up_to_front p (records g) in
      let place = front_place (up_to p (records f)) u.0 f (sym u.1) r.«record» r.field (omega (arith, there.0)) (omega (arith, there.1)) in
      let other = front_place (up_to p (records f)) w.0 g (sym w.1 ∙ ap (λ (r : List (List ℕ)). r ++ w.0) (sym same)) r.«record» r.field (omega (arith, there.0)) (omega (arith, there.1)) in
      ap (λ (m : ℕ). Err (refusal r.number r.«record» r.field m)) (place ∙ sym other)

  pub same_answer : some_stops p (records f) ≡ true → some_stops p (records g) ≡ true → length f ≤ 1048576 → length g ≤ 1048576 → has_by l f p ≡ has_by l g p
  same_answer there other short small =
      stop_answer l f p short there
      ∙ same_placed (some_has p (up_to p (records f))) (checked_from bar l [] (up_to p (records f))) refl
      ∙ ap (λ (rs : List (List ℕ)). answered g (checked_from bar l [] rs) (some_has p rs)) same
      ∙ sym (stop_answer l g p small other)

-- the stop is among the records up to it
module _ (p : ℕ) where
  stays_by : (r : List ℕ) (rs : List (List ℕ)) → Dec (period_in r < p) → some_stops p (up_to p rs) ≡ some_stops p rs → some_stops p (up_to p (r ∷ rs)) ≡ some_stops p (r ∷ rs)
  stays_by r rs (yes h) ih = ap (some_stops p) (later_ends p r rs h) ∙ later_stops p r (up_to p rs) h ∙ ih ∙ sym (later_stops p r rs h)
  stays_by r rs (no h) ih =
      ap (some_stops p) (here_ends p r rs (omega arith)) ∙ here_stops p r [] (omega arith) ∙ sym (here_stops p r rs (omega arith))

  stop_stays : (rs : List (List ℕ)) → some_stops p (up_to p rs) ≡ some_stops p rs
  unfolding up_to
  stop_stays [] = refl
  stop_stays (r ∷ rs) = stays_by r rs (dec_lt (period_in r) p) (stop_stays rs)

  -- and records behind it change neither
  abbrev Unmoved : List (List ℕ) → List (List ℕ) → Type 0
  Unmoved rs behind = (some_stops p (rs ++ behind) ≡ true) × (up_to p (rs ++ behind) ≡ up_to p rs)

  unmoved_by : (r : List ℕ) (rs behind : List (List ℕ)) → Dec (period_in r < p) → some_stops p (r ∷ rs) ≡ true → (some_stops p rs ≡ true → Unmoved rs behind) → Unmoved (r ∷ rs) behind
  unmoved_by r rs behind (yes h) e ih =
      let x = ih (sym (later_stops p r rs h) ∙ e) in
      (later_stops p r (rs ++ behind) h ∙ x.0, later_ends p r (rs ++ behind) h ∙ ap (λ (l : List (List ℕ)). r ∷ l) x.1 ∙ sym (later_ends p r rs h))
  unmoved_by r rs behind (no h) e ih =
      (here_stops p r (rs ++ behind) (omega arith), here_ends p r (rs ++ behind) (omega arith) ∙ sym (here_ends p r rs (omega arith)))

  unmoved : (rs behind : List (List ℕ)) → some_stops p rs ≡ true → Unmoved rs behind
  unfolding some_stops
  unmoved [] behind e = absurd (false≢true e)
  unmoved (r ∷ rs) behind e = unmoved_by r rs behind (dec_lt (period_in r) p) e (unmoved rs behind)

-- bytes behind a line feed are records behind
abbrev More : List ℕ → List ℕ → Type 0
More s x = (behind : List (List ℕ)) × (records (s ++ 0x0A ∷ x) ≡ records s ++ behind)

onto_front : (b : ℕ) (parts behind : List (List ℕ)) → 0 < length parts → onto b (parts ++ behind) ≡ onto b parts ++ behind
unfolding onto
onto_front b [] behind h = absurd (omega arith)
onto_front b (part ∷ parts) behind h = refl

onto_some : (b : ℕ) (parts : List (List ℕ)) → 0 < length (onto b parts)
unfolding onto
onto_some b [] = omega arith
onto_some b (part ∷ parts) = omega arith

records_some : (b : ℕ) (s : List ℕ) (t : Bool) → eqb b 0x0A ≡ t → 0 < length (records (b ∷ s))
unfolding records
records_some b s true t = rw t (omega arith)
records_some b s false t = rw t (onto_some b (records s))

more_one : (b : ℕ) (x : List ℕ) (t : Bool) → eqb b 0x0A ≡ t → More (b ∷ []) x
unfolding records onto
more_one b x true t = ([] ∷ records x, rw t)
more_one b x false t = (records x, rw t)

more_byte : (b c : ℕ) (s x : List ℕ) (t : Bool) → eqb b 0x0A ≡ t → More (c ∷ s) x → More (b ∷ c ∷ s) x
unfolding records
more_byte b c s x true t m = (m.0, rw t (ap (λ (l : List (List ℕ)). [] ∷ l) m.1))
more_byte b c s x false t m = (m.0, rw t (ap (onto b) m.1 ∙ onto_front b (records (c ∷ s)) m.0 (records_some c s (eqb c 0x0A) refl)))

more_records : (s x : List ℕ) → More s x
unfolding records
more_records [] x = ([] ∷ records x, refl)
more_records (b ∷ []) x = more_one b x (eqb b 0x0A) refl
more_records (b ∷ c ∷ s) x = more_byte b c s x (eqb b 0x0A) refl (more_records (c ∷ s) x)

-- for whatever is asked, by what the layout says
by_layout : (a : Asked) (f g : List ℕ) (p : ℕ) → ((l : Layout) → has_by l f p ≡ has_by l g p) → has_period a f p ≡ has_period a g p
unfolding has_period has_for
by_layout (a_flow fl) f g p e = rw (e (layout_for fl))
by_layout (no_flow r) f g p e = refl

-- two files whose records agree up to the stop have the same answer
pub agree_up_to_stop : (a : Asked) (f g : List ℕ) (p : ℕ) → some_stops p (records f) ≡ true → up_to p (records f) ≡ up_to p (records g)
    → length f ≤ 1048576 → length g ≤ 1048576 → has_period a f p ≡ has_period a g p
agree_up_to_stop a f g p there same short small =
    let other = sym (stop_stays p (records g)) ∙ ap (some_stops p) (sym same) ∙ stop_stays p (records f) ∙ there in
    by_layout a f g p (λ l. same_answer l p f g same there other short small)

-- a file that ends with the stop, its line feed absent, has the answer of every file that goes on from there
pub cut_there : (a : Asked) (s x : List ℕ) (p : ℕ) → some_stops p (records s) ≡ true → length (s ++ 0x0A ∷ x) ≤ 1048576
    → has_period a (s ++ 0x0A ∷ x) p ≡ has_period a s p
cut_there a s x p there short =
    let more = more_records s x in
    let front = unmoved p (records s) more.0 there in
    agree_up_to_stop a (s ++ 0x0A ∷ x) s p (ap (some_stops p) more.1 ∙ front.0) (ap (up_to p) more.1 ∙ front.1) short
    (omega (arith, short, length-append s (0x0A ∷ x)))

-- so nothing behind the stop is read into the answer
pub stops_early : (a : Asked) (s x y : List ℕ) (p : ℕ) → some_stops p (records s) ≡ true → length (s ++ 0x0A ∷ x) ≤ 1048576
    → length (s ++ 0x0A ∷ y) ≤ 1048576 → has_period a (s ++ 0x0A ∷ x) p ≡ has_period a (s ++ 0x0A ∷ y) p
stops_early a s x y p there short small = cut_there a s x p there short ∙ sym (cut_there a s y p there small)

-- the answer that says this
abbrev answer : Reply → Result Bool Refusal
answer (refused number r k place) = Err (refusal number r k place)
answer (truth b) = Ok b

answer_paper : (x : Result Bool Refusal) → answer (paper x) ≡ x
answer_paper (Err r) = refl
answer_paper (Ok b) = refl

-- two answers that say the same in the papers' terms are the same answer, so only one meets the promise of has
pub one_answer : (x y : Result Bool Refusal) → paper x ≡ paper y → x ≡ y
one_answer x y e = same_said paper answer answer_paper x y e
