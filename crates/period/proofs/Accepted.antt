-- For an accepted file the answer equals the full reading's (document 02, C-17). Assumes nothing.
use Prim.Native.Nat.{ℕ, ◌≤◌}
use mathlib.Core.Path.{◌≡◌, refl, sym, ap, ◌∙◌}
use mathlib.Core.Bool.{Bool, true, false, ◌||◌, or-true, or-false, false≢true}
use mathlib.Core.Logic.{◌⊎◌, inl, inr, ◌↔◌}
use mathlib.Core.List.{List, [], ◌∷◌, ◌++◌}
use native.Mathlib.Omega.{arith}
use lib.Dec.{eqb}
use lib.IntN.{pos}
use lib.Seq.{append_snoc}
use borrow.Author.Tests.{le-leb, eqb-true, eq-eqb, ne_eqb}
use Rattle.text.specs.Order.{same_bytes}
use Rattle.text.proofs.Lists.{same→≡}
use Rattle.text.proofs.Tests.{holds}
use Rattle.record.specs.Records.{records, field, bar}
use Rattle.field.specs.declared.Content.TheVariants.{Number}
use Rattle.layout.specs.Layout.{Layout}
use Rattle.flow.specs.Letters.{GSP, GS2, P0012001}
use Rattle.flow.specs.Publication.{Flow, layout_for}
use Rattle.flow.specs.Flows.{p0012}
use Rattle.flow.specs.Editions.{Asked, a_flow, name_in, asked}
use Rattle.flow.proofs.Proper.{held_proper}
use Rattle.judge.specs.File.{judged_by, judged, accepted}
use Rattle.judge.specs.Right.{kind_in, RightFor}
use Rattle.judge.specs.declared.Unplaced.{Unplaced}
use Rattle.judge.proofs.Demand2.{right_for, accepted_flow}
use Rattle.judge.proofs.RightFields.{no_refusal}
use Rattle.std.specs.Prelude.{Result, Ok, Err}
use Rattle.period.specs.Answer.{period_of, has_a_period, period_in, some_stops, up_to, some_has, read_up_to, answered, has_by, has_for, truth, paper, has_period}
use Rattle.period.specs.Full.{OfPeriod, InFile}
use Rattle.period.proofs.Periods.{number_said, said_answer, given_period}
use Rattle.period.proofs.Fronts.{stop_in_records, no_stop_all}
use Rattle.period.proofs.Early.{early_refusal}
use Rattle.period.proofs.Flows.{asks_p0012}
use Rattle.period.proofs.Rising.{period_kind, rises}

-- one of some records has the period exactly where one stands there that has it
module _ (p : ℕ) where
  has_join : (rs behind : List (List ℕ)) → some_has p (rs ++ behind) ≡ (some_has p rs || some_has p behind)
  unfolding some_has
  has_join [] behind = refl
  has_join (r ∷ rs) behind = by_first (eqb p (period_in r)) _ (some_has p rs) (some_has p behind) (has_join rs behind)
    where
      by_first : (b x y z : Bool) → x ≡ (y || z) → (b || x) ≡ ((b || y) || z)
      by_first true x y z e = refl
      by_first false x y z e = e

  -- of the others than one
  none_has : (rs : List (List ℕ)) → ((before : List (List ℕ)) (r : List ℕ) (after : List (List ℕ)) → rs ≡ before ++ r ∷ after → period_in r ≡ p → ⊥) → some_has p rs ≡ false
  unfolding some_has
  none_has [] h = refl
  none_has (r ∷ rs) h =
      rw (ne_eqb p (period_in r) (λ e. h [] r rs refl (sym e))) (none_has rs (λ before q after e. h (r ∷ before) q after (ap (λ (l : List (List ℕ)). r ∷ l) e)))

  -- a record with the period, and those around it
  abbrev One : List (List ℕ) → Type 0
  One rs = (before : List (List ℕ)) × (r : List ℕ) × (after : List (List ℕ)) × (rs ≡ before ++ r ∷ after) × (period_in r ≡ p)

  one_by : (r : List ℕ) (rs : List (List ℕ)) (b : Bool) → eqb p (period_in r) ≡ b → (b || some_has p rs) ≡ true → (some_has p rs ≡ true → One rs) → One (r ∷ rs)
  one_by r rs true t e later = ([], r, rs, refl, sym (eqb-true p (period_in r) t))
  one_by r rs false t e later =
      let x = later e in
      (r ∷ x.0, x.1, x.2, ap (λ (l : List (List ℕ)). r ∷ l) x.3, x.4)

  has_one : (rs : List (List ℕ)) → some_has p rs ≡ true → One rs
  unfolding some_has
  has_one [] e = absurd (false≢true e)
  has_one (r ∷ rs) e = one_by r rs (eqb p (period_in r)) refl e (has_one rs)

  one_has : (before : List (List ℕ)) (r : List ℕ) (after : List (List ℕ)) → period_in r ≡ p → some_has p (before ++ r ∷ after) ≡ true
  unfolding some_has
  one_has before r after e = has_join before (r ∷ after) ∙ ap (λ (b : Bool). some_has p before || b) here ∙ or-true (some_has p before)
    where
      here : some_has p (r ∷ after) ≡ true
      here = rw (eq-eqb p (period_in r) (sym e))

-- its period in plain terms
module _ (p : ℕ) (some : 1 ≤ p) (r : List ℕ) where
  kind_told : (a b : Bool) → (a || b) ≡ true → (a ≡ true) ⊎ (b ≡ true)
  kind_told true b e = inl refl
  kind_told false b e = inr e

  as_kind : (same_bytes GSP (kind_in r) ≡ true) ⊎ (same_bytes GS2 (kind_in r) ≡ true) → (kind_in r ≡ GSP) ⊎ (kind_in r ≡ GS2)
  as_kind (inl e) = inl (sym (same→≡ GSP (kind_in r) (holds e)))
  as_kind (inr e) = inr (sym (same→≡ GS2 (kind_in r) (holds e)))

  is_field : has_a_period (kind_in r) ≡ true → period_in r ≡ period_of (field bar 2 r)
  unfolding period_in
  is_field e = rw e

  pub of_period_lem : period_in r ≡ p → OfPeriod p r
  of_period_lem e =
      let kind = period_kind r (omega (arith, some, e)) in
      let is = sym (is_field kind) ∙ e in
      record {
        kind = as_kind (kind_told (same_bytes GSP (kind_in r)) (same_bytes GS2 (kind_in r)) kind);
        period = given_period (field bar 2 r) (omega (arith, some, is)) ∙ ap (λ (n : ℕ). Ok (Number (pos n))) is;
      }

  has_kind : (kind_in r ≡ GSP) ⊎ (kind_in r ≡ GS2) → has_a_period (kind_in r) ≡ true
  has_kind (inl e) = ap has_a_period e
  has_kind (inr e) = ap has_a_period e

  pub period_of_it : OfPeriod p r → period_in r ≡ p
  period_of_it x = is_field (has_kind x.kind) ∙ sym (said_answer (field bar 2 r)) ∙ ap number_said x.period

-- the full reading, by the test and in plain terms
pub full_reading : (f : List ℕ) (p : ℕ) → 1 ≤ p → (some_has p (records f) ≡ true) ↔ InFile f p
full_reading f p some = (
  λ e.
      let x = has_one p (records f) e in
      record { before = x.0; is = x.1; after = x.2; stands = x.3; of = of_period_lem p some x.1 x.4 },
  λ x. ap (some_has p) x.stands ∙ one_has p x.before x.is x.after (period_of_it p some x.is x.of),
)

-- what stands behind the stop of a right file never has the period, so reading up to the stop is enough
module _ (f : List ℕ) (n : ℕ) (right : RightFor p0012 f n) (p : ℕ) (some : 1 ≤ p) where
  enough_by : (b : Bool) → some_stops p (records f) ≡ b → some_has p (up_to p (records f)) ≡ some_has p (records f)
  enough_by false e = ap (some_has p) (no_stop_all p (records f) e).0
  enough_by true e =
      let s = stop_in_records p (records f) e in
      let split : records f ≡ (s.before ++ s.stop ∷ []) ++ s.after = s.whole ∙ sym (append_snoc s.before s.stop s.after) in
      let behind : some_has p s.after ≡ false =
      none_has p s.after
      (λ mid r after w is.
      let higher = rises f n right s.before s.stop mid r after (s.whole ∙ ap (λ (l : List (List ℕ)). s.before ++ s.stop ∷ l) w)
      (omega (arith, some, s.reaches)) (omega (arith, some, is)) in
      omega (arith, higher, is, s.reaches)) in
      ap (some_has p) s.front
      ∙ sym (ap (some_has p) split ∙ has_join p (s.before ++ s.stop ∷ []) s.after ∙ ap (λ (b : Bool). some_has p (s.before ++ s.stop ∷ []) || b) behind ∙ or-false _)

  pub read_enough : some_has p (up_to p (records f)) ≡ some_has p (records f)
  read_enough = enough_by (some_stops p (records f)) refl

-- an accepted file is answered
module _ (l : Layout) (f : List ℕ) (n : ℕ) (e : judged_by l f ≡ Ok n) (p : ℕ) where
  answered_by : (v : Result ℕ Unplaced) → read_up_to l f p ≡ v → answered f v (some_has p (up_to p (records f))) ≡ Ok (some_has p (up_to p (records f)))
  answered_by (Ok m) w = refl
  answered_by (Err r) w = absurd (no_refusal (sym (early_refusal l f p r w) ∙ e))

  is_answered : has_by l f p ≡ Ok (some_has p (up_to p (records f)))
  unfolding has_by
  is_answered = answered_by (read_up_to l f p) refl

said : (b : Bool) → paper (Ok b) ≡ truth b
said b = refl

same_truth : {a b : Bool} → truth a ≡ truth b → a ≡ b
same_truth e = cc

-- for a file that is accepted for P0012001 and a period from 1 to 50
module _ (words f : List ℕ) (n : ℕ) (e : judged (asked words) f ≡ accepted n) (named : name_in words ≡ P0012001) (p : ℕ) (some : 1 ≤ p) (most : p ≤ 50) where
  flow_is : (asked words ≡ a_flow p0012) × (judged_by (layout_for p0012) f ≡ Ok n)
  flow_is =
      let x = accepted_flow f n (asked words) e in
      let is = asks_p0012 words x.0 x.1 named in
      (x.1 ∙ ap a_flow is, ap (λ (fl : Flow). judged_by (layout_for fl) f) (sym is) ∙ x.2)

  pub by_all_records : has_period (asked words) f p ≡ truth (some_has p (records f))
  unfolding has_period has_for
  by_all_records =
      ap (λ (a : Asked). has_period a f p) flow_is.0
      ∙ rw (le-leb 1 p some, le-leb p 50 most) (ap paper (is_answered (layout_for p0012) f n flow_is.1 p))
      ∙ said (some_has p (up_to p (records f)))
      ∙ ap truth (read_enough f n ((right_for p0012 (held_proper 1) f n).0 flow_is.1) p some)

  -- the answer is yes exactly where some GSP or GS2 of the file has the period, and it is no exactly where none has
  pub as_the_full_reading : (has_period (asked words) f p ≡ truth true) ↔ InFile f p
  as_the_full_reading = (
    λ yes. (full_reading f p some).0 (same_truth (sym by_all_records ∙ yes)),
    λ there. by_all_records ∙ ap truth ((full_reading f p some).1 there),
  )

  no_by : (b : Bool) → some_has p (records f) ≡ b → (InFile f p → ⊥) → truth b ≡ truth false
  no_by true t h = absurd (h ((full_reading f p some).0 t))
  no_by false t h = refl

  pub no_as_the_full_reading : (has_period (asked words) f p ≡ truth false) ↔ (InFile f p → ⊥)
  no_as_the_full_reading = (
    λ no there. false≢true (same_truth (sym no ∙ as_the_full_reading.1 there)),
    λ none. by_all_records ∙ no_by (some_has p (records f)) refl none,
  )
