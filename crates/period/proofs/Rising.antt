-- In a file that is right for P0012001 periods rise from record to record, whatever stands between. Assumes nothing.
use Prim.Native.Nat.{ℕ, ◌<◌, ◌≤◌}
use mathlib.Core.Path.{◌≡◌, refl, sym, ap, subst, ◌∙◌}
use mathlib.Core.Bool.{Bool, true, false, cond, false≢true}
use mathlib.Core.Logic.{◌⊎◌, inl, inr}
use mathlib.Core.List.{List, [], ◌∷◌, ◌++◌, map, append_assoc}
use native.Mathlib.Omega.{arith}
use lib.Dec.{ltb}
use lib.IntN.{pos}
use lib.Seq.{append_snoc}
use borrow.Author.Tests.{ltb-true}
use Rattle.text.specs.Order.{number_order}
use Rattle.std.specs.declared.cmp.Ordering.TheVariants.{Less, Equal, Greater}
use Rattle.record.specs.Records.{records, field, bar}
use Rattle.number.specs.Numbers.{number}
use Rattle.number.specs.Order.{value_order}
use Rattle.field.specs.Types.{form, range, value_of}
use Rattle.field.specs.Keys.{key_order}
use Rattle.field.specs.declared.FieldType.TheVariants as types
use Rattle.field.proofs.EachByValue.{keys_by_value}
use Rattle.layout.specs.Layout.{Rule}
use Rattle.flow.specs.Publication.{PublishedKind, period, key_type_for}
use Rattle.flow.specs.Flows.{p0012}
use Rattle.judge.specs.Right.{kind_in, NoneOfKind, published_as, published_for, Meets, Typed, KeysInOrder, Ascends, RightFor}
use Rattle.judge.proofs.RightFields.{filled_right}
use Rattle.period.specs.Answer.{period_of, has_a_period, period_in}
use Rattle.period.proofs.OneKind.{Every, of_record, PeriodKind, OneOf, OnePeriodKind, one_period_kind}

-- a number that is below
number_less : (b : Bool) (x y : ℕ) → ltb x y ≡ b → number_order x y ≡ Less → x < y
unfolding number_order
number_less true x y t e = ltb-true x y t
number_less false x y t e = absurd (not_below (ltb y x) (sym (rw t) ∙ e))
  where
    not_below : (c : Bool) → cond c Greater Equal ≡ Less → ⊥
    not_below true q = let z : ◌≡◌ {A = ℕ} 0 1 = cc in omega arith
    not_below false q = let z : ◌≡◌ {A = ℕ} 0 1 = cc in omega arith

-- what a record of a kind with a period has in field 2
pub record RightPeriod (r : List ℕ) : Type 0 where
  pub form_right : form types.Period (field bar 2 r) ≡ true
  pub range_right : range types.Period (field bar 2 r) ≡ true

-- its period is the number there
is_there_lem : (r : List ℕ) → has_a_period (kind_in r) ≡ true → RightPeriod r → period_in r ≡ number (field bar 2 r)
unfolding period_in period_of
is_there_lem r k x = rw (k, x.form_right, x.range_right)

-- a record that has a period is of a kind that has one
pub period_kind : (r : List ℕ) → 1 ≤ period_in r → has_a_period (kind_in r) ≡ true
unfolding period_in
period_kind r h = by_kind (has_a_period (kind_in r)) (period_of (field bar 2 r)) h
  where
    by_kind : (b : Bool) (n : ℕ) → 1 ≤ cond b n 0 → b ≡ true
    by_kind true n h = refl
    by_kind false n h = absurd (omega (arith, h))

-- of two records, by the order of their keys
below : (q r : List ℕ) → has_a_period (kind_in q) ≡ true → has_a_period (kind_in r) ≡ true → RightPeriod q → RightPeriod r
    → key_order types.Period (field bar 2 q) (field bar 2 r) ≡ Less → period_in q < period_in r
unfolding value_of value_order
below q r j k x y e =
    let a = field bar 2 q in
    let b = field bar 2 r in
    let values = keys_by_value types.Period a b (pos (number a)) (pos (number b)) x.form_right x.range_right y.form_right y.range_right refl refl in
    let less = number_less (ltb (number a) (number b)) (number a) (number b) refl (sym values ∙ e) in
    omega (arith, less, is_there_lem q j x, is_there_lem r k y)

-- keys that rise, by what is published of a kind
rising : (name : List ℕ) (k : PublishedKind) → PeriodKind name k → (q r : List ℕ) → Ascends k q r → key_order types.Period (field bar 2 q) (field bar 2 r) ≡ Less
rising name k x q r ascends =
    let keyed : k.key ≡ 0 → ⊥ = λ z. omega (arith, z, x.key) in
    let strict = subst (λ (b : Bool). KeysInOrder b (key_order (key_type_for k) (field bar k.key q) (field bar k.key r))) x.rises (ascends keyed) in
    (λ i. key_order (sym x.type i) (field bar (sym x.key i) q) (field bar (sym x.key i) r)) ∙ strict

module _ (f : List ℕ) (n : ℕ) (right : RightFor p0012 f n) where
  kinds : OnePeriodKind (map kind_in (records f))
  kinds = one_period_kind (map kind_in (records f)) right.grammar

  abbrev one : List ℕ
  one = kinds.one

  -- of a record of the file
  module _ (before : List (List ℕ)) (r : List ℕ) (after : List (List ℕ)) (e : records f ≡ before ++ r ∷ after) where
    told : OneOf one (kind_in r)
    told = of_record (OneOf one) before r after (subst (λ (rs : List (List ℕ)). Every (OneOf one) (map kind_in rs)) e kinds.every)

    -- one with a period is of the one kind
    has_one : has_a_period (kind_in r) ≡ true → kind_in r ≡ one
    has_one h = by_kind told.0
      where
        by_kind : (kind_in r ≡ one) ⊎ (has_a_period (kind_in r) ≡ false) → kind_in r ≡ one
        by_kind (inl is) = is
        by_kind (inr none) = absurd (false≢true (sym none ∙ h))

    has_period_lem : kind_in r ≡ one → has_a_period (kind_in r) ≡ true
    has_period_lem is = ap has_a_period is ∙ kinds.published.has

    right_period : kind_in r ≡ one → RightPeriod r
    right_period is =
        let k = published_as p0012.kinds one in
        let typed : Typed k.fields r = subst (λ (name : List ℕ). Typed (published_as p0012.kinds name).fields r) is (right.typed before r after e) in
        let meets : Meets period (field bar 2 r) = subst (λ (rule : Rule). Meets rule (field bar 2 r)) kinds.published.rule (typed.each_field 0 kinds.published.some) in
        let x = filled_right period (field bar 2 r) refl refl meets in
        record { form_right = x.1; range_right = x.2 }

  -- every record has a kind
  nameless : (before mid after : List (List ℕ)) → records f ≡ before ++ (mid ++ after) → NoneOfKind [] mid
  nameless before [] after e = tt
  nameless before (r ∷ mid) after e =
      ((told before r (mid ++ after) e).1, nameless (before ++ r ∷ []) mid after (e ∙ sym (append_snoc before r (mid ++ after))))

  -- from a record with a period to the next
  next_rises : (before : List (List ℕ)) (q : List ℕ) (mid : List (List ℕ)) (r : List ℕ) (after : List (List ℕ)) → records f ≡ before ++ q ∷ (mid ++ r ∷ after)
      → kind_in q ≡ one → kind_in r ≡ one → NoneOfKind one mid → period_in q < period_in r
  next_rises before q mid r after e j k none =
      let whole : records f ≡ (before ++ q ∷ mid) ++ r ∷ after = e ∙ sym (append_assoc before (q ∷ mid) (r ∷ after)) in
      let behind : records f ≡ (before ++ q ∷ []) ++ (mid ++ r ∷ after) = e ∙ sym (append_snoc before q (mid ++ r ∷ after)) in
      let headless : [] ≡ (published_for p0012 r).within = sym (ap (λ (name : List ℕ). (published_as p0012.kinds name).within) k ∙ kinds.published.headless) in
      let ascends = right.keys before q mid r after e (j ∙ sym k) (subst (λ (name : List ℕ). NoneOfKind name mid) (sym k) none)
      (subst (λ (name : List ℕ). NoneOfKind name mid) headless (nameless (before ++ q ∷ []) mid (r ∷ after) behind)) in
      below q r (has_period_lem before q (mid ++ r ∷ after) e j) (has_period_lem (before ++ q ∷ mid) r after whole k)
      (right_period before q (mid ++ r ∷ after) e j) (right_period (before ++ q ∷ mid) r after whole k)
      (rising one (published_as p0012.kinds one) kinds.published q r (subst (λ (name : List ℕ). Ascends (published_as p0012.kinds name) q r) k ascends))

  none_snoc : (mid : List (List ℕ)) (r : List ℕ) → NoneOfKind one mid → (kind_in r ≡ one → ⊥) → NoneOfKind one (mid ++ r ∷ [])
  none_snoc [] r x h = (h, tt)
  none_snoc (q ∷ mid) r x h = (x.0, none_snoc mid r x.1 h)

  -- to any later one: the records between are passed in turn, and one of the kind starts anew
  abbrev Rises : List (List ℕ) → List (List ℕ) → Type 0
  Rises left after = (before : List (List ℕ)) (q : List ℕ) (passed : List (List ℕ)) (r : List ℕ) → records f ≡ before ++ q ∷ (passed ++ (left ++ r ∷ after))
      → kind_in q ≡ one → kind_in r ≡ one → NoneOfKind one passed → period_in q < period_in r

  one_passed : (m : List ℕ) (left after : List (List ℕ)) → Rises left after → (before : List (List ℕ)) (q : List ℕ) (passed : List (List ℕ)) (r : List ℕ)
      → records f ≡ before ++ q ∷ (passed ++ m ∷ (left ++ r ∷ after)) → kind_in q ≡ one → kind_in r ≡ one → NoneOfKind one passed
      → (kind_in m ≡ one) ⊎ (has_a_period (kind_in m) ≡ false) → period_in q < period_in r
  one_passed m left after later before q passed r e j k none (inl is) =
      let first = next_rises before q passed m (left ++ r ∷ after) e j is none in
      let then = later (before ++ q ∷ passed) m [] r (e ∙ sym (append_assoc before (q ∷ passed) (m ∷ (left ++ r ∷ after)))) is k tt in
      omega (arith, first, then)
  one_passed m left after later before q passed r e j k none (inr without) =
      let other : kind_in m ≡ one → ⊥ = λ is. false≢true (sym without ∙ ap has_a_period is ∙ kinds.published.has) in
      later before q (passed ++ m ∷ []) r (e ∙ ap (λ (l : List (List ℕ)). before ++ q ∷ l) (sym (append_snoc passed m (left ++ r ∷ after)))) j k (none_snoc passed m none other)

  walk : (left after : List (List ℕ)) → Rises left after
  walk [] after before q passed r e j k none = next_rises before q passed r after e j k none
  walk (m ∷ left) after before q passed r e j k none =
      let whole : records f ≡ (before ++ q ∷ passed) ++ m ∷ (left ++ r ∷ after) = e ∙ sym (append_assoc before (q ∷ passed) (m ∷ (left ++ r ∷ after))) in
      one_passed m left after (walk left after) before q passed r e j k none (told (before ++ q ∷ passed) m (left ++ r ∷ after) whole).0

  -- of two records that have a period the later has the higher
  pub rises : (before : List (List ℕ)) (q : List ℕ) (mid : List (List ℕ)) (r : List ℕ) (after : List (List ℕ)) → records f ≡ before ++ q ∷ (mid ++ r ∷ after)
      → 1 ≤ period_in q → 1 ≤ period_in r → period_in q < period_in r
  rises before q mid r after e j k =
      let whole : records f ≡ (before ++ q ∷ mid) ++ r ∷ after = e ∙ sym (append_assoc before (q ∷ mid) (r ∷ after)) in
      walk mid after before q [] r e (has_one before q (mid ++ r ∷ after) e (period_kind q j)) (has_one (before ++ q ∷ mid) r after whole (period_kind r k)) tt
