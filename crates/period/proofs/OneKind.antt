-- The kinds of a P0012 file: all records with a period are GSP, or all are GS2. Assumes nothing.
use Prim.Native.Nat.{ℕ, ◌<◌}
use mathlib.Core.Path.{◌≡◌, refl}
use mathlib.Core.Bool.{true, false}
use mathlib.Core.Logic.{◌⊎◌, inl, inr}
use mathlib.Core.List.{List, [], ◌∷◌, ◌++◌, map}
use native.Mathlib.Omega.{arith}
use lib.ListN.{length, get_or}
use Rattle.field.specs.declared.FieldType.TheVariants as types
use Rattle.grammar.specs.Sets.{Kind, AnyNumber, Under, alone, joined, none, again, this, other}
use Rattle.flow.specs.Letters.{ZHD, ZPD, HDR, GSP, GS2, ZPT}
use Rattle.flow.specs.Publication.{PublishedKind, period, null, key_type_for}
use Rattle.flow.specs.Flows.{p0012}
use Rattle.judge.specs.Right.{kind_in, published_as}
use Rattle.period.specs.Answer.{has_a_period}

-- a property of each kind of a list
abbrev pub Every : (List ℕ → Type 0) → List (List ℕ) → Type 0
Every P [] = Unit
Every P (k ∷ ks) = P k × Every P ks

every_join : (P : List ℕ → Type 0) (s t : List (List ℕ)) → Every P s → Every P t → Every P (s ++ t)
every_join P [] t x y = y
every_join P (k ∷ s) t x y = (x.0, every_join P s t x.1 y)

-- it holds of the kind of each record
pub of_record : (P : List ℕ → Type 0) (before : List (List ℕ)) (r : List ℕ) (after : List (List ℕ)) → Every P (map kind_in (before ++ r ∷ after)) → P (kind_in r)
of_record P [] r after x = x.0
of_record P (q ∷ before) r after x = of_record P before r after x.1

-- any number of one kind
run_of : (P : List ℕ → Type 0) (k : List ℕ) → P k → {s : List (List ℕ)} → Under (AnyNumber (Kind k)) s → Every P s
run_of P k p none = tt
run_of P k p (again alone rest) = (p, run_of P k p rest)

-- a kind that has a period, as P0012001 publishes it: its key is that period, and runs through the file
pub record PeriodKind (name : List ℕ) (k : PublishedKind) : Type 0 where
  pub has : has_a_period name ≡ true
  pub some : 0 < length k.fields
  pub rule : get_or k.fields 0 null ≡ period
  pub key : k.key ≡ 2
  pub type : key_type_for k ≡ types.Period
  pub rises : k.repeats ≡ false
  pub headless : k.within ≡ []

-- a kind is this one, or has no period
abbrev pub OneOf : List ℕ → List ℕ → Type 0
OneOf one k = ((k ≡ one) ⊎ (has_a_period k ≡ false)) × (k ≡ [] → ⊥)

-- the one kind of a file's records that have a period
pub record OnePeriodKind (ks : List (List ℕ)) : Type 0 where
  pub one : List ℕ
  pub published : PeriodKind one (published_as p0012.kinds one)
  pub every : Every (OneOf one) ks

some_bytes : {b : ℕ} {k : List ℕ} → b ∷ k ≡ [] → ⊥
some_bytes e = let z : ◌≡◌ {A = ℕ} 0 1 = cc in omega arith

-- ZHD, ZPD, HDR, a run of one kind and ZPT
around : (one : List ℕ) → PeriodKind one (published_as p0012.kinds one) → (one ≡ [] → ⊥) → (run : List (List ℕ)) → Under (AnyNumber (Kind one)) run
    → OnePeriodKind (ZHD ∷ ZPD ∷ HDR ∷ (run ++ ZPT ∷ []))
around one published named run under =
    let footer : Every (OneOf one) (ZPT ∷ []) = ((inr refl, some_bytes), tt) in
    let rest = every_join (OneOf one) run (ZPT ∷ []) (run_of (OneOf one) one (inl refl, named) under) footer in
    record { one = one; published = published; every = ((inr refl, some_bytes), ((inr refl, some_bytes), ((inr refl, some_bytes), rest))) }

pub one_period_kind : (ks : List (List ℕ)) → Under p0012.grammar ks → OnePeriodKind ks
one_period_kind ks (joined alone (joined alone (joined alone (joined {s = run} (this under) alone)))) =
    around GSP (record { has = refl; some = omega arith; rule = refl; key = refl; type = refl; rises = refl; headless = refl }) some_bytes run under
one_period_kind ks (joined alone (joined alone (joined alone (joined {s = run} (other under) alone)))) =
    around GS2 (record { has = refl; some = omega arith; rule = refl; key = refl; type = refl; rises = refl; headless = refl }) some_bytes run under
