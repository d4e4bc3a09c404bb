-- The kinds of a set: when each stands once, and that a walk reads no other. Assumes nothing.
use Prim.Native.Nat.{ℕ}
use mathlib.Core.Path.{◌≡◌, refl, sym, ap₂, ◌∙◌, subst}
use mathlib.Core.Bool.{Bool, true, false, cond, not, ◌&&◌, ◌||◌, or_assoc, or-false}
use mathlib.Core.Logic.{◌⊎◌, inl, inr, ⊎_elim}
use mathlib.Core.List.{List, [], ◌∷◌, ◌++◌}
use lib.Dec.{T, T_not, not_T}
use Rattle.text.specs.Order.{same_bytes}
use Rattle.text.proofs.Lists.{same→≡, same_refl}
use Rattle.grammar.specs.Sets.{Sets, Nothing, Kind, Then, AnyNumber, OneOrMore, Perhaps, Either}
use Rattle.grammar.specs.Walk.{has, nullable, first, after, firsts, kinds, among, distinct, Once, At, start, last, may}
use Rattle.text.proofs.Tests.{or_cases, or_left, or_right, and_left, and_right, and_both, holds}
use Rattle.grammar.proofs.Left.{first_has}

-- a kind is one of two lists joined where it is one of the first or of the second
pub among_join : (k : List ℕ) (s t : List (List ℕ)) → among k (s ++ t) ≡ (among k s || among k t)
among_join k [] t = refl
among_join k (x ∷ s) t = rw (among_join k s t) (sym (or_assoc (same_bytes x k) (among k s) (among k t)))

-- the kinds that stand in a set are those of its list
pub has_among : (g : Sets) (k : List ℕ) → has g k ≡ among k (kinds g)
has_among Nothing k = refl
has_among (Kind j) k = sym (or-false (same_bytes j k))
has_among (Then a b) k = ap₂ ◌||◌ (has_among a k) (has_among b k) ∙ sym (among_join k (kinds a) (kinds b))
has_among (AnyNumber a) k = has_among a k
has_among (OneOrMore a) k = has_among a k
has_among (Perhaps a) k = has_among a k
has_among (Either a b) k = ap₂ ◌||◌ (has_among a k) (has_among b k) ∙ sym (among_join k (kinds a) (kinds b))

-- two lists joined are distinct where each is and no kind is in both
abbrev BothDistinct : List (List ℕ) → List (List ℕ) → Type 0
BothDistinct s t = T (distinct s) × T (distinct t) × ((k : List ℕ) → T (among k s) → T (among k t) → ⊥)

distinct_parts : (s t : List (List ℕ)) → T (distinct (s ++ t)) → BothDistinct s t
distinct_parts [] t h = (tt, h, λ k p q. p)
distinct_parts (x ∷ s) t h =
    let new : T (among x (s ++ t)) → ⊥ = T_not (among x (s ++ t)) (and_left (not (among x (s ++ t))) (distinct (s ++ t)) h) in
    let m : BothDistinct s t = distinct_parts s t (and_right (not (among x (s ++ t))) (distinct (s ++ t)) h) in (
      and_both (not (among x s)) (distinct s)
          (not_T (among x s) (λ p. new (subst (λ (b : Bool). T b) (sym (among_join x s t)) (or_left (among x s) (among x t) p)))) m.0,
      m.1,
      λ k p q.
          ⊎_elim
          (λ (e : T (same_bytes x k)).
          new (subst (λ (b : Bool). T b) (sym (among_join x s t))
          (or_right (among x s) (among x t) (subst (λ (j : List ℕ). T (among j t)) (sym (same→≡ x k e)) q))))
          (λ (e : T (among k s)). m.2 k e q)
          (or_cases (same_bytes x k) (among k s) p),
    )

distinct_join : (s t : List (List ℕ)) → BothDistinct s t → T (distinct (s ++ t))
distinct_join [] t m = m.1
distinct_join (x ∷ s) t m =
    and_both (not (among x (s ++ t))) (distinct (s ++ t))
    (not_T (among x (s ++ t))
    (λ h.
    ⊎_elim (λ (p : T (among x s)). T_not (among x s) (and_left (not (among x s)) (distinct s) m.0) p)
    (λ (p : T (among x t)). m.2 x (or_left (same_bytes x x) (among x s) (holds (same_refl x))) p)
    (or_cases (among x s) (among x t) (subst (λ (b : Bool). T b) (among_join x s t) h))))
    (distinct_join s t
    (and_right (not (among x s)) (distinct s) m.0, m.1, λ k p q. m.2 k (or_right (same_bytes x k) (among k s) p) q))

-- the computed test decides that each kind stands once
module _ (g : Sets) (k : List ℕ) where
  to_list : T (has g k) → T (among k (kinds g))
  to_list t = subst (λ (b : Bool). T b) (has_among g k) t

  from_list : T (among k (kinds g)) → T (has g k)
  from_list t = subst (λ (b : Bool). T b) (sym (has_among g k)) t

once_two : (a b : Sets) → (T (distinct (kinds a)) → Once a) → (T (distinct (kinds b)) → Once b) → T (distinct (kinds a ++ kinds b)) → Once (Then a b)
once_two a b f h d =
    let m : BothDistinct (kinds a) (kinds b) = distinct_parts (kinds a) (kinds b) d in
    (f m.0, h m.1, λ k p q. m.2 k (to_list a k p) (to_list b k q))

pub once_by_test : (g : Sets) → T (distinct (kinds g)) → Once g
once_by_test Nothing d = tt
once_by_test (Kind j) d = tt
once_by_test (Then a b) d = once_two a b (once_by_test a) (once_by_test b) d
once_by_test (AnyNumber a) d = once_by_test a d
once_by_test (OneOrMore a) d = once_by_test a d
once_by_test (Perhaps a) d = once_by_test a d
once_by_test (Either a b) d = once_two a b (once_by_test a) (once_by_test b) d

test_two : (a b : Sets) → (Once a → T (distinct (kinds a))) → (Once b → T (distinct (kinds b))) → Once (Then a b) → T (distinct (kinds a ++ kinds b))
test_two a b f h once =
    distinct_join (kinds a) (kinds b) (f once.0, h once.1, λ k p q. once.2 k (from_list a k p) (from_list b k q))

pub test_of_once : (g : Sets) → Once g → T (distinct (kinds g))
test_of_once Nothing once = tt
test_of_once (Kind j) once = tt
test_of_once (Then a b) once = test_two a b (test_of_once a) (test_of_once b) once
test_of_once (AnyNumber a) once = test_of_once a once
test_of_once (OneOrMore a) once = test_of_once a once
test_of_once (Perhaps a) once = test_of_once a once
test_of_once (Either a b) once = test_two a b (test_of_once a) (test_of_once b) once

-- what may come first in what is left stands in the set
firsts_parts : (σ τ : List Sets) (k : List ℕ) → T (firsts (σ ++ τ) k) → T (firsts σ k) ⊎ T (firsts τ k)
firsts_parts [] τ k t = inr t
firsts_parts (h ∷ σ) τ k t =
    ⊎_elim (λ (p : T (first h k)). inl (or_left (first h k) (nullable h && firsts σ k) p))
    (λ (p : T (nullable h && firsts (σ ++ τ) k)).
    ⊎_elim
    (λ (q : T (firsts σ k)).
    inl (or_right (first h k) (nullable h && firsts σ k) (and_both (nullable h) (firsts σ k) (and_left (nullable h) (firsts (σ ++ τ) k) p) q)))
    (λ (q : T (firsts τ k)). inr q)
    (firsts_parts σ τ k (and_right (nullable h) (firsts (σ ++ τ) k) p)))
    (or_cases (first h k) (nullable h && firsts (σ ++ τ) k) t)

firsts_one : (g : Sets) (k : List ℕ) → T (firsts (g ∷ []) k) → T (has g k)
firsts_one g k t =
    ⊎_elim (λ (p : T (first g k)). first_has g k p) (λ (p : T (nullable g && false)). absurd (and_right (nullable g) false p))
    (or_cases (first g k) (nullable g && false) t)

cond_firsts : (b : Bool) (σ τ : List Sets) (k : List ℕ) → T (firsts (cond b σ τ) k) → T (firsts σ k) ⊎ T (firsts τ k)
cond_firsts true σ τ k t = inl t
cond_firsts false σ τ k t = inr t

after_has : (g : Sets) (l k : List ℕ) → T (firsts (after g l) k) → T (has g k)
after_has Nothing l k t = absurd t
after_has (Kind j) l k t = absurd t
after_has (Then a b) l k t =
    ⊎_elim
    (λ (p : T (firsts (after a l ++ (b ∷ [])) k)).
    ⊎_elim (λ (q : T (firsts (after a l) k)). or_left (has a k) (has b k) (after_has a l k q))
    (λ (q : T (firsts (b ∷ []) k)). or_right (has a k) (has b k) (firsts_one b k q))
    (firsts_parts (after a l) (b ∷ []) k p))
    (λ (p : T (firsts (after b l) k)). or_right (has a k) (has b k) (after_has b l k p))
    (cond_firsts (has a l) (after a l ++ (b ∷ [])) (after b l) k t)
after_has (AnyNumber a) l k t =
    ⊎_elim (λ (q : T (firsts (after a l) k)). after_has a l k q) (λ (q : T (firsts (AnyNumber a ∷ []) k)). firsts_one (AnyNumber a) k q)
    (firsts_parts (after a l) (AnyNumber a ∷ []) k t)
after_has (OneOrMore a) l k t =
    ⊎_elim (λ (q : T (firsts (after a l) k)). after_has a l k q) (λ (q : T (firsts (AnyNumber a ∷ []) k)). firsts_one (AnyNumber a) k q)
    (firsts_parts (after a l) (AnyNumber a ∷ []) k t)
after_has (Perhaps a) l k t = after_has a l k t
after_has (Either a b) l k t =
    ⊎_elim (λ (p : T (firsts (after a l) k)). or_left (has a k) (has b k) (after_has a l k p))
    (λ (p : T (firsts (after b l) k)). or_right (has a k) (has b k) (after_has b l k p))
    (cond_firsts (has a l) (after a l) (after b l) k t)

-- a kind that may come next stands in the set
pub may_has : (g : Sets) (at : At) (k : List ℕ) → T (may g at k) → T (has g k)
may_has g start k t = firsts_one g k t
may_has g (last l) k t = after_has g l k t
