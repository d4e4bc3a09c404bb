-- What is left after a kind: to read the kind and then that is to read the set. Assumes nothing.
use Prim.Native.Nat.{ℕ}
use mathlib.Core.Path.{◌≡◌, refl, sym, ap, ◌∙◌, subst}
use mathlib.Core.Bool.{◌&&◌}
use mathlib.Core.Logic.{⊎_elim}
use mathlib.Core.List.{List, [], ◌∷◌, ◌++◌, append-nil, append_assoc, cons≢nil, nil≢cons, head-eq_of_cons-eq, tail-eq_of_cons-eq}
use lib.Dec.{T}
use Rattle.text.specs.Order.{same_bytes}
use Rattle.text.proofs.Lists.{same→≡, same_refl}
use Rattle.grammar.specs.Sets.{Sets, Nothing, Kind, Then, AnyNumber, OneOrMore, Perhaps, Either, Under, empty, alone, joined, none, again, some, absent, present, this, other}
use Rattle.grammar.specs.Walk.{has, nullable, first, after, firsts, Apart, Once}
use Rattle.text.proofs.Tests.{or_cases, or_left, or_right, or_second, and_left, and_right, and_both, cond_true, cond_false, by_test, holds}
use Rattle.grammar.proofs.Runs.{cons_parts, Run, run_join, run_split, run_behind, run_before, null_yes, null_of}

-- a kind that may come first stands in the set
pub first_has : (g : Sets) (k : List ℕ) → T (first g k) → T (has g k)
first_has Nothing k t = t
first_has (Kind j) k t = t
first_has (Then a b) k t =
    ⊎_elim (λ (p : T (first a k)). or_left (has a k) (has b k) (first_has a k p))
    (λ (p : T (nullable a && first b k)). or_right (has a k) (has b k) (first_has b k (and_right (nullable a) (first b k) p)))
    (or_cases (first a k) (nullable a && first b k) t)
first_has (AnyNumber a) k t = first_has a k t
first_has (OneOrMore a) k t = first_has a k t
first_has (Perhaps a) k t = first_has a k t
first_has (Either a b) k t =
    ⊎_elim (λ (p : T (first a k)). or_left (has a k) (has b k) (first_has a k p))
    (λ (p : T (first b k)). or_right (has a k) (has b k) (first_has b k p))
    (or_cases (first a k) (first b k) t)

-- a kind that may come first, and a list under what is left after it, make a list under the set
sound : (g : Sets) → Once g → (k : List ℕ) (r : List (List ℕ)) → T (first g k) → Run (after g k) r → Under g (k ∷ r)
sound Nothing once k r t p = absurd t
sound (Kind j) once k r t p = rw (p, same→≡ j k t) alone
sound (Then a b) once k r t p =
    ⊎_elim
    (λ (f : T (first a k)).
    let m : Run (after a k ++ (b ∷ [])) r = subst (λ (σ : List Sets). Run σ r) (cond_true (has a k) _ _ (first_has a k f)) p in
    let q : (s : List (List ℕ)) × (t : List (List ℕ)) × Run (after a k) s × Under b t × (s ++ t ≡ r) = run_before (after a k) b r m in
    subst (λ (l : List (List ℕ)). Under (Then a b) (k ∷ l)) q.4 (joined (sound a once.0 k q.0 f q.2) q.3))
    (λ (f : T (nullable a && first b k)).
    let fb : T (first b k) = and_right (nullable a) (first b k) f in
    let m : Run (after b k) r =
    subst (λ (σ : List Sets). Run σ r) (cond_false (has a k) _ _ (λ ha. once.2 k ha (first_has b k fb))) p in
    joined (null_yes a (and_left (nullable a) (first b k) f)) (sound b once.1 k r fb m))
    (or_cases (first a k) (nullable a && first b k) t)
sound (AnyNumber a) once k r t p =
    let q : (s : List (List ℕ)) × (t : List (List ℕ)) × Run (after a k) s × Under (AnyNumber a) t × (s ++ t ≡ r) =
    run_before (after a k) (AnyNumber a) r p in
    subst (λ (l : List (List ℕ)). Under (AnyNumber a) (k ∷ l)) q.4 (again (sound a once k q.0 t q.2) q.3)
sound (OneOrMore a) once k r t p =
    let q : (s : List (List ℕ)) × (t : List (List ℕ)) × Run (after a k) s × Under (AnyNumber a) t × (s ++ t ≡ r) =
    run_before (after a k) (AnyNumber a) r p in
    subst (λ (l : List (List ℕ)). Under (OneOrMore a) (k ∷ l)) q.4 (some (sound a once k q.0 t q.2) q.3)
sound (Perhaps a) once k r t p = present (sound a once k r t p)
sound (Either a b) once k r t p =
    ⊎_elim
    (λ (f : T (first a k)).
    this (sound a once.0 k r f (subst (λ (σ : List Sets). Run σ r) (cond_true (has a k) _ _ (first_has a k f)) p)))
    (λ (f : T (first b k)).
    other (sound b once.1 k r f
    (subst (λ (σ : List Sets). Run σ r) (cond_false (has a k) _ _ (λ ha. once.2 k ha (first_has b k f))) p)))
    (or_cases (first a k) (first b k) t)

-- and the other way: a list under the set that begins with the kind
abbrev Begins : Sets → List ℕ → List (List ℕ) → Type 0
Begins g k r = T (first g k) × Run (after g k) r

loop_begins : (a : Sets) (s t : List (List ℕ)) (k : List ℕ) (r : List (List ℕ)) → s ++ t ≡ k ∷ r → Under (AnyNumber a) t
    → ((s' : List (List ℕ)) → s ≡ k ∷ s' → Begins a k s') → (t ≡ k ∷ r → Begins (AnyNumber a) k r) → Begins (AnyNumber a) k r
loop_begins a s t k r e d inside behind =
    ⊎_elim (λ (q : (s ≡ []) × (t ≡ k ∷ r)). behind q.1)
    (λ (q : (s' : List (List ℕ)) × (s ≡ k ∷ s') × (s' ++ t ≡ r)).
    ((inside q.0 q.1).0, run_behind (after a k) (AnyNumber a) q.0 t r (inside q.0 q.1).1 d q.2))
    (cons_parts s t k r e)

begins : {g : Sets} {u : List (List ℕ)} → Under g u → Once g → (k : List ℕ) (r : List (List ℕ)) → u ≡ k ∷ r → Begins g k r
begins empty once k r e = absurd (nil≢cons e)
begins (alone {k = j}) once k r e =
    (subst (λ (i : List ℕ). T (same_bytes j i)) (head-eq_of_cons-eq e) (holds (same_refl j)), sym (tail-eq_of_cons-eq e))
begins (joined {a = a} {b = b} {s = s} {t = t} d d') once k r e =
    ⊎_elim
    (λ (q : (s ≡ []) × (t ≡ k ∷ r)).
    let m : Begins b k r = begins d' once.1 k r q.1 in (
      or_right (first a k) (nullable a && first b k) (and_both (nullable a) (first b k) (null_of d q.0) m.0),
      subst (λ (σ : List Sets). Run σ r) (sym (cond_false (has a k) _ _ (λ ha. once.2 k ha (first_has b k m.0)))) m.1,
    ))
    (λ (q : (s' : List (List ℕ)) × (s ≡ k ∷ s') × (s' ++ t ≡ r)).
    let m : Begins a k q.0 = begins d once.0 k q.0 q.1 in (
      or_left (first a k) (nullable a && first b k) m.0,
      subst (λ (σ : List Sets). Run σ r) (sym (cond_true (has a k) _ _ (first_has a k m.0)))
          (run_behind (after a k) b q.0 t r m.1 d' q.2),
    ))
    (cons_parts s t k r e)
begins none once k r e = absurd (nil≢cons e)
begins (again {a = a} {s = s} {t = t} d d') once k r e =
    loop_begins a s t k r e d' (λ s' f. begins d once k s' f) (λ f. begins d' once k r f)
begins (some {a = a} {s = s} {t = t} d d') once k r e =
    loop_begins a s t k r e d' (λ s' f. begins d once k s' f) (λ f. begins d' once k r f)
begins absent once k r e = absurd (nil≢cons e)
begins (present d) once k r e = begins d once k r e
begins (this {a = a} {b = b} d) once k r e =
    let m : Begins a k r = begins d once.0 k r e in (
      or_left (first a k) (first b k) m.0,
      subst (λ (σ : List Sets). Run σ r) (sym (cond_true (has a k) _ _ (first_has a k m.0))) m.1,
    )
begins (other {a = a} {b = b} d) once k r e =
    let m : Begins b k r = begins d once.1 k r e in (
      or_right (first a k) (first b k) m.0,
      subst (λ (σ : List Sets). Run σ r) (sym (cond_false (has a k) _ _ (λ ha. once.2 k ha (first_has b k m.0)))) m.1,
    )

-- what is left after a kind is the same by whatever set that is still to be read
pub record Fits (g h : Sets) (σ : List Sets) : Type 0 where
  pub once : Once h
  pub same : (j : List ℕ) → T (has h j) → T (has g j) × (after h j ++ σ ≡ after g j)

abbrev pub Good : Sets → List Sets → Type 0
Good g [] = Unit {0}
Good g (h ∷ σ) = Fits g h σ × Good g σ

good_up : (g a : Sets) (σ τ : List Sets) → Fits g a τ → Good g τ → Good a σ → Good g (σ ++ τ)
good_up g a [] τ f q p = q
good_up g a (h ∷ σ) τ f q p = (
  record {
    once = p.0.once;
    same = λ j t. (
      (f.same j (p.0.same j t).0).0,
      sym (append_assoc (after h j) σ τ) ∙ ap (λ (l : List Sets). l ++ τ) (p.0.same j t).1 ∙ (f.same j (p.0.same j t).0).1,
    );
  },
  good_up g a σ τ f q p.1,
)

good_up_nil : (g a : Sets) (σ : List Sets) → Fits g a [] → Good a σ → Good g σ
good_up_nil g a σ f p = subst (λ (l : List Sets). Good g l) (append-nil σ) (good_up g a σ [] f tt p)

-- a part fits into its whole
module _ (a b : Sets) (once : Once a × Once b × Apart a b) where
  then_first : Fits (Then a b) a (b ∷ [])
  then_first =
      record { once = once.0; same = λ j q. (or_left (has a j) (has b j) q, sym (cond_true (has a j) _ _ q)) }

  then_second : Fits (Then a b) b []
  then_second =
      record {
        once = once.1;
        same = λ j q.
            (or_right (has a j) (has b j) q, append-nil (after b j) ∙ sym (cond_false (has a j) _ _ (λ h. once.2 j h q)));
      }

  either_first : Fits (Either a b) a []
  either_first =
      record {
        once = once.0;
        same = λ j q. (or_left (has a j) (has b j) q, append-nil (after a j) ∙ sym (cond_true (has a j) _ _ q));
      }

  either_second : Fits (Either a b) b []
  either_second =
      record {
        once = once.1;
        same = λ j q.
            (or_right (has a j) (has b j) q, append-nil (after b j) ∙ sym (cond_false (has a j) _ _ (λ h. once.2 j h q)));
      }

pub whole_fits : (g : Sets) → Once g → Fits g g []
whole_fits g once = record { once = once; same = λ j q. (q, append-nil (after g j)) }

pub good : (g : Sets) → Once g → (k : List ℕ) → T (has g k) → Good g (after g k)
good Nothing once k t = absurd t
good (Kind j) once k t = tt
good (Then a b) once k t =
    by_test (has a k)
    (λ (ha : T (has a k)).
    subst (λ (l : List Sets). Good (Then a b) l) (sym (cond_true (has a k) _ _ ha))
    (good_up (Then a b) a (after a k) (b ∷ []) (then_first a b once) (then_second a b once, tt) (good a once.0 k ha)))
    (λ (na : T (has a k) → ⊥).
    subst (λ (l : List Sets). Good (Then a b) l) (sym (cond_false (has a k) _ _ na))
    (good_up_nil (Then a b) b (after b k) (then_second a b once) (good b once.1 k (or_second (has a k) (has b k) na t))))
good (AnyNumber a) once k t =
    good_up (AnyNumber a) a (after a k) (AnyNumber a ∷ []) (record { once = once; same = λ j q. (q, refl) })
    (whole_fits (AnyNumber a) once, tt) (good a once k t)
good (OneOrMore a) once k t =
    good_up (OneOrMore a) a (after a k) (AnyNumber a ∷ []) (record { once = once; same = λ j q. (q, refl) })
    (record { once = once; same = λ j q. (q, append-nil (after (AnyNumber a) j)) }, tt) (good a once k t)
good (Perhaps a) once k t =
    good_up_nil (Perhaps a) a (after a k) (record { once = once; same = λ j q. (q, append-nil (after a j)) }) (good a once k t)
good (Either a b) once k t =
    by_test (has a k)
    (λ (ha : T (has a k)).
    subst (λ (l : List Sets). Good (Either a b) l) (sym (cond_true (has a k) _ _ ha))
    (good_up_nil (Either a b) a (after a k) (either_first a b once) (good a once.0 k ha)))
    (λ (na : T (has a k) → ⊥).
    subst (λ (l : List Sets). Good (Either a b) l) (sym (cond_false (has a k) _ _ na))
    (good_up_nil (Either a b) b (after b k) (either_second a b once) (good b once.1 k (or_second (has a k) (has b k) na t))))

-- the same of sets read one after the other
pub firsts_has : (g : Sets) (σ : List Sets) → Good g σ → (k : List ℕ) → T (firsts σ k) → T (has g k)
firsts_has g [] ok k t = absurd t
firsts_has g (h ∷ σ) ok k t =
    ⊎_elim (λ (f : T (first h k)). (ok.0.same k (first_has h k f)).0)
    (λ (f : T (nullable h && firsts σ k)). firsts_has g σ ok.1 k (and_right (nullable h) (firsts σ k) f))
    (or_cases (first h k) (nullable h && firsts σ k) t)

pub run_sound : (g : Sets) (σ : List Sets) → Good g σ → (k : List ℕ) (r : List (List ℕ)) → T (firsts σ k) → Run (after g k) r → Run σ (k ∷ r)
run_sound g [] ok k r t p = absurd t
run_sound g (h ∷ σ) ok k r t p =
    ⊎_elim
    (λ (f : T (first h k)).
    let m : Run (after h k ++ σ) r = subst (λ (l : List Sets). Run l r) (sym (ok.0.same k (first_has h k f)).1) p in
    let q : (s : List (List ℕ)) × (t : List (List ℕ)) × Run (after h k) s × Run σ t × (s ++ t ≡ r) = run_split (after h k) σ r m in
    (k ∷ q.0, q.1, sound h ok.0.once k q.0 f q.2, q.3, ap (λ (l : List (List ℕ)). k ∷ l) q.4))
    (λ (f : T (nullable h && firsts σ k)).
    ([], k ∷ r, null_yes h (and_left (nullable h) (firsts σ k) f), run_sound g σ ok.1 k r (and_right (nullable h) (firsts σ k) f) p, refl))
    (or_cases (first h k) (nullable h && firsts σ k) t)

pub run_begins : (g : Sets) (σ : List Sets) → Good g σ → (k : List ℕ) (r : List (List ℕ)) → Run σ (k ∷ r) → T (firsts σ k) × Run (after g k) r
run_begins g [] ok k r p = absurd (cons≢nil p)
run_begins g (h ∷ σ) ok k r p =
    ⊎_elim
    (λ (q : (p.0 ≡ []) × (p.1 ≡ k ∷ r)).
    let m : T (firsts σ k) × Run (after g k) r =
    run_begins g σ ok.1 k r (subst (λ (l : List (List ℕ)). Run σ l) q.1 p.3) in
    (or_right (first h k) (nullable h && firsts σ k) (and_both (nullable h) (firsts σ k) (null_of p.2 q.0) m.0), m.1))
    (λ (q : (s' : List (List ℕ)) × (p.0 ≡ k ∷ s') × (s' ++ p.1 ≡ r)).
    let m : Begins h k q.0 = begins p.2 ok.0.once k q.0 q.1 in (
      or_left (first h k) (nullable h && firsts σ k) m.0,
      subst (λ (l : List Sets). Run l r) (ok.0.same k (first_has h k m.0)).1
          (subst (λ (l : List (List ℕ)). Run (after h k ++ σ) l) q.2 (run_join (after h k) σ q.0 p.1 m.1 p.3)),
    ))
    (cons_parts p.0 p.1 k r p.4)
