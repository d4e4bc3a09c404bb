-- Lists of kinds under sets read one after the other, and when the empty list is one. Assumes nothing.
use Prim.Native.Nat.{ℕ}
use mathlib.Core.Path.{◌≡◌, refl, sym, ap, ◌∙◌, subst}
use mathlib.Core.Logic.{◌⊎◌, inl, inr, ⊎_elim}
use mathlib.Core.List.{List, [], ◌∷◌, ◌++◌, append-nil, append_assoc, cons≢nil, head-eq_of_cons-eq, tail-eq_of_cons-eq}
use lib.Dec.{T}
use Rattle.grammar.specs.Sets.{Sets, Nothing, Kind, Then, AnyNumber, OneOrMore, Perhaps, Either, Under, empty, alone, joined, none, again, some, absent, present, this, other}
use Rattle.grammar.specs.Walk.{nullable, nulls}
use Rattle.text.proofs.Tests.{or_cases, or_left, or_right, and_left, and_right, and_both}

-- how a joined list can be empty, and how it can begin
pub nil_parts : (s t : List (List ℕ)) → s ++ t ≡ [] → (s ≡ []) × (t ≡ [])
nil_parts [] t e = (refl, e)
nil_parts (x ∷ s) t e = absurd (cons≢nil e)

pub cons_parts : (s t : List (List ℕ)) (k : List ℕ) (r : List (List ℕ)) → s ++ t ≡ k ∷ r
    → ((s ≡ []) × (t ≡ k ∷ r)) ⊎ ((s' : List (List ℕ)) × (s ≡ k ∷ s') × (s' ++ t ≡ r))
cons_parts [] t k r e = inl (refl, e)
cons_parts (x ∷ s) t k r e = inr (s, ap (λ (y : List ℕ). y ∷ s) (head-eq_of_cons-eq e), tail-eq_of_cons-eq e)

-- lists of sets, read one after the other
abbrev pub Run : List Sets → List (List ℕ) → Type 0
Run [] u = u ≡ []
Run (h ∷ σ) u = (s : List (List ℕ)) × (t : List (List ℕ)) × Under h s × Run σ t × (s ++ t ≡ u)

pub run_join : (σ τ : List Sets) (s t : List (List ℕ)) → Run σ s → Run τ t → Run (σ ++ τ) (s ++ t)
run_join [] τ s t p q = rw p q
run_join (h ∷ σ) τ s t p q =
    (p.0, p.1 ++ t, p.2, run_join σ τ p.1 t p.3 q, sym (append_assoc p.0 p.1 t) ∙ ap (λ (l : List (List ℕ)). l ++ t) p.4)

pub run_split : (σ τ : List Sets) (u : List (List ℕ)) → Run (σ ++ τ) u
    → (s : List (List ℕ)) × (t : List (List ℕ)) × Run σ s × Run τ t × (s ++ t ≡ u)
run_split [] τ u p = ([], u, refl, p, refl)
run_split (h ∷ σ) τ u p =
    let q : (s : List (List ℕ)) × (t : List (List ℕ)) × Run σ s × Run τ t × (s ++ t ≡ p.1) = run_split σ τ p.1 p.3 in
    (p.0 ++ q.0, q.1, (p.0, q.0, p.2, q.2, refl), q.3, append_assoc p.0 q.0 q.1 ∙ ap (λ (l : List (List ℕ)). p.0 ++ l) q.4 ∙ p.4)

pub run_one : (g : Sets) (u : List (List ℕ)) → Run (g ∷ []) u → Under g u
run_one g u p =
    subst (λ (l : List (List ℕ)). Under g l) (sym (append-nil p.0) ∙ ap (λ (l : List (List ℕ)). p.0 ++ l) (sym p.3) ∙ p.4) p.2

pub one_run : (g : Sets) (u : List (List ℕ)) → Under g u → Run (g ∷ []) u
one_run g u d = (u, [], d, refl, append-nil u)

-- a list under one more set behind the others, and how it parts
pub run_behind : (σ : List Sets) (b : Sets) (s t r : List (List ℕ)) → Run σ s → Under b t → s ++ t ≡ r → Run (σ ++ (b ∷ [])) r
run_behind σ b s t r p d e = subst (λ (l : List (List ℕ)). Run (σ ++ (b ∷ [])) l) e (run_join σ (b ∷ []) s t p (one_run b t d))

pub run_before : (σ : List Sets) (b : Sets) (r : List (List ℕ)) → Run (σ ++ (b ∷ [])) r
    → (s : List (List ℕ)) × (t : List (List ℕ)) × Run σ s × Under b t × (s ++ t ≡ r)
run_before σ b r p =
    let q : (s : List (List ℕ)) × (t : List (List ℕ)) × Run σ s × Run (b ∷ []) t × (s ++ t ≡ r) = run_split σ (b ∷ []) r p in
    (q.0, q.1, q.2, run_one b q.1 q.3, q.4)

-- the empty list stands under a set exactly when the set is nullable
pub null_yes : (g : Sets) → T (nullable g) → Under g []
null_yes Nothing t = empty
null_yes (Kind j) t = absurd t
null_yes (Then a b) t = joined (null_yes a (and_left (nullable a) (nullable b) t)) (null_yes b (and_right (nullable a) (nullable b) t))
null_yes (AnyNumber a) t = none
null_yes (OneOrMore a) t = some (null_yes a t) none
null_yes (Perhaps a) t = absent
null_yes (Either a b) t =
    ⊎_elim (λ (p : T (nullable a)). this (null_yes a p)) (λ (p : T (nullable b)). other (null_yes b p)) (or_cases (nullable a) (nullable b) t)

pub null_of : {g : Sets} {u : List (List ℕ)} → Under g u → u ≡ [] → T (nullable g)
null_of empty e = tt
null_of alone e = absurd (cons≢nil e)
null_of (joined {a = a} {b = b} {s = s} {t = t} d d') e =
    and_both (nullable a) (nullable b) (null_of d (nil_parts s t e).0) (null_of d' (nil_parts s t e).1)
null_of none e = tt
null_of (again d d') e = tt
null_of (some {s = s} {t = t} d d') e = null_of d (nil_parts s t e).0
null_of absent e = tt
null_of (present d) e = tt
null_of (this {a = a} {b = b} d) e = or_left (nullable a) (nullable b) (null_of d e)
null_of (other {a = a} {b = b} d) e = or_right (nullable a) (nullable b) (null_of d e)

pub nulls_yes : (σ : List Sets) → T (nulls σ) → Run σ []
nulls_yes [] t = refl
nulls_yes (h ∷ σ) t = ([], [], null_yes h (and_left (nullable h) (nulls σ) t), nulls_yes σ (and_right (nullable h) (nulls σ) t), refl)

pub nulls_of : (σ : List Sets) → Run σ [] → T (nulls σ)
nulls_of [] p = tt
nulls_of (h ∷ σ) p =
    let q : (p.0 ≡ []) × (p.1 ≡ []) = nil_parts p.0 p.1 p.4 in
    and_both (nullable h) (nulls σ) (null_of p.2 q.0) (nulls_of σ (subst (λ (l : List (List ℕ)). Run σ l) q.1 p.3))

-- some list stands under each set, and under sets one after the other
some_list : (g : Sets) → (u : List (List ℕ)) × Under g u
some_list Nothing = ([], empty)
some_list (Kind k) = (k ∷ [], alone)
some_list (Then a b) = ((some_list a).0 ++ (some_list b).0, joined (some_list a).1 (some_list b).1)
some_list (AnyNumber a) = ([], none)
some_list (OneOrMore a) = ((some_list a).0 ++ [], some (some_list a).1 none)
some_list (Perhaps a) = ([], absent)
some_list (Either a b) = ((some_list a).0, this (some_list a).1)

pub some_run : (σ : List Sets) → (u : List (List ℕ)) × Run σ u
some_run [] = ([], refl)
some_run (h ∷ σ) =
    ((some_list h).0 ++ (some_run σ).0, ((some_list h).0, (some_run σ).0, (some_list h).1, (some_run σ).1, refl))
