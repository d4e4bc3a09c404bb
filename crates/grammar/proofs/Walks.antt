-- The walk is right for every set in which each kind stands once. Assumes nothing.
use Prim.Native.Nat.{ℕ, suc, ◌<◌, ◌+◌}
use native.Mathlib.Nat.{add-zero, add-suc, suc-add}
use native.Mathlib.Omega.{arith}
use mathlib.Core.Path.{◌≡◌, refl, sym, ap, ◌∙◌, subst}
use mathlib.Core.Bool.{Bool, true, false, cond}
use mathlib.Core.Logic.Iff
use mathlib.Core.Logic.{◌↔◌}
use mathlib.Core.List.{List, [], ◌∷◌, ◌++◌, append-nil, append_assoc}
use lib.Dec.{T, ltb, ltb→lt, nltb→le, not_T}
use lib.ListN.{length, take, drop, length-append, take-append-drop}
use lib.Seq.{append_snoc, take_at, take-take}
use Rattle.grammar.specs.Sets.{Sets, Under}
use Rattle.grammar.specs.Right.{Completes, StoppedRight, ThroughRight}
use Rattle.grammar.specs.Walk.{Once, At, start, last, to_read, may, ends, Walked, stopped, through, walk, Goes, Ended, RightWalk}
use Rattle.text.proofs.Tests.{cond_true, cond_false, by_test}
use Rattle.grammar.proofs.Runs.{Run, run_one, one_run, nulls_yes, nulls_of, some_run}
use Rattle.grammar.proofs.Left.{Good, good, whole_fits, firsts_has, run_sound, run_begins}

-- what the grammar asks after the kinds so far is what is left to read
record Inv (g : Sets) (pre : List (List ℕ)) (at : At) : Type 0 where
  ok : Good g (to_read g at)
  to : (u : List (List ℕ)) → Under g (pre ++ u) → Run (to_read g at) u
  from : (u : List (List ℕ)) → Run (to_read g at) u → Under g (pre ++ u)

-- a kind that may come is read
step : (g : Sets) → Once g → (pre : List (List ℕ)) (at : At) → Inv g pre at → (k : List ℕ) → T (may g at k)
    → Inv g (pre ++ (k ∷ [])) (last k)
step g once pre at v k t =
    record {
      ok = good g once k (firsts_has g (to_read g at) v.ok k t);
      to = λ u d. (run_begins g (to_read g at) v.ok k u (v.to (k ∷ u) (subst (λ (l : List (List ℕ)). Under g l) (append_snoc pre k u) d))).1;
      from = λ u p. subst (λ (l : List (List ℕ)). Under g l) (sym (append_snoc pre k u)) (v.from (k ∷ u) (run_sound g (to_read g at) v.ok k u t p));
    }

-- so some complete list begins with the kinds so far, they are complete where the list may end,
-- and no complete list begins with them and a kind that may not come
so_far_begins : (g : Sets) (pre : List (List ℕ)) (at : At) → Inv g pre at → Completes g pre
so_far_begins g pre at v = ((some_run (to_read g at)).0, v.from (some_run (to_read g at)).0 (some_run (to_read g at)).1)

so_far_ends : (g : Sets) (pre : List (List ℕ)) (at : At) → Inv g pre at → T (ends g at) ↔ Under g pre
so_far_ends g pre at v = (
  λ t. subst (λ (l : List (List ℕ)). Under g l) (append-nil pre) (v.from [] (nulls_yes (to_read g at) t)),
  λ d. nulls_of (to_read g at) (v.to [] (subst (λ (l : List (List ℕ)). Under g l) (sym (append-nil pre)) d)),
)

may_not : (g : Sets) (pre : List (List ℕ)) (at : At) → Inv g pre at → (k : List ℕ) → (T (may g at k) → ⊥)
    → Completes g (pre ++ (k ∷ [])) → ⊥
may_not g pre at v k no-may c =
    let d : Under g (pre ++ k ∷ c.0) = subst (λ (l : List (List ℕ)). Under g l) (append_snoc pre k c.0) c.1 in
    no-may (run_begins g (to_read g at) v.ok k c.0 (v.to (k ∷ c.0) d)).0

stopped_here : (g : Sets) (pre ks : List (List ℕ)) (k : List ℕ) → Completes g pre → (Completes g (pre ++ (k ∷ [])) → ⊥)
    → (all : List (List ℕ)) (i : ℕ) → pre ++ k ∷ ks ≡ all → length pre ≡ i → StoppedRight g all i
stopped_here g pre ks k c no_more all i e n =
    let whole : (pre ++ (k ∷ [])) ++ ks ≡ all = append_snoc pre k ks ∙ e in
    let to-here : pre ≡ take i all = sym (take_at pre (k ∷ ks) i n) ∙ ap (λ (l : List (List ℕ)). take i l) e in
    let long : length (pre ++ (k ∷ [])) ≡ suc i = omega (arith, length-append pre (k ∷ [])) in
    let past : take (suc i) all ≡ pre ++ (k ∷ []) =
    ap (λ (l : List (List ℕ)). take (suc i) l) (sym whole) ∙ take_at (pre ++ (k ∷ [])) ks (suc i) long in
    record {
      within = omega (arith, length-append pre (k ∷ ks), ap (λ (l : List (List ℕ)). length l) e);
      before = subst (λ (l : List (List ℕ)). Completes g l) to-here c;
      after = λ d. no_more (subst (λ (l : List (List ℕ)). Completes g l) past d);
    }

walk_right : (g : Sets) → Once g → (ks pre all : List (List ℕ)) (i : ℕ) (at : At) → pre ++ ks ≡ all → length pre ≡ i
    → Inv g pre at → RightWalk g all (walk g at i ks)
walk_right g once [] pre all i at e n v =
    subst (λ (l : List (List ℕ)). ThroughRight g l (ends g at)) (sym (append-nil pre) ∙ e)
    (record { begun = so_far_begins g pre at v; whole = so_far_ends g pre at v })
walk_right g once (k ∷ ks) pre all i at e n v =
    by_test (may g at k)
    (λ (t : T (may g at k)).
    subst (λ (w : Walked At). RightWalk g all w) (sym (cond_true (may g at k) _ _ t))
    (walk_right g once ks (pre ++ (k ∷ [])) all (suc i) (last k) (append_snoc pre k ks ∙ e)
    (omega (arith, length-append pre (k ∷ []))) (step g once pre at v k t)))
    (λ (t : T (may g at k) → ⊥).
    subst (λ (w : Walked At). RightWalk g all w) (sym (cond_false (may g at k) _ _ t))
    (stopped_here g pre ks k (so_far_begins g pre at v) (may_not g pre at v k t) all i e n))

-- the walk is right
pub right_walk : (g : Sets) → Once g → (ks : List (List ℕ)) → RightWalk g ks (walk g start 0 ks)
right_walk g once ks =
    walk_right g once ks [] ks 0 start refl refl
    (record {
      ok = (whole_fits g once, tt);
      to = λ u d. one_run g u d;
      from = λ u p. run_one g u p;
    })

-- a beginning of a list that has a completion has one
pub shorter : (g : Sets) (n : ℕ) (ks : List (List ℕ)) → Completes g ks → Completes g (take n ks)
shorter g n ks c = (
  drop n ks ++ c.0,
  subst (λ (l : List (List ℕ)). Under g l)
      (ap (λ (l : List (List ℕ)). l ++ c.0) (sym (take-append-drop n ks)) ∙ append_assoc (take n ks) (drop n ks) c.0)
      c.1,
)

-- a list that stopped somewhere has no completion
pub stopped_or_begun : (g : Sets) (ks : List (List ℕ)) (i : ℕ) → StoppedRight g ks i → Completes g ks → ⊥
stopped_or_begun g ks i r c = r.after (shorter g (suc i) ks c)

-- a list under the grammar has a completion: itself
pub under_completes : (g : Sets) (ks : List (List ℕ)) → Under g ks → Completes g ks
under_completes g ks d = ([], rw append-nil d)

-- a list stops at one place only
not_before : (g : Sets) (ks : List (List ℕ)) (i j : ℕ) → StoppedRight g ks i → StoppedRight g ks j → i < j → ⊥
not_before g ks i j p q h =
    p.after (subst (λ (l : List (List ℕ)). Completes g l) (take-take (suc i) j ks h) (shorter g (suc i) (take j ks) q.before))

pub one_place : (g : Sets) (ks : List (List ℕ)) (i j : ℕ) → StoppedRight g ks i → StoppedRight g ks j → i ≡ j
one_place g ks i j p q =
    by_test (ltb i j)
    (λ (t : T (ltb i j)). absurd (not_before g ks i j p q (ltb→lt i j t)))
    (λ (s : T (ltb i j) → ⊥).
    by_test (ltb j i)
    (λ (t : T (ltb j i)). absurd (not_before g ks j i q p (ltb→lt j i t)))
    (λ (t : T (ltb j i) → ⊥). omega (arith, nltb→le i j (not_T (ltb i j) s), nltb→le j i (not_T (ltb j i) t))))

goes : (g : Sets) (ks : List (List ℕ)) (w : Walked At) → RightWalk g ks w → Goes w ↔ Completes g ks
goes g ks (stopped i) r = (λ e. absurd e, λ c. stopped_or_begun g ks i r c)
goes g ks (through at) r = (λ e. r.begun, λ c. tt)

ended : (g : Sets) (ks : List (List ℕ)) (w : Walked At) → RightWalk g ks w → Ended g w ↔ Under g ks
ended g ks (stopped i) r = (λ e. absurd e, λ d. stopped_or_begun g ks i r (under_completes g ks d))
ended g ks (through at) r = r.whole

-- the walk goes through exactly when some complete list begins so
pub goes_through_iff : (g : Sets) → Once g → (ks : List (List ℕ)) → Goes (walk g start 0 ks) ↔ Completes g ks
goes_through_iff g once ks = goes g ks (walk g start 0 ks) (right_walk g once ks)

-- the walk ends exactly when the list stands under the grammar
pub complete_iff : (g : Sets) → Once g → (ks : List (List ℕ)) → Ended g (walk g start 0 ks) ↔ Under g ks
complete_iff g once ks = ended g ks (walk g start 0 ks) (right_walk g once ks)

-- where the walk stops is the first place after which no completion exists
pub stops_first : (g : Sets) → Once g → (ks : List (List ℕ)) (i : ℕ) → walk g start 0 ks ≡ stopped i → StoppedRight g ks i
stops_first g once ks i e = subst (λ (w : Walked At). RightWalk g ks w) e (right_walk g once ks)

-- a walk that went through stands at one place
pub through_one : {S : Type 0} {s t : S} → through s ≡ through t → s ≡ t
through_one e = cc

-- no walk both stops and goes through
pub never_both : {S : Type 0} {i : ℕ} {s : S} → stopped i ≡ through s → ⊥
never_both e = let z : ◌≡◌ {A = ℕ} 0 1 = cc in omega arith

-- a walk that went through a list goes on from where it stands
pub walk_on : (g : Sets) (at to : At) (i : ℕ) (ks ls : List (List ℕ)) → walk g at i ks ≡ through to
    → walk g at i (ks ++ ls) ≡ walk g to (i + length ks) ls
walk_on g at to i [] ls e = rw add-zero (ap (λ (s : At). walk g s i ls) (through_one e))
walk_on g at to i (k ∷ ks) ls e =
    by_test (may g at k)
    (λ (t : T (may g at k)).
    cond_true (may g at k) _ _ t
    ∙ walk_on g (last k) to (suc i) ks ls (sym (cond_true (may g at k) _ _ t) ∙ e)
    ∙ ap (λ (n : ℕ). walk g to n ls) (suc-add i (length ks) ∙ sym (add-suc i (length ks))))
    (λ (t : T (may g at k) → ⊥). absurd (never_both (sym (cond_false (may g at k) _ _ t) ∙ e)))

-- a walk over one kind goes through where the kind may come
one_kind : (b : Bool) (at : At) (i : ℕ) → T b ↔ Goes (cond b (through at) (stopped i))
one_kind true at i = (λ t. tt, λ t. tt)
one_kind false at i = (λ t. t, λ t. t)

-- where a walk stands, the kinds that may come next are those with which a completion exists
pub may_iff : (g : Sets) → Once g → (ks : List (List ℕ)) (at : At) → walk g start 0 ks ≡ through at
    → (k : List ℕ) → T (may g at k) ↔ Completes g (ks ++ (k ∷ []))
may_iff g once ks at e k =
    Iff.trans (one_kind (may g at k) (last k) (0 + length ks))
    (subst (λ (w : Walked At). Goes w ↔ Completes g (ks ++ (k ∷ []))) (walk_on g start at 0 ks (k ∷ []) e)
    (goes_through_iff g once (ks ++ (k ∷ []))))
