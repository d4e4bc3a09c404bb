-- The walk by a table that agrees with a grammar is the grammar's walk. Assumes nothing.
use Prim.Native.Nat.{ℕ, zero, suc, ◌+◌, ◌<◌, ◌≤◌}
use native.Mathlib.Nat.{add-zero, add-suc, suc-add}
use native.Mathlib.Omega.{arith}
use mathlib.Core.Path.{◌≡◌, refl, sym, ap, ◌∙◌, subst}
use mathlib.Core.Bool.{Bool, true, false, beq, not, ◌&&◌}
use mathlib.Core.Logic.Iff
use mathlib.Core.Logic.{◌↔◌}
use mathlib.Core.List.{List, [], ◌∷◌, ◌++◌}
use lib.Dec.{T, eqb, eqb→eq, eqb_refl, eqb-suc-zero}
use lib.ListN.{length, get_or}
use Rattle.text.specs.Places.{each}
use Rattle.text.specs.Rules.{must}
use Rattle.grammar.specs.Sets.{Sets, Under}
use Rattle.grammar.specs.Right.{Completes, StoppedRight, ThroughRight}
use Rattle.grammar.specs.Walk.{kinds, among, distinct, Once, At, start, last, may, ends, Walked, stopped, through, walk, Goes, RightWalk}
use Rattle.grammar.specs.Table.{row_of, at_row, same_names, row_agrees, agrees, table_walk, standing}
use Rattle.text.proofs.Places.{each_at, place_name, place_most}
use Rattle.text.proofs.Tests.{and_left, and_right, cond_true, cond_false, by_test, holds, beq_eq, must_holds, must_fails}
use Rattle.grammar.proofs.Walks.{right_walk, goes_through_iff, stops_first, may_iff, one_place, stopped_or_begun, never_both, through_one}
use Rattle.grammar.proofs.Once.{has_among, once_by_test, may_has}
use Rattle.grammar.proofs.Rows.{names_same, row_none}

-- two rules that let one walk go through let every walk go on
both_hold : {S : Type 0} (a b : Bool) (i : ℕ) (s : S) (w v : Walked S) → must a (stopped i) (must b (stopped i) w) ≡ through s
    → must a (stopped i) (must b (stopped i) v) ≡ v
both_hold true true i s w v e = refl
both_hold true false i s w v e = absurd (never_both e)
both_hold false b i s w v e = absurd (never_both e)

module _ (names : List (List ℕ)) (bit : ℕ → ℕ → Bool) where
  -- where a walk by the table goes through, every walk that begins with the same kind goes on from the kind's row
  step_on : (r s i : ℕ) (k : List ℕ) (ks ls : List (List ℕ)) → table_walk names bit r i (k ∷ ks) ≡ through s
      → table_walk names bit r i (k ∷ ls) ≡ table_walk names bit (row_of names k) (suc i) ls
  step_on r s i k ks ls e = both_hold (not (eqb (row_of names k) 0)) (bit r (row_of names k)) i s _ _ e

  -- a walk by the table that went through a list goes on from its row
  pub table_on : (r s i : ℕ) (ks ls : List (List ℕ)) → table_walk names bit r i ks ≡ through s
      → table_walk names bit r i (ks ++ ls) ≡ table_walk names bit s (i + length ks) ls
  table_on r s i [] ls e = rw add-zero (ap (λ (q : ℕ). table_walk names bit q i ls) (through_one e))
  table_on r s i (k ∷ ks) ls e =
      step_on r s i k ks (ks ++ ls) e
      ∙ table_on (row_of names k) s (suc i) ks ls (sym (step_on r s i k ks ks e) ∙ e)
      ∙ ap (λ (n : ℕ). table_walk names bit s n ls) (suc-add i (length ks) ∙ sym (add-suc i (length ks)))

  -- the row to which a walk goes through is one of the table's
  within_from : (ks : List (List ℕ)) (r s i : ℕ) → r ≤ length names → table_walk names bit r i ks ≡ through s → s ≤ length names
  within_from [] r s i h e = subst (λ (q : ℕ). q ≤ length names) (through_one e) h
  within_from (k ∷ ks) r s i h e =
      within_from ks (row_of names k) s (suc i) (place_most k names) (sym (step_on r s i k ks ks e) ∙ e)

  pub table_within : (ks : List (List ℕ)) (r : ℕ) → table_walk names bit 0 0 ks ≡ through r → r ≤ length names
  table_within ks r e = within_from ks 0 r 0 (omega arith) e

-- what a walk by rows says of the grammar goes through where the walk does
goes_standing : (names : List (List ℕ)) (w : Walked ℕ) → Goes w ↔ Goes (standing names w)
goes_standing names (stopped i) = (λ t. t, λ t. t)
goes_standing names (through r) = (λ t. tt, λ t. tt)

-- a number test says that the numbers are equal
eqb_iff : (m n : ℕ) → (m ≡ n) ↔ T (eqb m n)
eqb_iff m n = (λ e. subst (λ (x : ℕ). T (eqb m x)) e (eqb_refl m), λ t. eqb→eq m n t)

module _ (names : List (List ℕ)) (bit : ℕ → ℕ → Bool) (g : Sets) (ok : agrees names bit g ≡ true) where
  -- what agrees, one part after the other
  three_agree : T (same_names names (kinds g) && distinct names && row_agrees names bit g 0 start)
  unfolding agrees
  three_agree =
      and_left (same_names names (kinds g) && distinct names && row_agrees names bit g 0 start)
      (each (λ r k. row_agrees names bit g r (last k)) 1 names) (holds ok)

  two_agree : T (same_names names (kinds g) && distinct names)
  two_agree = and_left (same_names names (kinds g) && distinct names) (row_agrees names bit g 0 start) three_agree

  rows_agree : T (each (λ r k. row_agrees names bit g r (last k)) 1 names)
  unfolding agrees
  rows_agree =
      and_right (same_names names (kinds g) && distinct names && row_agrees names bit g 0 start)
      (each (λ r k. row_agrees names bit g r (last k)) 1 names) (holds ok)

  -- the names are the grammar's kinds
  pub table_names : names ≡ kinds g
  table_names = names_same names (kinds g) (and_left (same_names names (kinds g)) (distinct names) two_agree)

  table_distinct : T (distinct names)
  table_distinct = and_right (same_names names (kinds g)) (distinct names) two_agree

  -- each kind stands once
  pub table_once : Once g
  table_once = once_by_test g (subst (λ (l : List (List ℕ)). T (distinct l)) table_names table_distinct)

  -- each row agrees
  row_agrees_lem : (r : ℕ) → r ≤ length names → T (row_agrees names bit g r (at_row names r))
  row_agrees_lem zero h = and_right (same_names names (kinds g) && distinct names) (row_agrees names bit g 0 start) three_agree
  row_agrees_lem (suc j) h = each_at (λ r k. row_agrees names bit g r (last k)) [] 1 names rows_agree j (suc j) h (omega arith)

  bit_may : (r q : ℕ) → r ≤ length names → q < length names → bit r (suc q) ≡ may g (at_row names r) (get_or names q [])
  bit_may r q h l =
      beq_eq _ _ (each_at (λ q k. beq (bit r q) (may g (at_row names r) k)) [] 1 names
      (and_left (each (λ q k. beq (bit r q) (may g (at_row names r) k)) 1 names) _ (row_agrees_lem r h)) q (suc q) l (omega arith))

  last_ends : (r : ℕ) → r ≤ length names → eqb r (length names) ≡ ends g (at_row names r)
  last_ends r h =
      beq_eq _ _ (and_right (each (λ q k. beq (bit r q) (may g (at_row names r) k)) 1 names) _ (row_agrees_lem r h))

  -- a foreign kind may come nowhere
  pub table_foreign : (k : List ℕ) → row_of names k ≡ 0 → (at : At) → T (may g at k) → ⊥
  table_foreign k e at t =
      row_none names k e
      (subst (λ (l : List (List ℕ)). T (among k l)) (sym table_names)
      (subst (λ (b : Bool). T b) (has_among g k) (may_has g at k t)))

  abbrev Same : List (List ℕ) → Type 0
  Same ks = (r i : ℕ) → r ≤ length names → walk g (at_row names r) i ks ≡ standing names (table_walk names bit r i ks)

  same_step : (k : List ℕ) (ks : List (List ℕ)) → Same ks → (r i : ℕ) → r ≤ length names → (q : ℕ) → row_of names k ≡ q
      → walk g (at_row names r) i (k ∷ ks)
      ≡ standing names (must (not (eqb q 0)) (stopped i) (must (bit r q) (stopped i) (table_walk names bit q (suc i) ks)))
  same_step k ks later r i h zero e = cond_false (may g (at_row names r) k) _ _ (table_foreign k e (at_row names r))
  same_step k ks later r i h (suc j) e =
      let l : j < length names = (place_name k names j e).0 in
      let n : get_or names j [] ≡ k = (place_name k names j e).1 in
      let b : bit r (suc j) ≡ may g (at_row names r) k = bit_may r j h l ∙ ap (λ (x : List ℕ). may g (at_row names r) x) n in
      rw (eqb-suc-zero j, b)
      (by_test (may g (at_row names r) k)
      (λ (t : T (may g (at_row names r) k)).
      cond_true (may g (at_row names r) k) _ _ t
      ∙ ap (λ (x : List ℕ). walk g (last x) (suc i) ks) (sym n)
      ∙ later (suc j) (suc i) l
      ∙ ap (λ (w : Walked ℕ). standing names w) (sym (must_holds (may g (at_row names r) k) (stopped i) _ t)))
      (λ (t : T (may g (at_row names r) k) → ⊥).
      cond_false (may g (at_row names r) k) _ _ t
      ∙ ap (λ (w : Walked ℕ). standing names w) (sym (must_fails (may g (at_row names r) k) (stopped i) (table_walk names bit (suc j) (suc i) ks) t))))

  same_walk : (ks : List (List ℕ)) → Same ks
  same_walk [] r i h = refl
  same_walk (k ∷ ks) r i h = same_step k ks (same_walk ks) r i h (row_of names k) refl

  -- the grammar's walk is the table's, with each row's standing
  pub table_walk_lem : (ks : List (List ℕ)) → walk g start 0 ks ≡ standing names (table_walk names bit 0 0 ks)
  table_walk_lem ks = same_walk ks 0 0 (omega arith)

  -- it goes through exactly when some complete list begins so
  pub table_goes_iff : (ks : List (List ℕ)) → Goes (table_walk names bit 0 0 ks) ↔ Completes g ks
  table_goes_iff ks =
      Iff.trans (goes_standing names (table_walk names bit 0 0 ks))
      (subst (λ (w : Walked At). Goes w ↔ Completes g ks) (table_walk_lem ks) (goes_through_iff g table_once ks))

  -- it stops at the first place after which no completion exists, and there only
  pub table_stops_first : (ks : List (List ℕ)) (i : ℕ) → table_walk names bit 0 0 ks ≡ stopped i → StoppedRight g ks i
  table_stops_first ks i e = stops_first g table_once ks i (table_walk_lem ks ∙ ap (λ (w : Walked ℕ). standing names w) e)

  stops_there : (ks : List (List ℕ)) (i : ℕ) (w : Walked ℕ) → table_walk names bit 0 0 ks ≡ w → StoppedRight g ks i → w ≡ stopped i
  stops_there ks i (stopped j) e s = ap (λ (n : ℕ). stopped n) (one_place g ks j i (table_stops_first ks j e) s)
  stops_there ks i (through r) e s = absurd (stopped_or_begun g ks i s ((table_goes_iff ks).0 (rw e tt)))

  pub table_stops_iff : (ks : List (List ℕ)) (i : ℕ) → (table_walk names bit 0 0 ks ≡ stopped i) ↔ StoppedRight g ks i
  table_stops_iff ks i = (λ e. table_stops_first ks i e, λ s. stops_there ks i (table_walk names bit 0 0 ks) refl s)

  -- where it goes through to a row, the grammar's walk goes through to the row's standing
  to_standing : (ks : List (List ℕ)) (r : ℕ) → table_walk names bit 0 0 ks ≡ through r → walk g start 0 ks ≡ through (at_row names r)
  to_standing ks r e = table_walk_lem ks ∙ ap (λ (w : Walked ℕ). standing names w) e

  -- the last row is reached exactly when the list stands under the grammar
  pub table_through : (ks : List (List ℕ)) (r : ℕ) → table_walk names bit 0 0 ks ≡ through r → ThroughRight g ks (eqb r (length names))
  table_through ks r e =
      subst (λ (b : Bool). ThroughRight g ks b) (sym (last_ends r (table_within names bit ks r e)))
      (subst (λ (w : Walked At). RightWalk g ks w) (to_standing ks r e) (right_walk g table_once ks))

  pub table_complete_iff : (ks : List (List ℕ)) (r : ℕ) → table_walk names bit 0 0 ks ≡ through r → (r ≡ length names) ↔ Under g ks
  table_complete_iff ks r e = Iff.trans (eqb_iff r (length names)) (table_through ks r e).whole

  -- a row allows exactly the kinds with which a completion exists
  pub table_may_iff : (ks : List (List ℕ)) (r : ℕ) → table_walk names bit 0 0 ks ≡ through r → (q : ℕ) → q < length names
      → T (bit r (suc q)) ↔ Completes g (ks ++ (get_or names q [] ∷ []))
  table_may_iff ks r e q h =
      subst (λ (b : Bool). T b ↔ Completes g (ks ++ (get_or names q [] ∷ []))) (sym (bit_may r q (table_within names bit ks r e) h))
      (may_iff g table_once ks (at_row names r) (to_standing ks r e) (get_or names q []))

  -- no completion exists with a foreign kind
  pub table_foreign_stops : (ks : List (List ℕ)) (r : ℕ) → table_walk names bit 0 0 ks ≡ through r → (k : List ℕ) → row_of names k ≡ 0
      → Completes g (ks ++ (k ∷ [])) → ⊥
  table_foreign_stops ks r e k h c =
      table_foreign k h (at_row names r) ((may_iff g table_once ks (at_row names r) (to_standing ks r e) k).1 c)
