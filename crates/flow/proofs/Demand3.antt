-- Demand 3: the table of a proper flow and its published grammar agree on every list of kinds. Assumes nothing.
use Prim.Native.Nat.{ℕ, zero, suc, ◌+◌, ◌<◌}
use mathlib.Core.Path.{◌≡◌, refl, ap, subst}
use mathlib.Core.Logic.{◌↔◌}
use mathlib.Core.List.{List, [], ◌∷◌, ◌++◌}
use native.Mathlib.Omega.{arith}
use lib.Dec.{T}
use lib.ListN.{length, get_or, drop}
use Rattle.layout.specs.Layout.{may_follow}
use Rattle.grammar.specs.Sets.{Under}
use Rattle.grammar.specs.Right.{Completes, StoppedRight}
use Rattle.grammar.specs.Table.{row_of}
use Rattle.grammar.specs.Walk.{among, Walked, stopped, through, Goes}
use Rattle.text.proofs.Places.{place_name}
use Rattle.grammar.proofs.Rows.{among_at}
use Rattle.grammar.proofs.Walks.{under_completes}
use Rattle.grammar.proofs.TableWalks.{table_goes_iff, table_stops_iff, table_complete_iff, table_may_iff, table_foreign_stops}
use Rattle.flow.specs.Publication.{Flow, names, layout_for}
use Rattle.flow.specs.Flows.{p0012, p0181, p0133, p0133_in_711, p0134, p0138, p0164}
use Rattle.flow.specs.Proper.{Proper}
use Rattle.flow.specs.ByTable.{kind_names, walk_of, followers_of}
use Rattle.flow.specs.Step.{Chosen}
use Rattle.flow.specs.Demand3.{Demand3}
use Rattle.flow.proofs.Agree.{names_are, rows_are}
use Rattle.flow.proofs.Proper.{held_proper}
use Rattle.flow.proofs.Chosen.{chosen_from, chosen_meets, chosen_all}

-- a proper flow and a list of kinds of any length
module _ (f : Flow) (proper : Proper f) (ks : List (List ℕ)) where
  abbrev kinds : List (List ℕ)
  kinds = names f.kinds

  -- the table goes through exactly where a completion exists
  pub demand3_goes : Goes (walk_of f ks) ↔ Completes f.grammar ks
  demand3_goes = table_goes_iff kinds (may_follow (layout_for f)) f.grammar proper.agree ks

  -- it stops at a place exactly where that is the first after which no completion exists
  pub demand3_stops : (i : ℕ) → (walk_of f ks ≡ stopped i) ↔ StoppedRight f.grammar ks i
  demand3_stops i = table_stops_iff kinds (may_follow (layout_for f)) f.grammar proper.agree ks i

  whole : (w : Walked ℕ) → walk_of f ks ≡ w → Under f.grammar ks → w ≡ through (length kinds)
  whole (stopped i) e u = absurd (subst Goes e (demand3_goes.1 (under_completes f.grammar ks u)))
  whole (through r) e u =
      ap through ((table_complete_iff kinds (may_follow (layout_for f)) f.grammar proper.agree ks r e).1 u)

  -- it comes to its last row exactly where the list is complete
  pub demand3_complete : (walk_of f ks ≡ through (length (names f.kinds))) ↔ Under f.grammar ks
  demand3_complete = (
    λ e. (table_complete_iff kinds (may_follow (layout_for f)) f.grammar proper.agree ks (length kinds) e).0 refl,
    λ u. whole (walk_of f ks) refl u,
  )

  -- a completion of the list with the kind exists
  abbrev Next : List ℕ → Type 0
  Next k = Completes f.grammar (ks ++ (k ∷ []))

  -- a row of the table says if the kind may follow
  row_says : (r : ℕ) → walk_of f ks ≡ through r → (m : ℕ) → m < length (drop 1 (layout_for f).rows)
      → T (may_follow (layout_for f) r (1 + m)) ↔ Next (get_or (kind_names (layout_for f)) m [])
  row_says r e m h =
      let z : 1 + m ≡ suc m = omega arith in
      rw (z, names_are f) (table_may_iff kinds (may_follow (layout_for f)) f.grammar proper.agree ks r e m (omega (arith, rows_are f)))

  -- the kinds that it lists are those with which a completion exists, in the layout's order
  pub demand3_chosen : (r : ℕ) → walk_of f ks ≡ through r
      → Chosen (λ k. Completes f.grammar (ks ++ (k ∷ []))) (names f.kinds) (followers_of f r)
  demand3_chosen r e =
      subst (λ (x : List (List ℕ)). Chosen Next x (followers_of f r)) (names_are f)
      (chosen_from Next (layout_for f) r 1 (drop 1 (layout_for f).rows) (row_says r e))

  -- a kind is one of them exactly where a completion of the list with that kind exists
  pub demand3_follow : (r : ℕ) → walk_of f ks ≡ through r → (k : List ℕ)
      → T (among k (followers_of f r)) ↔ Completes f.grammar (ks ++ (k ∷ []))
  demand3_follow r e k = (
    λ t. chosen_meets Next (demand3_chosen r e) k t,
    λ c. chosen_all Next (demand3_chosen r e) k (known (row_of kinds k) refl c) c,
  )
    where
      known : (q : ℕ) → row_of kinds k ≡ q → Completes f.grammar (ks ++ (k ∷ [])) → T (among k kinds)
      known zero z c = absurd (table_foreign_stops kinds (may_follow (layout_for f)) f.grammar proper.agree ks r e k z c)
      known (suc q) z c =
          subst (λ (x : List ℕ). T (among x kinds)) (place_name k kinds q z).1 (among_at kinds q (place_name k kinds q z).0)

-- the table and the grammar of a proper flow agree
pub demand3 : (f : Flow) → Proper f → Demand3 f
demand3 f p = record { goes = demand3_goes f p; complete = demand3_complete f p; stops = demand3_stops f p; follow = demand3_follow f p }

-- so it is for each flow and edition that we hold
pub demand3_p0012 : Demand3 p0012
demand3_p0012 = demand3 p0012 (held_proper 1)

pub demand3_p0181 : Demand3 p0181
demand3_p0181 = demand3 p0181 (held_proper 2)

pub demand3_p0133 : Demand3 p0133
demand3_p0133 = demand3 p0133 (held_proper 3)

pub demand3_p0134 : Demand3 p0134
demand3_p0134 = demand3 p0134 (held_proper 4)

pub demand3_p0138 : Demand3 p0138
demand3_p0138 = demand3 p0138 (held_proper 5)

pub demand3_p0164 : Demand3 p0164
demand3_p0164 = demand3 p0164 (held_proper 6)

pub demand3_p0133_in_711 : Demand3 p0133_in_711
demand3_p0133_in_711 = demand3 p0133_in_711 (held_proper 7)
