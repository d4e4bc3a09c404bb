-- What the walk and the listed followers say is what the step must answer. Assumes nothing.
use Prim.Native.Nat.{ℕ, suc}
use mathlib.Core.Path.{◌≡◌, refl, sym, ap, ◌∙◌, subst}
use mathlib.Core.Bool.{Bool}
use mathlib.Core.List.{List}
use native.Mathlib.Omega.{arith}
use Rattle.layout.specs.Layout.{may_follow, is_footer}
use Rattle.grammar.specs.Right.{ThroughRight}
use Rattle.grammar.specs.Table.{table_walk}
use Rattle.grammar.specs.Walk.{Walked, stopped, through}
use Rattle.grammar.proofs.TableWalks.{table_through}
use Rattle.std.specs.Prelude.{Result, Ok, Err}
use Rattle.flow.specs.declared.Through.{Through}
use Rattle.flow.specs.declared.NoStep.{NoStep}
use Rattle.flow.specs.declared.NoStep.TheVariants.{Stopped}
use Rattle.flow.specs.Publication.{Flow, names, layout_for}
use Rattle.flow.specs.Editions.{a_flow}
use Rattle.flow.specs.Proper.{Proper}
use Rattle.flow.specs.ByTable.{from_one, walk_by, walk_of, followers_by, followers_of, SteppedBy}
use Rattle.flow.specs.Step.{kinds_in, Lists, StoppedAt, WentThrough, StepRight}
use Rattle.flow.proofs.Agree.{names_are, footer_is}
use Rattle.flow.proofs.Demand3.{demand3_stops, demand3_chosen}

-- the walk by the layout's rows is the walk by the flow's table
walk_is : (f : Flow) (ks : List (List ℕ)) → walk_by (layout_for f) ks ≡ from_one (walk_of f ks)
walk_is f ks = ap (λ (ns : List (List ℕ)). from_one (table_walk ns (may_follow (layout_for f)) 0 0 ks)) (names_are f)

-- where it came to, taken back
stop_from_lem : (w : Walked ℕ) (place : ℕ) → Err place ≡ from_one w → (i : ℕ) × (place ≡ suc i) × (w ≡ stopped i)
stop_from_lem (stopped i) place e = (i, cc, refl)
stop_from_lem (through r) place e = absurd (let z : ◌≡◌ {A = ℕ} 0 1 = cc in omega arith)

through_from : (w : Walked ℕ) (r : ℕ) → Ok r ≡ from_one w → w ≡ through r
through_from (stopped i) r e = absurd (let z : ◌≡◌ {A = ℕ} 0 1 = cc in omega arith)
through_from (through q) r e = let z : q ≡ r = cc in ap through z

-- a proper flow and a list of kinds
module _ (f : Flow) (proper : Proper f) (ks : List (List ℕ)) where
  pub stops_at : (place : ℕ) (old new : List ℕ) → Err place ≡ walk_by (layout_for f) ks → new ≡ old → StoppedAt f ks place old new
  stops_at place old new e kept =
      let s = stop_from_lem (walk_of f ks) place (e ∙ walk_is f ks) in
      record { before = s.0; counted = s.1; right = (demand3_stops f proper ks s.0).0 s.2; kept = kept }

  pub goes_through : (r count : ℕ) (complete : Bool) (old new : List ℕ) → Ok r ≡ walk_by (layout_for f) ks
      → Lists (followers_by (layout_for f) r) count old new → complete ≡ is_footer (layout_for f) r → WentThrough f ks count complete old new
  goes_through r count complete old new e lists c =
      let w : walk_of f ks ≡ through r = through_from (walk_of f ks) r (e ∙ walk_is f ks) in
      record {
        right =
            subst (λ (b : Bool). ThroughRight f.grammar ks b) (sym (c ∙ footer_is f proper.some r))
            (table_through (names f.kinds) (may_follow (layout_for f)) f.grammar proper.agree ks r w);
        follow = followers_of f r;
        chosen = demand3_chosen f proper ks r w;
        listed = lists;
      }

-- what the step by a table says, with the place of a stop as the step's own answer
abbrev pub step_answer : Result Through ℕ → Result Through NoStep
step_answer (Err place) = Err (Stopped place)
step_answer (Ok t) = Ok t

-- the step by a proper flow's table is right for the flow
pub step_right : (f : Flow) → Proper f → (bytes : List ℕ) (a : Result Through ℕ) (old new : List ℕ) → SteppedBy (layout_for f) bytes a old new
    → StepRight (a_flow f) bytes (step_answer a) old new
step_right f proper bytes (Err place) old new s = stops_at f proper (kinds_in bytes) place old new s.0 s.1
step_right f proper bytes (Ok t) old new s =
    goes_through f proper (kinds_in bytes) s.0 t.count t.complete old new s.1 s.2 s.3
