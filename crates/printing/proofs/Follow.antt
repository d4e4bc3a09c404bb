-- The kinds that may follow are some of a flow's kinds, and a proper flow has at most 32 of them. Assumes nothing.
use Prim.Native.Nat.{ℕ, ◌≤◌}
use mathlib.Core.Path.{◌≡◌}
use mathlib.Core.Bool.{Bool}
use mathlib.Core.List.{List}
use native.Mathlib.Omega.{arith}
use Rattle.std.specs.Prelude.{Ok}
use lib.ListN.{length}
use Rattle.flow.specs.Publication.{Flow}
use Rattle.flow.specs.Editions.{Asked, a_flow, no_flow}
use Rattle.flow.specs.Proper.{Proper}
use Rattle.flow.specs.Step.{Chosen, none, takes, passes, WentThrough, StepRight}
use Rattle.flow.specs.declared.Through.{Through}
use Rattle.flow.proofs.Proper.{ProperAsked}

no_more : {P : List ℕ → Type 0} {ks out : List (List ℕ)} → Chosen P ks out → length out ≤ length ks
no_more none = omega arith
no_more (takes p c) = omega (arith, no_more c)
no_more (passes p c) = omega (arith, no_more c)

through_few : (fl : Flow) → Proper fl → {ks : List (List ℕ)} {count : ℕ} {complete : Bool} {old new : List ℕ} →
    WentThrough fl ks count complete old new → count ≤ 32
through_few fl p w = omega (arith, w.listed.counted, no_more w.chosen, p.few)

-- so where a list of kinds went through for what is asked, few may follow; a refusal of what is asked is no such answer
pub follow_few : (a : Asked) → ProperAsked a → (kinds : List ℕ) (t : Through) (old new : List ℕ) →
    StepRight a kinds (Ok t) old new → t.count ≤ 32
follow_few (a_flow fl) p kinds t old new w = through_few fl p w
follow_few (no_flow r) p kinds t old new w = let e = w.0 in let z : ◌≡◌ {A = ℕ} 0 1 = cc in absurd (omega arith)
