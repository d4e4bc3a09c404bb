-- What the step answers, computed: the walk by a flow's table, as the only answer that meets the step's promise. Assumes nothing.
use Prim.Native.Nat.{ℕ, ◌*◌}
use mathlib.Core.Path.{◌≡◌, refl, subst}
use mathlib.Core.Bool.{Bool}
use mathlib.Core.List.{List, ◌++◌}
use lib.ListN.{length, drop}
use Rattle.place.specs.declared.Refusal.{Refusal}
use Rattle.layout.specs.Layout.{Layout, is_footer}
use Rattle.flow.specs.Publication.{layout_for}
use Rattle.flow.specs.Editions.{Asked, a_flow, no_flow}
use Rattle.flow.specs.ByTable.{walk_by, followers_by, SteppedBy}
use Rattle.flow.specs.Step.{kinds_in, end_to_end, StepRight}
use Rattle.std.specs.Prelude.{Result, Ok, Err}
use Rattle.flow.specs.declared.Through.{Through}
use Rattle.flow.specs.declared.NoStep.{NoStep}
use Rattle.flow.specs.declared.NoStep.TheVariants as answers
use Rattle.flow.proofs.Proper.{ProperAsked}
use Rattle.flow.proofs.Answers.{step_answer, step_right}
use Rattle.flow.proofs.OneStep.{one_step}

-- document 01's answers: a refusal, the place where the list stopped, or which kinds may follow and if the list is complete
pub data Stepped : Type 0 where
  refused : Refusal → Stepped
  stopped : ℕ → Stepped
  through : List (List ℕ) → Bool → Stepped

-- what a walk says
abbrev reached : Layout → Result ℕ ℕ → Stepped
reached l (Err place) = stopped place
reached l (Ok r) = through (followers_by l r) (is_footer l r)

-- step the table of what is asked for through kinds
unfoldable pub stepped : Asked → List ℕ → Stepped
stepped (a_flow f) kinds = reached (layout_for f) (walk_by (layout_for f) (kinds_in kinds))
stepped (no_flow r) kinds = refused r

-- the code's answer that says so, and the lent bytes after it
abbrev pub answer_of : Stepped → Result Through NoStep
answer_of (refused r) = Err (answers.Refused r)
answer_of (stopped place) = Err (answers.Stopped place)
answer_of (through kinds complete) = Ok (record { count = length kinds; complete = complete })

abbrev pub after : Stepped → List ℕ → List ℕ
after (refused r) old = old
after (stopped place) old = old
after (through kinds complete) old = end_to_end kinds ++ drop (3 * length kinds) old

module _ (kinds old : List ℕ) where
  abbrev table_answer : Layout → Result ℕ ℕ → Result Through ℕ
  table_answer l (Err place) = Err place
  table_answer l (Ok r) = Ok (record { count = length (followers_by l r); complete = is_footer l r })

  by_walk : (l : Layout) (w : Result ℕ ℕ) → w ≡ walk_by l (kinds_in kinds) → SteppedBy l kinds (table_answer l w) old (after (reached l w) old)
  by_walk l (Err place) e = (e, refl)
  by_walk l (Ok r) e = (r, e, record { counted = refl; written = refl }, refl)

  same_answer : (l : Layout) (w : Result ℕ ℕ) → step_answer (table_answer l w) ≡ answer_of (reached l w)
  same_answer l (Err place) = refl
  same_answer l (Ok r) = refl

  -- it meets the promise of the step
  pub stepped_meets : (a : Asked) → ProperAsked a → StepRight a kinds (answer_of (stepped a kinds)) old (after (stepped a kinds) old)
  unfolding stepped
  stepped_meets (a_flow f) p =
      let l = layout_for f in
      let w = walk_by l (kinds_in kinds) in
      subst (λ (a : Result Through NoStep). StepRight (a_flow f) kinds a old (after (reached l w) old)) (same_answer l w)
      (step_right f p kinds (table_answer l w) old (after (reached l w) old) (by_walk l w refl))
  stepped_meets (no_flow r) p = (refl, refl)

  -- and nothing else does
  pub stepped_only : (a : Asked) → ProperAsked a → (answer : Result Through NoStep) (new : List ℕ) → StepRight a kinds answer old new
      → (answer ≡ answer_of (stepped a kinds)) × (new ≡ after (stepped a kinds) old)
  stepped_only a p answer new h =
      one_step a kinds old answer (answer_of (stepped a kinds)) new (after (stepped a kinds) old) h (stepped_meets a p)
