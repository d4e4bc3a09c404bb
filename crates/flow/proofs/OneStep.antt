-- No second answer of the step meets its contract. Assumes nothing.
use Prim.Native.Nat.{ℕ, suc, ◌*◌}
use mathlib.Core.Path.{◌≡◌, refl, sym, ap, ◌∙◌}
use mathlib.Core.Bool.{Bool, true, false}
use mathlib.Core.List.{List, ◌∷◌, [], ◌++◌}
use lib.Dec.{T}
use lib.ListN.{length, drop}
use Rattle.text.proofs.Inverse.{same_said}
use Rattle.place.specs.Places.{refusal}
use Rattle.grammar.specs.Right.{Completes}
use Rattle.grammar.proofs.Walks.{one_place, stopped_or_begun}
use Rattle.std.specs.Prelude.{Result, Ok, Err}
use Rattle.flow.specs.declared.Through.{Through}
use Rattle.flow.specs.declared.NoStep.{NoStep}
use Rattle.flow.specs.declared.NoStep.TheVariants.{Refused, Stopped}
use Rattle.flow.specs.Publication.{Flow}
use Rattle.flow.specs.Editions.{Asked, a_flow, no_flow}
use Rattle.flow.specs.Step.{kinds_in, end_to_end, StoppedAt, WentThrough, Reply, refused, stopped, through, paper, ReplyRight, StepRight}
use Rattle.flow.proofs.Chosen.{chosen_one}

-- two tests that hold together are the same
same_test : (a b : Bool) → (T a → T b) → (T b → T a) → a ≡ b
same_test true true f g = refl
same_test true false f g = absurd (f tt)
same_test false true f g = absurd (g tt)
same_test false false f g = refl

-- a flow, a list of kinds and the bytes that were lent
module _ (f : Flow) (ks : List (List ℕ)) (old : List ℕ) where
  one_stop : (p q : ℕ) (new other : List ℕ) → StoppedAt f ks p old new → StoppedAt f ks q old other
      → (stopped p ≡ stopped q) × (new ≡ other)
  one_stop p q new other s t = (
    ap stopped (s.counted ∙ ap suc (one_place f.grammar ks s.before t.before s.right t.right) ∙ sym t.counted),
    s.kept ∙ sym t.kept,
  )

  stop_or_go : (p count : ℕ) (complete : Bool) (new other : List ℕ) → StoppedAt f ks p old new → WentThrough f ks count complete old other
      → ⊥
  stop_or_go p count complete new other s w = stopped_or_begun f.grammar ks s.before s.right w.right.begun

  one_way : (m n : ℕ) (a b : Bool) (new other : List ℕ) → WentThrough f ks m a old new → WentThrough f ks n b old other
      → (through m a ≡ through n b) × (new ≡ other)
  one_way m n a b new other v w =
      let e : v.follow ≡ w.follow = chosen_one (λ k. Completes f.grammar (ks ++ (k ∷ []))) v.chosen w.chosen in
      let c : m ≡ n = v.listed.counted ∙ ap length e ∙ sym w.listed.counted in
      let t : a ≡ b = same_test a b (λ x. w.right.whole.1 (v.right.whole.0 x)) (λ x. v.right.whole.1 (w.right.whole.0 x)) in
      (λ i. through (c i) (t i), v.listed.written ∙ (λ i. end_to_end (e i) ++ drop (3 * c i) old) ∙ sym w.listed.written)

-- two answers in document 01's terms that are right are the same, and so are the lent bytes after them
pub one_reply : (x : Asked) (bytes old : List ℕ) (a b : Reply) (new other : List ℕ)
    → ReplyRight x bytes a old new → ReplyRight x bytes b old other → (a ≡ b) × (new ≡ other)
one_reply (no_flow x) bytes old a b new other s t = (s.0 ∙ sym t.0, s.1 ∙ sym t.1)
one_reply (a_flow f) bytes old (refused m r k p) b new other s t = absurd s
one_reply (a_flow f) bytes old (stopped p) (refused n q g o) new other s t = absurd t
one_reply (a_flow f) bytes old (through m a) (refused n q g o) new other s t = absurd t
one_reply (a_flow f) bytes old (stopped p) (stopped q) new other s t = one_stop f (kinds_in bytes) old p q new other s t
one_reply (a_flow f) bytes old (stopped p) (through n b) new other s t = absurd (stop_or_go f (kinds_in bytes) old p n b new other s t)
one_reply (a_flow f) bytes old (through m a) (stopped q) new other s t = absurd (stop_or_go f (kinds_in bytes) old q m a other new t s)
one_reply (a_flow f) bytes old (through m a) (through n b) new other s t = one_way f (kinds_in bytes) old m n a b new other s t

-- the answer that says this
abbrev said : Reply → Result Through NoStep
said (refused n r f place) = Err (Refused (refusal n r f place))
said (stopped p) = Err (Stopped p)
said (through m a) = Ok (record { count = m; complete = a })

said_paper : (a : Result Through NoStep) → said (paper a) ≡ a
said_paper (Err (Refused r)) = refl
said_paper (Err (Stopped p)) = refl
said_paper (Ok t) = refl

-- so two answers of the code that meet the contract are the same
pub one_step : (x : Asked) (bytes old : List ℕ) (a b : Result Through NoStep) (new other : List ℕ)
    → StepRight x bytes a old new → StepRight x bytes b old other → (a ≡ b) × (new ≡ other)
one_step x bytes old a b new other s t =
    let one = one_reply x bytes old (paper a) (paper b) new other s t in
    (same_said paper said said_paper a b one.0, one.1)
