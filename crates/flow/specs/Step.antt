-- What the step of the flow table must answer, by the grammar alone (document 01, last lines of "Refusal numbers"). Assumes nothing.
use Rattle.std.specs.Prelude.{ℕ, suc, ◌*◌, ◌≡◌, Bool, List, [], ◌∷◌, ◌++◌, length, drop, Result, Ok, Err}
use Rattle.grammar.specs.Right.{Completes, StoppedRight, ThroughRight}
use Rattle.flow.specs.Publication.{Flow, names}
use Rattle.flow.specs.Editions.{Asked, a_flow, no_flow}
use Rattle.flow.specs.declared.Through.{Through}
use Rattle.flow.specs.declared.NoStep.{NoStep}
use Rattle.flow.specs.declared.NoStep.TheVariants.{Refused, Stopped}

-- kinds, three bytes each, end to end; one that is cut short is a kind of its own, foreign to every flow
unfoldable pub kinds_in : List ℕ → List (List ℕ)
kinds_in [] = []
kinds_in (a ∷ []) = (a ∷ []) ∷ []
kinds_in (a ∷ b ∷ []) = (a ∷ b ∷ []) ∷ []
kinds_in (a ∷ b ∷ c ∷ s) = (a ∷ b ∷ c ∷ []) ∷ kinds_in s

-- of some kinds, those that meet a condition, in their order
pub data Chosen (P : List ℕ → Type 0) : List (List ℕ) → List (List ℕ) → Type 0 where
  none : Chosen P [] []
  takes : {k : List ℕ} {ks out : List (List ℕ)} → P k → Chosen P ks out → Chosen P (k ∷ ks) (k ∷ out)
  passes : {k : List ℕ} {ks out : List (List ℕ)} → (P k → ⊥) → Chosen P ks out → Chosen P (k ∷ ks) out

-- names end to end
abbrev pub end_to_end : List (List ℕ) → List ℕ
end_to_end [] = []
end_to_end (n ∷ ns) = n ++ end_to_end ns

-- names counted and written end to end to the front of some bytes; bytes past them are as before
pub record Lists (ns : List (List ℕ)) (count : ℕ) (old new : List ℕ) : Type 0 where
  pub counted : count ≡ length ns
  pub written : new ≡ end_to_end ns ++ drop (3 * count) old

-- the list went through: whether it is complete, and in the lent bytes the kinds that may follow, in the layout's order
pub record WentThrough (f : Flow) (ks : List (List ℕ)) (count : ℕ) (complete : Bool) (old new : List ℕ) : Type 0 where
  pub right : ThroughRight f.grammar ks complete
  pub follow : List (List ℕ)
  pub chosen : Chosen (λ k. Completes f.grammar (ks ++ (k ∷ []))) (names f.kinds) follow
  pub listed : Lists follow count old new

-- the list stopped at a place counted from 1
pub record StoppedAt (f : Flow) (ks : List (List ℕ)) (place : ℕ) (old new : List ℕ) : Type 0 where
  pub before : ℕ
  pub counted : place ≡ suc before
  pub right : StoppedRight f.grammar ks before
  pub kept : new ≡ old

-- the papers' answers: a refusal's number, record, field and byte place; the place where the list stopped; or how many kinds may follow, and
-- whether the list is complete
pub data Reply : Type 0 where
  refused : ℕ → ℕ → ℕ → ℕ → Reply
  stopped : ℕ → Reply
  through : ℕ → Bool → Reply

-- what each case of the code's answer says in the papers' terms
abbrev pub paper : Result Through NoStep → Reply
paper (Err (Refused r)) = refused r.number r.«record» r.field r.place
paper (Err (Stopped place)) = stopped place
paper (Ok t) = through t.count t.complete

-- for what is asked an answer is right, and so are the bytes that were lent: a flow's own list of kinds is never refused
abbrev pub ReplyRight : Asked → List ℕ → Reply → List ℕ → List ℕ → Type 0
ReplyRight (a_flow fl) bytes (refused number r f at) old new = ⊥
ReplyRight (a_flow fl) bytes (stopped place) old new = StoppedAt fl (kinds_in bytes) place old new
ReplyRight (a_flow fl) bytes (through count complete) old new = WentThrough fl (kinds_in bytes) count complete old new
ReplyRight (no_flow x) bytes reply old new = (reply ≡ paper (Err (Refused x))) × (new ≡ old)

-- step the flow table through record kinds
abbrev pub StepRight : Asked → List ℕ → Result Through NoStep → List ℕ → List ℕ → Type 0
StepRight a bytes answer old new = ReplyRight a bytes (paper answer) old new
