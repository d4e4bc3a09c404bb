-- What a walk over a list of kinds must answer, by the grammar alone. Assumes nothing.
use Rattle.std.specs.Prelude.{ℕ, suc, ◌<◌, Bool, ◌↔◌, List, ◌++◌, T, length, take}
use Rattle.grammar.specs.Sets.{Sets, Under}

-- some complete list under the grammar begins so
abbrev pub Completes : Sets → List (List ℕ) → Type 0
Completes g ks = (rest : List (List ℕ)) × Under g (ks ++ rest)

-- place i, counted from 0, is the first after which no completion exists
pub record StoppedRight (g : Sets) (ks : List (List ℕ)) (i : ℕ) : Type 0 where
  pub within : i < length ks
  pub before : Completes g (take i ks)
  pub after : Completes g (take (suc i) ks) → ⊥

-- the whole list has a completion, and it is called complete exactly when it stands under the grammar
pub record ThroughRight (g : Sets) (ks : List (List ℕ)) (complete : Bool) : Type 0 where
  pub begun : Completes g ks
  pub whole : T complete ↔ Under g ks
