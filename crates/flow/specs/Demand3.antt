-- Demand 3: what it is for a flow's table and its published grammar to agree, on every list of kinds. Assumes nothing.
use Rattle.std.specs.Prelude.{ℕ, ◌≡◌, ◌↔◌, List, [], ◌∷◌, ◌++◌, T, length}
use Rattle.grammar.specs.Sets.{Under}
use Rattle.grammar.specs.Right.{Completes, StoppedRight}
use Rattle.grammar.specs.Walk.{among, stopped, through, Goes}
use Rattle.flow.specs.Publication.{Flow, names}
use Rattle.flow.specs.ByTable.{walk_of, followers_of}

pub record Demand3 (f : Flow) : Type 0 where
  -- the table goes through a list exactly where some complete list begins so
  pub goes : (ks : List (List ℕ)) → Goes (walk_of f ks) ↔ Completes f.grammar ks
  -- it comes to its last row, the footer's, exactly where the list is complete
  pub complete : (ks : List (List ℕ)) → (walk_of f ks ≡ through (length (names f.kinds))) ↔ Under f.grammar ks
  -- it stops at a place exactly where that is the first after which no completion exists
  pub stops : (ks : List (List ℕ)) (i : ℕ) → (walk_of f ks ≡ stopped i) ↔ StoppedRight f.grammar ks i
  -- it lists a kind as a follower exactly where a completion of the list with that kind exists
  pub follow :
      (ks : List (List ℕ)) (r : ℕ) → walk_of f ks ≡ through r → (k : List ℕ)
      → T (among k (followers_of f r)) ↔ Completes f.grammar (ks ++ (k ∷ []))
