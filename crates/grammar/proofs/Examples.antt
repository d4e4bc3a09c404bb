-- Small sets and what is said of them, by hand and by computing. Assumes nothing.
use Prim.Native.Nat.{ℕ, ◌-◌}
use mathlib.Core.Path.{◌≡◌, refl}
use mathlib.Core.Bool.{Bool, true}
use mathlib.Core.List.{List, [], ◌∷◌}
use lib.Dec.{eqb}
use lib.ListN.{get_or}
use Rattle.grammar.specs.Sets.{Sets, Kind, Then, AnyNumber, OneOrMore, Either, Under, alone, joined, none}
use Rattle.grammar.specs.Right.{Completes, StoppedRight}
use Rattle.grammar.specs.Table.{agrees}
use Rattle.grammar.proofs.Walks.{goes_through_iff, complete_iff, stops_first}
use Rattle.grammar.proofs.Once.{once_by_test}
use Rattle.grammar.proofs.TableWalks.{table_stops_first}

-- the kinds AA, B and C
abbrev AA : List ℕ
AA = 65 ∷ 65 ∷ []

abbrev B : List ℕ
B = 66 ∷ []

abbrev C : List ℕ
C = 67 ∷ []

-- AA, any number of sets of one or more B, then C; and AA with any number of B or any number of C
abbrev sets : Sets
sets = Then (Kind AA) (Then (AnyNumber (OneOrMore (Kind B))) (Kind C))

abbrev one_or_other : Sets
one_or_other = Then (Kind AA) (Either (AnyNumber (Kind B)) (AnyNumber (Kind C)))

-- any number includes none
by_hand : Under sets (AA ∷ C ∷ [])
by_hand = joined alone (joined none alone)

by_walk : Under sets (AA ∷ B ∷ B ∷ C ∷ [])
by_walk = (complete_iff sets (once_by_test sets tt) (AA ∷ B ∷ B ∷ C ∷ [])).0 tt

-- a kind cut short is foreign
cut_short : StoppedRight sets (AA ∷ B ∷ (65 ∷ []) ∷ []) 2
cut_short = stops_first sets (once_by_test sets tt) (AA ∷ B ∷ (65 ∷ []) ∷ []) 2 refl

never_both_kinds : Completes one_or_other (AA ∷ B ∷ C ∷ []) → ⊥
never_both_kinds c = (goes_through_iff one_or_other (once_by_test one_or_other tt) (AA ∷ B ∷ C ∷ [])).1 c

-- the table of the first set: AA at the start, B or C after AA and after B, nothing after C
bits : ℕ → ℕ → Bool
bits r q = eqb (get_or (get_or ((1 ∷ 0 ∷ 0 ∷ []) ∷ (0 ∷ 1 ∷ 1 ∷ []) ∷ (0 ∷ 1 ∷ 1 ∷ []) ∷ []) r []) (q - 1) 0) 1

bits_agree : agrees (AA ∷ B ∷ C ∷ []) bits sets ≡ true
unfolding agrees bits
bits_agree = refl

-- so where it stops no completion exists
by_table : StoppedRight sets (AA ∷ C ∷ B ∷ []) 2
unfolding bits
by_table = table_stops_first (AA ∷ B ∷ C ∷ []) bits sets bits_agree (AA ∷ C ∷ B ∷ []) 2 refl
