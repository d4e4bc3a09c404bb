-- A follow table by row numbers, when it agrees with a grammar, and the walk by it. Row 0 is the start, row i + 1 the i-th kind's. Assumes nothing.
use Rattle.std.specs.Prelude.{ℕ, zero, suc, Bool, true, false, not, ◌&&◌, List, [], ◌∷◌, eqb, length, get_or}
use Rattle.std.specs.Bool.{beq}
use Rattle.text.specs.Order.{same_bytes}
use Rattle.text.specs.Places.{each, place_of}
use Rattle.text.specs.Rules.{must}
use Rattle.grammar.specs.Sets.{Sets}
use Rattle.grammar.specs.Walk.{kinds, distinct, At, start, last, may, ends, Walked, stopped, through}

-- the row of a kind, 0 where it is foreign
abbrev pub row_of : List (List ℕ) → List ℕ → ℕ
row_of names k = place_of k 1 names

-- where a walk stands at a row
abbrev pub at_row : List (List ℕ) → ℕ → At
at_row names zero = start
at_row names (suc i) = last (get_or names i [])

-- the same names in the same order
abbrev pub same_names : List (List ℕ) → List (List ℕ) → Bool
same_names [] [] = true
same_names [] (y ∷ ys) = false
same_names (x ∷ xs) [] = false
same_names (x ∷ xs) (y ∷ ys) = same_bytes x y && same_names xs ys

-- a row allows exactly the kinds that may come next, and is the last row exactly if the list may end there
abbrev pub row_agrees : List (List ℕ) → (ℕ → ℕ → Bool) → Sets → ℕ → At → Bool
row_agrees names bit g r at =
    each (λ q k. beq (bit r q) (may g at k)) 1 names && beq (eqb r (length names)) (ends g at)

-- the names are the grammar's kinds, each once, and each row agrees, the start's too
unfoldable pub agrees : List (List ℕ) → (ℕ → ℕ → Bool) → Sets → Bool
agrees names bit g =
    same_names names (kinds g) && distinct names && row_agrees names bit g 0 start
    && each (λ r k. row_agrees names bit g r (last k)) 1 names

-- the walk by the table: a foreign kind stops it, and so does one that the row does not allow
abbrev pub table_walk : List (List ℕ) → (ℕ → ℕ → Bool) → ℕ → ℕ → List (List ℕ) → Walked ℕ
table_walk names bit r i [] = through r
table_walk names bit r i (k ∷ ks) =
    must (not (eqb (row_of names k) 0)) (stopped i)
    (must (bit r (row_of names k)) (stopped i) (table_walk names bit (row_of names k) (suc i) ks))

-- what a walk by rows says of the grammar: the same, with each row's standing
abbrev pub standing : List (List ℕ) → Walked ℕ → Walked At
standing names (stopped i) = stopped i
standing names (through r) = through (at_row names r)
