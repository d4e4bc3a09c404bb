-- A published grammar as nested sets of kinds, and which lists of kinds stand under one. No table is in sight. Assumes nothing.
use Rattle.std.specs.Prelude.{ℕ, List, [], ◌∷◌, ◌++◌}

-- a set of kinds; a kind is its bytes
pub data Sets : Type 0 where
  -- no kind at all
  Nothing : Sets
  -- one kind, once
  Kind : List ℕ → Sets
  -- the first set, then the second
  Then : Sets → Sets → Sets
  -- the set any number of times, none included (braces)
  AnyNumber : Sets → Sets
  -- the set once or more
  OneOrMore : Sets → Sets
  -- the set once, or not at all
  Perhaps : Sets → Sets
  -- the first set or the second, never both
  Either : Sets → Sets → Sets

-- this list of kinds stands under this set
pub data Under : Sets → List (List ℕ) → Type 0 where
  -- the empty list stands under nothing
  empty : Under Nothing []
  -- the kind alone stands under a kind
  alone : {k : List ℕ} → Under (Kind k) (k ∷ [])
  -- a list under the first set, joined to one under the second
  joined : {a b : Sets} {s t : List (List ℕ)} → Under a s → Under b t → Under (Then a b) (s ++ t)
  -- none is a number
  none : {a : Sets} → Under (AnyNumber a) []
  -- one list under the set, then any number of them
  again : {a : Sets} {s t : List (List ℕ)} → Under a s → Under (AnyNumber a) t → Under (AnyNumber a) (s ++ t)
  -- one list under the set at least
  some : {a : Sets} {s t : List (List ℕ)} → Under a s → Under (AnyNumber a) t → Under (OneOrMore a) (s ++ t)
  -- the set left out
  absent : {a : Sets} → Under (Perhaps a) []
  -- the set there
  present : {a : Sets} {s : List (List ℕ)} → Under a s → Under (Perhaps a) s
  -- the first of two
  this : {a b : Sets} {s : List (List ℕ)} → Under a s → Under (Either a b) s
  -- the second of two
  other : {a b : Sets} {s : List (List ℕ)} → Under b s → Under (Either a b) s
