-- Which kind stands within which, read off the published nested sets: a set that may come more than once, or not at all, and starts with
-- a kind, is headed by it, and what follows in the set stands within it. Assumes nothing.
use Rattle.std.specs.Prelude.{ℕ, Bool, true, false, cond, List, [], ◌∷◌, ◌++◌, map}
use Rattle.grammar.specs.Sets.{Sets, Nothing, Kind, Then, Perhaps, AnyNumber, OneOrMore, Either}
use Rattle.flow.specs.Publication.{Flow, PublishedKind}

-- a kind, and the kind within which it stands (no name: none)
pub record Stands : Type 0 where
  pub kind : List ℕ
  pub within : List ℕ

abbrev pub stands : List ℕ → List ℕ → Stands
stands kind within = record { kind = kind; within = within }

-- the kind that comes first in a set that starts with a kind; of any other the head that it stands within
unfoldable pub leader : List ℕ → Sets → List ℕ
leader h Nothing = h
leader h (Kind k) = k
leader h (Then s t) = h
leader h (AnyNumber s) = h
leader h (OneOrMore s) = h
leader h (Perhaps s) = h
leader h (Either s t) = h

-- the kinds of a set that stands within kind h, and whether its number of times is open
unfoldable pub in_set : Bool → List ℕ → Sets → List Stands
in_set times h Nothing = []
in_set times h (Kind k) = stands k h ∷ []
in_set times h (Then s t) = in_set false h s ++ in_set false (cond times (leader h s) h) t
in_set times h (AnyNumber s) = in_set true h s
in_set times h (OneOrMore s) = in_set true h s
in_set times h (Perhaps s) = in_set true h s
in_set times h (Either s t) = in_set false h s ++ in_set false h t

-- the kinds of a flow, as its grammar nests them
abbrev pub nested : Flow → List Stands
nested fl = in_set false [] fl.grammar

-- the same as a flow's kinds are published
abbrev pub published : Flow → List Stands
published fl = map (λ (k : PublishedKind). stands k.name k.within) fl.kinds
