-- The walk by what is left to read after the last kind. Assumes nothing.
use Rattle.std.specs.Prelude.{ℕ, suc, Bool, true, false, cond, not, ◌&&◌, ◌||◌, List, [], ◌∷◌, ◌++◌, T}
use Rattle.text.specs.Order.{same_bytes}
use Rattle.grammar.specs.Sets.{Sets, Nothing, Kind, Then, AnyNumber, OneOrMore, Perhaps, Either}
use Rattle.grammar.specs.Right.{StoppedRight, ThroughRight}

-- the kind stands in the set
abbrev pub has : Sets → List ℕ → Bool
has Nothing k = false
has (Kind j) k = same_bytes j k
has (Then a b) k = has a k || has b k
has (AnyNumber a) k = has a k
has (OneOrMore a) k = has a k
has (Perhaps a) k = has a k
has (Either a b) k = has a k || has b k

-- the empty list stands under the set
abbrev pub nullable : Sets → Bool
nullable Nothing = true
nullable (Kind j) = false
nullable (Then a b) = nullable a && nullable b
nullable (AnyNumber a) = true
nullable (OneOrMore a) = nullable a
nullable (Perhaps a) = true
nullable (Either a b) = nullable a || nullable b

-- the kind may come first in the set
abbrev pub first : Sets → List ℕ → Bool
first Nothing k = false
first (Kind j) k = same_bytes j k
first (Then a b) k = first a k || (nullable a && first b k)
first (AnyNumber a) k = first a k
first (OneOrMore a) k = first a k
first (Perhaps a) k = first a k
first (Either a b) k = first a k || first b k

-- what is left to read of the set after the kind: sets, one after the other
abbrev pub after : Sets → List ℕ → List Sets
after Nothing k = []
after (Kind j) k = []
after (Then a b) k = cond (has a k) (after a k ++ (b ∷ [])) (after b k)
after (AnyNumber a) k = after a k ++ (AnyNumber a ∷ [])
after (OneOrMore a) k = after a k ++ (AnyNumber a ∷ [])
after (Perhaps a) k = after a k
after (Either a b) k = cond (has a k) (after a k) (after b k)

-- the kind may come first in sets read one after the other
abbrev pub firsts : List Sets → List ℕ → Bool
firsts [] k = false
firsts (h ∷ σ) k = first h k || (nullable h && firsts σ k)

-- nothing more need be read of sets one after the other
abbrev pub nulls : List Sets → Bool
nulls [] = true
nulls (h ∷ σ) = nullable h && nulls σ

-- the kinds of a set, in the order in which they are written
abbrev pub kinds : Sets → List (List ℕ)
kinds Nothing = []
kinds (Kind j) = j ∷ []
kinds (Then a b) = kinds a ++ kinds b
kinds (AnyNumber a) = kinds a
kinds (OneOrMore a) = kinds a
kinds (Perhaps a) = kinds a
kinds (Either a b) = kinds a ++ kinds b

-- the kind is one of the list
abbrev pub among : List ℕ → List (List ℕ) → Bool
among k [] = false
among k (x ∷ xs) = same_bytes x k || among k xs

-- no kind is twice in the list
abbrev pub distinct : List (List ℕ) → Bool
distinct [] = true
distinct (x ∷ xs) = not (among x xs) && distinct xs

-- no kind stands in both sets
abbrev pub Apart : Sets → Sets → Type 0
Apart a b = (k : List ℕ) → T (has a k) → T (has b k) → ⊥

-- each kind stands at most once in the set; the test is `distinct (kinds g)`
abbrev pub Once : Sets → Type 0
Once Nothing = Unit {0}
Once (Kind j) = Unit {0}
Once (Then a b) = Once a × Once b × Apart a b
Once (AnyNumber a) = Once a
Once (OneOrMore a) = Once a
Once (Perhaps a) = Once a
Once (Either a b) = Once a × Once b × Apart a b

-- where a walk stands: at the start, or behind the last kind read
pub data At : Type 0 where
  start : At
  last : List ℕ → At

-- what is left to read there
abbrev pub to_read : Sets → At → List Sets
to_read g start = g ∷ []
to_read g (last k) = after g k

-- the kind may come next
abbrev pub may : Sets → At → List ℕ → Bool
may g at k = firsts (to_read g at) k

-- the list may end here
abbrev pub ends : Sets → At → Bool
ends g at = nulls (to_read g at)

-- a walk stops at a place, counted from 0, or goes through and stands somewhere
pub data Walked (S : Type 0) : Type 0 where
  stopped : ℕ → Walked S
  through : S → Walked S

-- the walk from a standing through what is left of a list, its first kind being at place i
abbrev pub walk : Sets → At → ℕ → List (List ℕ) → Walked At
walk g at i [] = through at
walk g at i (k ∷ ks) = cond (may g at k) (walk g (last k) (suc i) ks) (stopped i)

-- a walk goes through
abbrev pub Goes : {S : Type 0} → Walked S → Type 0
Goes (stopped i) = ⊥
Goes (through s) = Unit {0}

-- a walk goes through to a place where the list may end
abbrev pub Ended : Sets → Walked At → Type 0
Ended g (stopped i) = ⊥
Ended g (through at) = T (ends g at)

-- what a walk says is right by the grammar
abbrev pub RightWalk : Sets → List (List ℕ) → Walked At → Type 0
RightWalk g ks (stopped i) = StoppedRight g ks i
RightWalk g ks (through at) = ThroughRight g ks (ends g at)
