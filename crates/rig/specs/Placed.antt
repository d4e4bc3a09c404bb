-- Where a refusal points. Assumes nothing.
use Rattle.std.specs.Prelude.{ℕ, List, Result, Ok, Err}
use Rattle.std.specs.Borrow.{Bor, MutBor}
use Rattle.place.specs.declared.Refusal.{Refusal}
use Rattle.pointing.specs.Shown.{Placed}
use Rattle.sheet.specs.Write.{Transfer}

-- a refusal has the place of its record and field in the bytes that were given, whose fields are parted by sep
abbrev pub PlacedIn : {A : Type 0} → ℕ → List ℕ → Result A Refusal → Type 0
PlacedIn sep s (Ok t) = Unit
PlacedIn sep s (Err r) = Placed sep s r

-- so has each that a call may answer for a flow and what is given, with what it leaves of the room
abbrev pub AnswersPlaced : ℕ → (Bor (List ℕ) → Bor (List ℕ) → MutBor (List ℕ) → Transfer → MutBor (List ℕ) → Type 0) → Type 0
AnswersPlaced sep answers =
    (flow given : Bor (List ℕ)) (room : MutBor (List ℕ)) (made : Transfer) (left : MutBor (List ℕ)) → answers flow given room made left → PlacedIn sep given.now made
