-- What a load of a file says of the room that it was lent. Assumes nothing.
use Rattle.std.specs.Prelude.{ℕ, List, Option, Some, None}
use Rattle.io.specs.Counts.{IsPrefixLen}

-- the bytes that came stand at the front of the room; of a file that was not read none came
abbrev pub Loads : List ℕ → Option ℕ → Type 0
Loads room (Some size) = IsPrefixLen size room
Loads room None = Unit {0}
