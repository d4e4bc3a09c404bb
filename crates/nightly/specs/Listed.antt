-- The entries of an index in cells, four each. Assumes nothing.
use Rattle.std.specs.Prelude.{ℕ, ◌*◌, ◌≤◌, List, length, Result, Ok, Err}
use Rattle.place.specs.declared.Refusal.{Refusal}
use Rattle.index.specs.declared.Filled.{Filled}

-- as many entries as an index is said to have stand in some cells
abbrev pub StandIn : List ℕ → Result Filled Refusal → Type 0
StandIn cells (Ok said) = 4 * said.entries ≤ length cells
StandIn cells (Err r) = Unit
