-- What a turn of the run leaves.
use Rattle.std.specs.Prelude.{ℕ, ◌≤◌, List, length}
use Rattle.stream.specs.Window.{Within}
use Rattle.nightly.specs.declared.First.{First}
use Rattle.nightly.specs.declared.First.TheVariants.{Took, Short, Bad, Unwritten}
use Rattle.nightly.specs.declared.Run.{Run}
use Rattle.std.specs.declared.ops.ControlFlow.{ControlFlow}
use Rattle.std.specs.declared.ops.ControlFlow.TheVariants.{Continue, Break}
use Rattle.stream.specs.declared.ending.Ending.{Ending}

-- a case takes no more bytes than there are
abbrev pub TakesOf : List ℕ → First → Type 0
TakesOf s (Took n) = n ≤ length s
TakesOf s (Short f) = Unit {0}
TakesOf s (Bad f) = Unit {0}
TakesOf s Unwritten = Unit {0}

-- where the run goes on, the unread bytes are bytes of the window
abbrev pub StaysIn : List ℕ → ControlFlow Ending Run → Type 0
StaysIn window (Continue r) = Within window r.unread.from r.unread.to
StaysIn window (Break e) = Unit {0}
