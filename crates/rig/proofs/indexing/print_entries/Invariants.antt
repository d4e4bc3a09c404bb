-- The states that `print_entries` goes through are those of the index. Assumes nothing.
use mathlib.Core.Path.{◌≡◌}
use Rattle.index.specs.Code.{kinds_in, after}
use Rattle.rig.proofs.indexing.print_entries.Given as goal

abbrev pub invariant-loop-i : goal.invariant-loop-i
invariant-loop-i g l = l.s ≡ after (kinds_in l.t) l.file l._i
