-- Why bare_end is right: all bytes before i are bare.
use Prim.Native.Nat.{◌+◌}
use mathlib.Core.Path.{◌≡◌}
use lib.ListN.{drop}
use Rattle.rfc4180.specs.Skim.{bare_run}
use Rattle.rfc4180.proofs.bare_end.Given as goal

abbrev pub invariant-loop-i : goal.invariant-loop-i
invariant-loop-i l = l.i + bare_run (drop l.i l.text) ≡ l.from + bare_run (drop l.from l.text)
