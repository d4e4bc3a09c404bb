-- Why put_sheet is right: what the bytes from i on give is left to put.
use Prim.Native.Nat.{◌≤◌, ◌-◌}
use lib.ListN.{length, drop}
use Rattle.rfc4180.specs.declared.State.TheVariants.{AtLine}
use Rattle.rfc4180.specs.Walk.{sheet_from}
use Rattle.sheet.proofs.Puts.{Goes}
use Rattle.rfc4180.proofs.put_sheet.Given as goal

abbrev pub invariant-loop-i : goal.invariant-loop-i
invariant-loop-i l = (l.i ≤ length l.text) × Goes l.initial.out 0 (sheet_from AtLine l.text) l.out l.e (sheet_from l.st (drop l.i l.text))

abbrev pub decreases-loop-i : goal.decreases-loop-i
decreases-loop-i l = length l.text - l.i
