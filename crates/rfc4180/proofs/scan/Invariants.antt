-- Why scan is right: what is said from i on is said of the whole.
use lib.ListN.{length, drop}
use Prim.Native.Nat.{◌≤◌, ◌+◌, ◌-◌}
use mathlib.Core.Path.{◌≡◌}
use Rattle.rfc4180.specs.declared.State.TheVariants.{AtLine}
use Rattle.rfc4180.specs.Walk.{stop_at, sheet_from, lines_from}
use Rattle.rfc4180.proofs.scan.Given as goal

abbrev pub invariant-loop-i : goal.invariant-loop-i
invariant-loop-i l = (l.i ≤ length l.text) × (l.lines ≤ l.i) × (l.bytes ≤ l.i) × (stop_at l.st l.lines (drop l.i l.text) ≡ stop_at AtLine 0 l.text)
    × (l.lines + lines_from l.st (drop l.i l.text) ≡ lines_from AtLine l.text) × (l.bytes + length (sheet_from l.st (drop l.i l.text)) ≡ length (sheet_from AtLine l.text))

abbrev pub decreases-loop-i : goal.decreases-loop-i
decreases-loop-i l = length l.text - l.i
