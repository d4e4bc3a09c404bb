-- Why last_start is right: one record is left from i on, and it starts behind a line feed, or at the file's start.
use Prim.Native.Nat.{◌≤◌}
use mathlib.Core.Path.{◌≡◌}
use lib.ListN.{length, drop}
use Rattle.record.specs.Records.{records}
use Rattle.sheet.proofs.last_start.Given as goal

abbrev pub invariant-loop-i : goal.invariant-loop-i
invariant-loop-i l = (l.i ≤ length l.f) × (length (records (drop l.i l.f)) ≡ 1)
