-- Why first_bar_line is right: the first of all lines that has a bar is the first of those that are left.
use Prim.Native.Nat.{◌+◌}
use mathlib.Core.Path.{◌≡◌}
use lib.ListN.{drop}
use Rattle.record.specs.Records.{records}
use Rattle.sheet.specs.Sheets.{bar_line}
use Rattle.sheet.proofs.first_bar_line.Given as goal

abbrev pub invariant-loop-passed : goal.invariant-loop-passed
invariant-loop-passed l =
    (l.passed-iterator.iter.bytes.now ≡ l.sheet)
    × (bar_line (l.passed-iterator.count + 1) (records (drop l.passed-iterator.iter.at l.sheet)) ≡ bar_line 1 (records l.sheet))
