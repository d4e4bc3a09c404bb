-- `add_line` is right: a bar stays a bar; else the running sum with what is left, turned, stays the sum with all of it.
use mathlib.Core.Path.{◌≡◌}
use lib.ListN.{length}
use Rattle.record.specs.Records.{barred}
use Rattle.checksum.specs.Checksum.{add_record}
use Rattle.checksum.proofs.add_line.Given as goal

abbrev pub invariant-loop-piece : goal.invariant-loop-piece
invariant-loop-piece l = add_record l.t (barred l.sep l.rest) ≡ add_record l.sum (barred l.sep l.part)

abbrev pub decreases-loop-piece : goal.decreases-loop-piece
decreases-loop-piece l = length l.rest
