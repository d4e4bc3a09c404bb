-- `add_record` is right: the running sum with the bytes that are left stays the sum with the whole record.
use mathlib.Core.Path.{◌≡◌}
use lib.ListN.{length}
use Rattle.checksum.specs.Checksum.{add_record}
use Rattle.checksum.proofs.add_record.Given as goal

abbrev pub invariant-loop-piece : goal.invariant-loop-piece
invariant-loop-piece l = add_record l.t l.rest ≡ add_record l.sum l.part

abbrev pub decreases-loop-piece : goal.decreases-loop-piece
decreases-loop-piece l = length l.rest
