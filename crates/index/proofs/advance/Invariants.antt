-- `advance` is right: reading on from the record to come is reading on from the state.
use mathlib.Core.Path.{◌≡◌}
use Prim.Native.Nat.{◌≤◌, ◌-◌}
use lib.ListN.{length}
use Rattle.index.specs.Code.{kinds_in, advanced}
use Rattle.index.proofs.Onward.{from}
use Rattle.index.proofs.advance.Given as goal

abbrev pub invariant-loop-record : goal.invariant-loop-record
invariant-loop-record l =
    (l.records.bytes.now ≡ l.f) × (l.s.entries ≤ l.n) × (l.n ≤ l.records.at) × (from (kinds_in l.t) l.f l.s l.n l.records.at ≡ advanced (kinds_in l.t) l.f l.s)

abbrev pub decreases-loop-record : goal.decreases-loop-record
decreases-loop-record l = length l.f - l.records.at
