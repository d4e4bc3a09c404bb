-- `count_entries` is right: those counted, with those among the records to come, are all.
use mathlib.Core.Path.{◌≡◌}
use Prim.Native.Nat.{◌≤◌, ◌+◌}
use lib.ListN.{drop}
use Rattle.index.specs.Entries.{kinds_of, heads_in}
use Rattle.index.specs.Code.{kinds_in}
use Rattle.index.proofs.count_entries.Given as goal

abbrev pub invariant-loop-record : goal.invariant-loop-record
invariant-loop-record l =
    (l.record-iterator.bytes.now ≡ l.f)
    × (l.count ≤ l.record-iterator.at)
    × (l.count + heads_in (kinds_in l.t) (kinds_of (kinds_in l.t) (drop l.record-iterator.at l.f)) ≡ heads_in (kinds_in l.t) (kinds_of (kinds_in l.t) l.f))
