-- `children_from` is right: those counted, with those among the records to come, are all.
use mathlib.Core.Path.{◌≡◌}
use Prim.Native.Nat.{◌≤◌, ◌+◌}
use lib.ListN.{drop}
use Rattle.index.specs.Entries.{kinds_of}
use Rattle.index.specs.Code.{kinds_in, scanned}
use Rattle.index.proofs.children_from.Given as goal

abbrev pub invariant-loop-record : goal.invariant-loop-record
invariant-loop-record l =
    (l.record-iterator.bytes.now ≡ l.f)
    × (l.count ≤ l.record-iterator.at)
    × (l.count + scanned (kinds_in l.t) l.k (kinds_of (kinds_in l.t) (drop l.record-iterator.at l.f)) ≡ scanned (kinds_in l.t) l.k (kinds_of (kinds_in l.t) (drop l.at l.f)))
