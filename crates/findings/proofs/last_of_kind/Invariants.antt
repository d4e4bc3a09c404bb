-- Why last_of_kind is right: the last of all the records before record n is the last of those left, given the last of those passed.
use Prim.Native.Nat.{ℕ}
use mathlib.Core.Path.{◌≡◌}
use mathlib.Core.List.{List, foldl}
use lib.ListN.{take, drop}
use Rattle.record.specs.Records.{records}
use Rattle.layout.specs.Numbers.{layout_of}
use Rattle.findings.specs.Lines.{with_one, last_of_kind, records_before}
use Rattle.findings.proofs.last_of_kind.Given as goal

abbrev pub invariant-loop-record : goal.invariant-loop-record
invariant-loop-record l =
    (l.record-iterator.iter.bytes.now ≡ l.file)
    × ((fixed : List ℕ)
    → foldl (with_one l.sep (layout_of l.t fixed) l.kind) l.last (take l.record-iterator.n (records (drop l.record-iterator.iter.at l.file)))
    ≡ last_of_kind l.sep (layout_of l.t fixed) l.kind (records_before l.file l.n))
