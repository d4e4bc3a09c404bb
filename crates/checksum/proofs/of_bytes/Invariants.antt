-- `of_bytes` is right: the sum so far and the records left stay the checksum of the whole.
use mathlib.Core.Path.{◌≡◌}
use mathlib.Core.List.{foldl}
use lib.ListN.{drop}
use Rattle.record.specs.Records.{records}
use Rattle.checksum.specs.Checksum.{add_record, checksum_of}
use Rattle.checksum.proofs.of_bytes.Given as goal

abbrev pub invariant-loop-record : goal.invariant-loop-record
invariant-loop-record l =
    (l.record-iterator.bytes.now ≡ l.s) × (foldl add_record l.sum (records (drop l.record-iterator.at l.s)) ≡ checksum_of l.s)
