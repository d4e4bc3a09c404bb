-- The checksum of document 01's example, by computation.
use mathlib.Core.Path.{◌≡◌, refl}
use Rattle.record.specs.Records.{onto, records}
use Rattle.record.proofs.Examples.{bench}
use Rattle.checksum.specs.Checksum.{words, add_record, checksum, checksum_of}

-- the records before the footer have the checksum that the footer states
pub bench_checksum : checksum_of bench ≡ 812996689
unfolding bench records onto checksum_of checksum add_record words
bench_checksum = refl
