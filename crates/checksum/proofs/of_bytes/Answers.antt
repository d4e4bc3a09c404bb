-- `of_bytes` is right: the sum so far and the records left stay the checksum of the whole.
use Rattle.std.proofs.Common.{rules}
use Rattle.checksum.specs.Checksum.{checksum_of, checksum}
use Rattle.checksum.proofs.of_bytes.Goals as goal

pub loop-record-init : goal.loop-record-init
unfolding checksum_of checksum
loop-record-init c = search rules
