-- `index_in` is safe: an index has no more entries than it was lent room for. Assumes nothing.
use Rattle.std.proofs.Common.{arith}
use Rattle.nightly.proofs.Lists.{filled_stands}
use Rattle.nightly.proofs.indexing.index_in.Goals as goal

pub print_index-requires : goal.print_index-requires
print_index-requires g c = filled_stands _ (omega arith) c.fill_cells-said.ensures
