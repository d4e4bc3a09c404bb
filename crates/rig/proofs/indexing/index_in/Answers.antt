-- A refusal of an index has its place.
use mathlib.Core.Path.{sym, ◌∙◌}
use lib.ListN.{length}
use Rattle.rig.proofs.Points.{index_placed}
use Rattle.rig.proofs.indexing.index_in.Goals as goal

pub refuse-requires : goal.refuse-requires
refuse-requires g c =
    let a = c.args in
    index_placed a.flow.now a.file.now (length a.file.now) c.in-Err.r
    (sym c.begin.ensures ∙ c.in-Err.is)
