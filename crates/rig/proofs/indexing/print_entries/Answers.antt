-- The states that `print_entries` goes through are those of the index. Assumes nothing.
use Rattle.index.specs.Code.{after}
use Rattle.rig.proofs.Listing.{may_go_on, one_more_lem}
use Rattle.rig.proofs.indexing.print_entries.Goals as goal

pub loop-i-init : goal.loop-i-init
unfolding after
loop-i-init g c = c.start-s.ensures

pub advance-s-requires : goal.advance-s-requires
advance-s-requires g c = let l = c.loop-i in may_go_on _ _ l._i l.s l.invariant

pub loop-i-preserved : goal.loop-i-preserved
loop-i-preserved g c =
    let l = c.loop-i in
    let a = c.advance-s in
    one_more_lem _ _ l._i l.s l.invariant a.result a.ensures
