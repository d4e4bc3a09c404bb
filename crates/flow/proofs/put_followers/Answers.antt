-- The names written so far and those that the rows from k on will give are all the followers. Assumes nothing.
use Prim.Native.Nat.{◌+◌, ◌*◌, ◌≤◌, ◌<◌}
use mathlib.Core.List.{[]}
use native.Mathlib.Omega.{arith}
use lib.ListN.{length}
use borrow.Author.Rules.{rules}
use Rattle.layout.specs.Numbers.{row_count, layout_of}
use Rattle.flow.specs.ByTable.{followers_by}
use Rattle.flow.proofs.Listing.{written_all}
use Rattle.flow.proofs.Followers.{followers_counts, followers_next, followers_done}
use Rattle.flow.proofs.put_followers.Goals as goal

pub loop-k-preserved : goal.loop-k-preserved
loop-k-preserved c =
    let a = c.args in
    let l = c.loop-k in
    let p = c.put_follower-count in
    let h : l.k < row_count a.t.now = search rules in
    let room : 3 * l.count + 3 ≤ length l.out = search rules in
    let counts : p.result ≤ l.count + 1 =
    followers_counts a.t.now [] a.last l.k l.count p.result l.out p.new.out (p.ensures []) in (
      l.invariant.0,
      omega arith,
      search rules,
      λ fixed. followers_next a.t.now fixed a.last l.k h (followers_by (layout_of a.t.now fixed) a.last) l.count p.result
          a.out.now l.out _ (l.invariant.3 fixed) room (p.ensures fixed),
    )

pub returns : goal.returns
returns c =
    let a = c.args in
    let l = c.loop-k in
    let h : row_count a.t.now ≤ l.k = search rules in
    λ fixed. written_all (followers_by (layout_of a.t.now fixed) a.last) l.count a.out.now l.out
    (rw (followers_done a.t.now fixed a.last l.k h) at (l.invariant.3 fixed))
