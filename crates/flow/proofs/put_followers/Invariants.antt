-- The names written so far and those that the rows from k on will give are all the followers. Assumes nothing.
use Prim.Native.Nat.{ℕ, ◌<◌}
use mathlib.Core.Path.{◌≡◌}
use mathlib.Core.List.{List}
use lib.ListN.{length, drop}
use Rattle.layout.specs.Numbers.{row_count, layout_of}
use Rattle.flow.specs.ByTable.{followers_from, followers_by}
use Rattle.flow.proofs.Listing.{Written}
use Rattle.flow.proofs.put_followers.Given as goal

abbrev pub invariant-loop-k : goal.invariant-loop-k
invariant-loop-k l = (l.k-end ≡ row_count l.t) × (l.count < l.k) × (length l.out ≡ length l.initial.out)
    × ((fixed : List ℕ)
    → Written (followers_by (layout_of l.t fixed) l.last) (followers_from (layout_of l.t fixed) l.last l.k (drop l.k (layout_of l.t fixed).rows)) l.count l.initial.out l.out)
