-- `main` lends the whole window and the whole room.
use Rattle.std.proofs.Common.{◌≡◌, ℕ, length, replicate, sym}
use lib.ListN.{length-replicate}
use Rattle.nightly.proofs.main.Goals as goal

-- an array of n zeros has n elements
filled : (n : ℕ) → n ≡ length {A = ℕ} (replicate n 0)
filled n = sym (length-replicate n 0)

pub slice_bounds-go_through-end : goal.slice_bounds-go_through-end
slice_bounds-go_through-end c = filled 2293760

pub slice_bounds-go_through-end-2 : goal.slice_bounds-go_through-end-2
slice_bounds-go_through-end-2 c = filled 1114112
