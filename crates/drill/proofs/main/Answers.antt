-- `main` lends the whole room.
use Prim.Native.Nat.{ℕ}
use mathlib.Core.Path.{◌≡◌, sym}
use lib.ListN.{length, replicate, length-replicate}
use Rattle.drill.proofs.main.Goals as goal

-- an array of n zeros has n elements
filled : (n : ℕ) → n ≡ length {A = ℕ} (replicate n 0)
filled n = sym (length-replicate n 0)

pub slice_bounds-start-end : goal.slice_bounds-start-end
slice_bounds-start-end c = filled 1048577
