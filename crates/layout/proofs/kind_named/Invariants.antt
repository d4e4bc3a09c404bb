-- The rows from k on have the name's kind where the layout has it. Assumes nothing.
use mathlib.Core.Path.{◌≡◌}
use mathlib.Core.List.{List}
use Prim.Native.Nat.{ℕ}
use lib.ListN.{drop}
use Rattle.layout.specs.Layout.{find, kind_named}
use Rattle.layout.specs.Numbers.{layout_of}
use Rattle.layout.proofs.Names.{Spells}
use Rattle.layout.proofs.kind_named.Given as goal

abbrev pub invariant-loop-k : goal.invariant-loop-k
invariant-loop-k l = Spells l.name l.spelled
    × ((bytes : List ℕ) → find l.name l.k (drop l.k (layout_of l.t bytes).rows) ≡ kind_named (layout_of l.t bytes) l.name)
