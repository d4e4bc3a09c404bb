-- What a writer or reader hands over, in cells: the answer's numbers, and the same bytes. Assumes nothing.
use Prim.Native.Nat.{ℕ}
use mathlib.Core.Path.{◌≡◌, ap, ◌∙◌}
use mathlib.Core.List.{List}
use Rattle.sheet.specs.Write.{Transfer, paper, output, Handed}
use Rattle.sheet.proofs.RoundTrip.{same_answer}
use Rattle.screen.specs.Numbers.{transfer_cells, HandedCells}

pub handed_cells : (said : Transfer) (result : List ℕ) (a : Transfer) (old new cells : List ℕ) → cells ≡ transfer_cells (paper a)
    → Handed said result a old new → HandedCells said result cells old new
handed_cells said result a old new cells c h =
    record {
      says = c ∙ ap transfer_cells h.says;
      leaves = h.leaves ∙ ap (λ (t : Transfer). output t result old) (same_answer a said h.says);
    }
