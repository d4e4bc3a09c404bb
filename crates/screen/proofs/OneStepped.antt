-- The cells of a step, and its lent bytes, have one right value each. Assumes nothing.
use Prim.Native.Nat.{ℕ}
use mathlib.Core.Path.{◌≡◌, sym, ap, ◌∙◌}
use mathlib.Core.List.{List}
use Rattle.flow.specs.Editions.{Asked}
use Rattle.flow.proofs.OneStep.{one_reply}
use Rattle.screen.specs.Numbers.{step_cells, Stepped}

-- two answers that meet the contract are the same, and so are the lent bytes after them
pub one_stepped : (a : Asked) (kinds old cells others new other : List ℕ) → Stepped a kinds cells old new → Stepped a kinds others old other
    → (cells ≡ others) × (new ≡ other)
one_stepped a kinds old cells others new other s t =
    let one = one_reply a kinds old s.step t.step new other s.right t.right in
    (s.says ∙ ap step_cells one.0 ∙ sym t.says, one.1)
