-- The rows of a flow's layout: their names, their number and the last of them. Assumes nothing.
use Prim.Native.Nat.{ℕ, zero, suc, ◌-◌, ◌≤◌}
use mathlib.Core.Path.{◌≡◌, refl, sym, ap, ◌∙◌}
use mathlib.Core.Bool.{Bool, true, false}
use mathlib.Core.List.{map-map}
use native.Mathlib.Omega.{arith}
use lib.Dec.{eqb}
use lib.ListN.{length, length-map}
use borrow.Author.Tests.{le-leb, eq-eqb, ne_eqb, eqb-true, eqb-false}
use Rattle.layout.specs.Layout.{KindRow, is_footer}
use Rattle.flow.specs.Publication.{Flow, PublishedKind, names, row_for, layout_for}
use Rattle.flow.specs.ByTable.{kind_names}

-- the names of the layout's kinds are the published ones
pub names_are : (f : Flow) → kind_names (layout_for f) ≡ names f.kinds
names_are f = map-map (λ (r : KindRow). r.name) (row_for f.grammar (names f.kinds)) f.kinds

-- the rows are the start's and one for each kind
pub rows_are : (f : Flow) → length (layout_for f).rows ≡ suc (length (names f.kinds))
rows_are f =
    ap suc (length-map f.kinds (row_for f.grammar (names f.kinds)) ∙ sym (length-map f.kinds (λ (k : PublishedKind). k.name)))

-- the footer's row is the last
eqb_turn : (m n : ℕ) (b : Bool) → eqb m n ≡ b → eqb n m ≡ b
eqb_turn m n true e = eq-eqb n m (sym (eqb-true m n e))
eqb_turn m n false e = ne_eqb n m (λ q. eqb-false m n e (sym q))

pub footer_is : (f : Flow) → 1 ≤ length (names f.kinds) → (r : ℕ) → is_footer (layout_for f) r ≡ eqb r (length (names f.kinds))
footer_is f some zero = sym (ne_eqb 0 (length (names f.kinds)) (λ e. omega arith))
footer_is f some (suc j) =
    let z : length (layout_for f).rows - 1 ≡ length (names f.kinds) = omega (arith, rows_are f) in
    rw (le-leb 1 (suc j) (omega arith), z) (eqb_turn (suc j) (length (names f.kinds)) _ refl)
