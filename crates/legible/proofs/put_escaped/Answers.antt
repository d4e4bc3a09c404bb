-- Four bytes are put at once. Assumes nothing.
use Prim.Native.Nat.{ℕ, ◌+◌, ◌-◌}
use native.Mathlib.Omega.{arith}
use mathlib.Core.Path.{◌≡◌, sym, ap₂, ◌∙◌}
use mathlib.Core.List.{[], ◌∷◌, append_assoc}
use lib.ListN.{take, drop}
use lib.Seq.{drop-drop, sets-eq}
use Rattle.legible.specs.Shown.{escaped}
use Rattle.legible.proofs.put_escaped.Goals as goal

pub returns : goal.returns
returns c =
    let a = c.args in
    let four : c.copy_from_slice.new.self ≡ escaped c.args.b = c.copy_from_slice.ensures.after ∙ ap₂ (λ (h l : ℕ). 0x5C ∷ 0x78 ∷ h ∷ l ∷ []) c.hex_digit.ensures c.hex_digit-2.ensures in
    let k : c.args.at + 4 - c.args.at ≡ 4 = omega arith in
    rw (four, k, drop-drop 4 a.at a.out.now) (sym (append_assoc (take a.at a.out.now) (escaped a.b) (drop (a.at + 4) a.out.now)) ∙ sym (sets-eq (escaped a.b) a.out.now a.at c.requires))
