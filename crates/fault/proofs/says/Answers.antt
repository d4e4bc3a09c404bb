-- `says` is right: the bytes found are field `k`, and a field that is not there spells no number.
use mathlib.Core.Path.{◌≡◌, refl, sym, ap, ◌∙◌}
use mathlib.Core.Bool.{false}
use mathlib.Core.List.{[]}
use Prim.Native.Nat.{ℕ}
use Rattle.record.proofs.Search.{field_stands, field_absent}
use Rattle.number.specs.Numbers.{spelled, plain}
use Rattle.fault.proofs.says.Goals as goal

-- no bytes spell a number
none-spelled : (v : ℕ) → spelled v [] ≡ false
unfolding spelled plain
none-spelled v = refl

pub of-requires : goal.of-requires
of-requires c =
    let a = c.args in
    let here = field_stands a.sep a.k a.r.now c.in-Some.ensures in
    (here.ordered, here.within)

pub returns-in-Some : goal.returns-in-Some
returns-in-Some c =
    let a = c.args in
    let here = field_stands a.sep a.k a.r.now c.in-Some.ensures in
    c.spells.ensures ∙ ap (spelled a.v) (c.of.ensures ∙ here.is)

pub returns-in-None : goal.returns-in-None
returns-in-None c =
    let a = c.args in
    sym (ap (spelled a.v) (field_absent a.sep a.k a.r.now c.in-None.ensures) ∙ none-spelled a.v)
