-- Why put_given is right: a byte that stands in the sheet is put, any other is not.
use Prim.Native.Nat.{ℕ}
use mathlib.Core.Path.{sym, ap, ◌∙◌}
use mathlib.Core.List.{[], ◌∷◌}
use Rattle.rfc4180.specs.Walk.{given_of}
use Rattle.rfc4180.proofs.Steps.{given_one, given_none}
use Rattle.sheet.proofs.Puts.{Goes, goes_start, goes_as, goes_below, goes_byte, goes_done}
use Rattle.rfc4180.proofs.put_given.Goals as goal

pub returns-then-not-keeps : goal.returns-then-not-keeps
returns-then-not-keeps c =
    let a = c.args in
    goes_done (goes_as (goes_start a.out.now a.at _ c.requires) (given_none a.st a.b (sym c.keeps.ensures ∙ c.if-not-keeps.true)))

pub bounds-out-at : goal.bounds-out-at
bounds-out-at c =
    let one : let a = c.args in Goes a.out.now a.at (given_of a.st a.b) a.out.now a.at (c.turned.result ∷ []) = let a = c.args in
    goes_as (goes_start a.out.now a.at _ c.requires)
    (given_one a.st a.b (sym c.keeps.ensures ∙ c.if-not-keeps.false) ∙ ap (λ (x : ℕ). x ∷ []) (sym c.turned.ensures)) in
    goes_below _ [] one

pub returns : goal.returns
returns c =
    let one : let a = c.args in Goes a.out.now a.at (given_of a.st a.b) a.out.now a.at (c.turned.result ∷ []) = let a = c.args in
    goes_as (goes_start a.out.now a.at _ c.requires)
    (given_one a.st a.b (sym c.keeps.ensures ∙ c.if-not-keeps.false) ∙ ap (λ (x : ℕ). x ∷ []) (sym c.turned.ensures)) in
    goes_done (goes_byte _ [] one)
