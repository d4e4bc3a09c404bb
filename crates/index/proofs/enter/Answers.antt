-- `enter` is right: its parts are those of the state with the record entered.
use mathlib.Core.Path.{◌∙◌}
use mathlib.Core.List.{[]}
use native.Mathlib.Omega.{arith}
use Rattle.index.specs.Code.{kinds_in}
use Rattle.index.proofs.Tables.{head_read}
use Rattle.index.proofs.Stating.{was_entered}
use Rattle.index.proofs.enter.Goals as goal

pub returns : goal.returns
returns c =
    let a = c.args in
    let t = a.t.now in
    was_entered (kinds_in t) a.s a.n a.k a.a a.e a.children (omega arith) _ _ (c.head_of.ensures.0 [] ∙ head_read t a.k) c.parent_in-parent.ensures
