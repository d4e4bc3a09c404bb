-- Why put_stretch is right: in quotes the stretch is put as it is, and else with its commas turned.
use mathlib.Core.Path.{sym, ap, ◌∙◌}
use Rattle.record.proofs.Turned.{turned_same}
use Rattle.sheet.specs.Code.{put}
use Rattle.rfc4180.specs.Rfc.{comma}
use Rattle.rfc4180.proofs.States.{is_quotes}
use Rattle.rfc4180.proofs.Skimming.{given_quoted}
use Rattle.rfc4180.proofs.put_stretch.Goals as goal

pub returns-then-eq : goal.returns-then-eq
returns-then-eq c =
    let a = c.args in
    let u = a.stretch.now in
    c.put_turned.ensures
    ∙ ap (put a.out.now a.at) (turned_same comma u ∙ sym (given_quoted a.st u (sym (is_quotes a.st) ∙ sym c.eq.ensures ∙ c.if-eq.true)))
