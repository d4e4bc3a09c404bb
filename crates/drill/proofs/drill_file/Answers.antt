-- A good file is within the limit.
use mathlib.Core.Path.{sym, ap, ◌∙◌}
use Rattle.flow.specs.Editions.{asked}
use Rattle.judge.specs.File.{paper}
use Rattle.drill.proofs.Tallies.{good_fits}
use Rattle.drill.proofs.drill_file.Goals as goal

pub run-requires : goal.run-requires
run-requires g c =
    let a = c.args in
    good_fits (asked a.flow.now) a.file.now c.in-Ok.records (sym c.judge.ensures ∙ ap paper c.in-Ok.is)
