-- What document 01 says of the verdict is what the judge promises.
use mathlib.Core.Path.{sym, ap, ◌∙◌}
use Rattle.drill.specs.Drill.{accepts, passes}
use Rattle.drill.proofs.Tallies.{accepts_ok}
use Rattle.drill.proofs.drill.accepts.Goals as goal

pub returns : goal.returns
unfolding passes
returns c = c.is_ok.ensures.value ∙ sym (accepts_ok c.judge.result) ∙ ap accepts c.judge.ensures
