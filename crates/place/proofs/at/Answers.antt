-- `at` is right: the numbers as given, and their place.
use mathlib.Core.Path.{ap}
use Rattle.place.specs.Places.{refusal}
use Rattle.place.proofs.at.Goals as goal

pub returns : goal.returns
returns c =
    let a = c.args in
    ap (refusal a.number a.n a.k) c.of.ensures
