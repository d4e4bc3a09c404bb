-- Why Putting's put_turned is right: bytes turned are as many, and stand from the place on.
use mathlib.Core.Path.{refl}
use native.Mathlib.Omega.{arith}
use Rattle.record.proofs.Turned.{turned_length}
use Rattle.csv_text.proofs.PuttingSink.put_turned.Goals as goal

pub returns : goal.returns
returns c =
    let a = c.args in
    (c.put_turned.ensures, omega (arith, turned_length a.from a.to a.s.now), refl)
