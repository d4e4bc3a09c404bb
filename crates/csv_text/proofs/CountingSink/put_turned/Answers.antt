-- Why Counting's put_turned is right: bytes turned are as many.
use native.Mathlib.Omega.{arith}
use Rattle.record.proofs.Turned.{turned_length}
use Rattle.csv_text.proofs.CountingSink.put_turned.Goals as goal

pub returns : goal.returns
returns c =
    let a = c.args in
    omega (arith, turned_length a._from a._to a.s.now)
