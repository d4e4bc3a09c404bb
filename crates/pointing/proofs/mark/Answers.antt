-- One store into a line of blanks.
use native.Mathlib.Omega.{arith}
use Rattle.pointing.proofs.Marks.{blanks_marked}
use Rattle.pointing.proofs.mark.Goals as goal

pub returns : goal.returns
returns c = blanks_marked c.args.n 65 (omega arith)
