-- Why put_turned is right: the bytes from i on are left to put, turned.
use lib.ListN.{drop}
use Prim.Native.Nat.{◌+◌}
use Rattle.record.specs.Records.{turned}
use Rattle.sheet.proofs.Puts.{Goes}
use Rattle.sheet.proofs.put_turned.Given as goal

abbrev pub invariant-loop-i : goal.invariant-loop-i
invariant-loop-i l = Goes l.initial.out l.at (turned l.from l.to l.s) l.out (l.at + l.i) (turned l.from l.to (drop l.i l.s))
