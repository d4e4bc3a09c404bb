-- Why put_doubled is right: the bytes from i on are left to take.
use lib.ListN.{drop}
use Rattle.csv_text.specs.Export.{doubled}
use Rattle.csv_text.proofs.Taken.{Left}
use Rattle.csv_text.proofs.put_doubled.Given as goal

abbrev pub invariant-loop-b : goal.invariant-loop-b
invariant-loop-b g l = Left g.S.Sink.has_room g.S.Sink.took l.initial.sink (doubled l.x) l.sink (doubled (drop l.b-index l.x))
