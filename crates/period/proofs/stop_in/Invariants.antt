-- Why stop_in is right: what is left to read has the stop of the whole file.
use mathlib.Core.Path.{◌≡◌}
use Rattle.period.proofs.Stops.{Seeking}
use Rattle.period.proofs.stop_in.Given as goal

abbrev pub invariant-loop-record : goal.invariant-loop-record
invariant-loop-record l = (l.record-iterator.bytes.now ≡ l.f) × Seeking l.f l.period l.record-iterator.at
