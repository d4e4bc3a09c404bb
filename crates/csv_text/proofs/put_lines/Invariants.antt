-- Why put_lines is right: the records that the loop has not passed are left to take.
use mathlib.Core.Path.{◌≡◌}
use Rattle.csv_text.proofs.Lines.{text_from}
use Rattle.csv_text.proofs.Taken.{Left}
use Rattle.csv_text.proofs.put_lines.Given as goal

abbrev pub invariant-loop-record : goal.invariant-loop-record
invariant-loop-record g l =
    (l.record-iterator.bytes.now ≡ l.s) × Left g.S.Sink.has_room g.S.Sink.took l.initial.sink (text_from l.s 0) l.sink (text_from l.s l.record-iterator.at)
