-- Why put_fields is right: the fields that the loop has not passed are left to take.
use mathlib.Core.Path.{◌≡◌}
use Rattle.record.specs.Records.{fields, fields_from, bar}
use Rattle.csv_text.specs.Export.{line_of}
use Rattle.csv_text.proofs.Taken.{Left}
use Rattle.csv_text.proofs.put_fields.Given as goal

abbrev pub invariant-loop-field : goal.invariant-loop-field
invariant-loop-field g l =
    (l.field-iterator.sep ≡ bar) × (l.field-iterator.bytes.now ≡ l.r)
    × Left g.S.Sink.has_room g.S.Sink.took l.initial.sink (line_of (fields bar l.r)) l.sink (line_of (fields_from bar l.field-iterator.at l.r))
