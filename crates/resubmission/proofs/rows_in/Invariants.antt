-- Why rows_in is right: what is told of the records read is right at each step, and at the end all are read.
use mathlib.Core.Path.{◌≡◌}
use Rattle.flow.specs.Flows.{flow_at}
use Rattle.resubmission.specs.Code.{pair_of}
use Rattle.resubmission.proofs.Reading.{Reading}
use Rattle.resubmission.proofs.rows_in.Given as goal

abbrev pub invariant-loop-record : goal.invariant-loop-record
invariant-loop-record l =
    (l.record-iterator.bytes.now ≡ l.f) × Reading (flow_at l.m) (pair_of l.asks) l.f l.n l.record-iterator.at l.under l.rows
