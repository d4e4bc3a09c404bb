-- Why judge_records is right: the state is the summary of the records passed and the slots say their keys, so that what is left to judge gives the answer of the whole.
use mathlib.Core.Path.{◌≡◌}
use Rattle.layout.specs.Numbers.{layout_of}
use Rattle.judge.proofs.Files.{Kept}
use Rattle.judge.proofs.judge_records.Given as goal

abbrev pub invariant-loop-record : goal.invariant-loop-record
invariant-loop-record l =
    (l.record-iterator.bytes.now ≡ l.f) × Kept l.sep (layout_of l.t l.fixed) l.f l.st l.slots l.record-iterator.at
