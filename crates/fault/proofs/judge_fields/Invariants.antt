-- `judge_fields` is right: what is known of the fields that are read stays so with each field more.
use mathlib.Core.Path.{◌≡◌}
use Rattle.fault.proofs.Fields.{Reading}
use Rattle.fault.proofs.judge_fields.Given as goal

abbrev pub invariant-loop-f : goal.invariant-loop-f
invariant-loop-f l =
    (l.fields.sep ≡ l.sep) × (l.fields.bytes.now ≡ l.r) × Reading l.t l.fixed l.rules.place l.rules.count l.sep l.key l.r l.f l.fields.at l.found
