-- `spoil_place` leaves the file as it was, as each turn does; no more files are counted than bytes are passed.
use Rattle.std.proofs.Common.{◌≡◌, ◌+◌, ◌≤◌, ◌<◌}
use Rattle.drill.proofs.drill.spoil_place.Given as goal

abbrev pub invariant-loop-d : goal.invariant-loop-d
invariant-loop-d g l = (l.file ≡ l.initial.file) × (1 ≤ l.d) × (l.d ≤ 256) × (l.t.refused + l.t.passed < l.initial.t.refused + l.initial.t.passed + l.d)
