-- `spoil_all` leaves the file as it was, as each turn does; at each place at most 255 files are counted.
use Rattle.std.proofs.Common.{◌≡◌, ◌+◌, ◌*◌, ◌≤◌, length}
use Rattle.drill.proofs.drill.spoil_all.Given as goal

abbrev pub invariant-loop-at : goal.invariant-loop-at
invariant-loop-at g l = (l.file ≡ l.initial.file) × (l.at ≤ length l.initial.file) × (l.t.refused + l.t.passed ≤ 255 * l.at)
