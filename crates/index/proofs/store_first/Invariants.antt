-- `store_first` is right: after i turns the state has read i entries, and the list holds them and has the room that it had.
use mathlib.Core.Path.{◌≡◌}
use Rattle.index.specs.Code.{kinds_in, after, read, storing}
use Rattle.index.proofs.store_first.Given as goal

abbrev pub invariant-loop-i : goal.invariant-loop-i
invariant-loop-i g l =
    (l.s ≡ after (kinds_in l.t) l.f l.i)
    × (l.list ≡ storing g.T.Slot.with_entry (read (kinds_in l.t) l.f) l.i l.initial.list)
    × (g.T.Slot.room l.list ≡ g.T.Slot.room l.initial.list)
