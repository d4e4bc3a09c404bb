-- The search for what stops a line, a byte at a time. Assumes nothing.
use Prim.Native.Nat.{ℕ, ◌+◌, ◌≤◌, ◌<◌}
use mathlib.Core.Path.{◌≡◌}
use mathlib.Core.List.{List}
use native.Mathlib.Numerals.{add-one}
use lib.ListN.{length, get_or, drop, drop_of_length-le}
use lib.Seq.{drop-cons}
use mathlib.Core.Bool.{true, false}
use Rattle.std.specs.Prelude.{Some}
use Rattle.rfc4180.specs.declared.State.{State}
use Rattle.rfc4180.specs.Walk.{stopped, next_of}
use Rattle.commas.specs.Stopping.{stop_by, stop_end, mark_of, stop_from}

-- at the byte at i of a text
module _ (s : List ℕ) (i : ℕ) (st m : State) (mark : ℕ) (h : i < length s) (e : m ≡ next_of st (get_or s i 0)) where
  pub stop_here : stopped m ≡ true → stop_from st i mark (drop i s) ≡ Some (stop_by st (get_or s i 0) i mark)
  unfolding stop_from
  stop_here q = rw (drop-cons s i 0 h, ← e, q)

  pub stop_next : stopped m ≡ false → stop_from st i mark (drop i s) ≡ stop_from m (i + 1) (mark_of st m i mark) (drop (i + 1) s)
  unfolding stop_from
  stop_next q = rw (add-one i, drop-cons s i 0 h, ← e, q, add-one i)

-- at the end
pub stop_end_lem : (s : List ℕ) (i : ℕ) (st : State) (mark : ℕ) → length s ≤ i → stop_from st i mark (drop i s) ≡ stop_end st mark
unfolding stop_from
stop_end_lem s i st mark h = rw (drop_of_length-le s {i = i} h)
