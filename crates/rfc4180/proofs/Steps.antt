-- Laws of the walk, byte by byte. Assumes nothing.
use Prim.Native.Nat.{ℕ, ◌+◌, ◌≤◌, ◌<◌}
use mathlib.Core.Path.{◌≡◌, ap, ◌∙◌}
use mathlib.Core.Bool.{Bool, true, false, cond}
use mathlib.Core.List.{List, [], ◌∷◌, ◌++◌}
use native.Mathlib.Numerals.{add-one}
use native.Mathlib.Omega.{arith}
use lib.ListN.{length, get_or, drop, length-append, drop_of_length-le}
use lib.Seq.{drop-cons}
use Rattle.rfc4180.specs.Rfc.{feed}
use Rattle.rfc4180.specs.Walk.{at_line, stopped, next_of, keeps, turned_of, given_of, ended_of, may_end, stop_at, sheet_from, lines_from}
use Rattle.rfc4180.specs.declared.State.{State}

-- what one byte gives
module _ (st : State) (b : ℕ) where
  pub given_one : keeps st b ≡ true → given_of st b ≡ turned_of st b ∷ []
  unfolding given_of
  given_one e = rw e

  pub given_none : keeps st b ≡ false → given_of st b ≡ []
  unfolding given_of
  given_none e = rw e

  given_go : (t : Bool) → length (cond t (turned_of st b ∷ []) []) ≤ 1
  given_go true = omega arith
  given_go false = omega arith

  pub given_le : length (given_of st b) ≤ 1
  unfolding given_of
  given_le = given_go (keeps st b)

ended_go : (t : Bool) → cond t 1 0 ≤ 1
ended_go true = omega arith
ended_go false = omega arith

pub ended_le : (st : State) → ended_of st ≤ 1
ended_le st = ended_go (at_line st)

-- at the byte at i of a text
module _ (s : List ℕ) (i : ℕ) (st m : State) (h : i < length s) (e : m ≡ next_of st (get_or s i 0)) where
  pub stop_here : (n : ℕ) → stopped m ≡ true → stop_at st n (drop i s) ≡ n + 1
  unfolding stop_at
  stop_here n q = rw (drop-cons s i 0 h, ← e, q)

  pub stop_next : (n : ℕ) → stopped m ≡ false → stop_at st n (drop i s) ≡ stop_at m (n + ended_of m) (drop (i + 1) s)
  unfolding stop_at
  stop_next n q = rw (add-one i, drop-cons s i 0 h, ← e, q)

  pub sheet_next : sheet_from st (drop i s) ≡ given_of st (get_or s i 0) ++ sheet_from m (drop (i + 1) s)
  unfolding sheet_from
  sheet_next = rw (add-one i, drop-cons s i 0 h, ← e)

  pub size_next : length (sheet_from st (drop i s)) ≡ length (given_of st (get_or s i 0)) + length (sheet_from m (drop (i + 1) s))
  size_next = ap length sheet_next ∙ length-append (given_of st (get_or s i 0)) (sheet_from m (drop (i + 1) s))

  pub lines_next : lines_from st (drop i s) ≡ ended_of m + lines_from m (drop (i + 1) s)
  unfolding lines_from
  lines_next = rw (add-one i, drop-cons s i 0 h, ← e)

-- at the end
module _ (s : List ℕ) (i : ℕ) (st : State) (h : length s ≤ i) where
  pub stop_open : (n : ℕ) → may_end st ≡ false → stop_at st n (drop i s) ≡ n + 1
  unfolding stop_at
  stop_open n e = rw (drop_of_length-le s {i = i} h, e)

  pub stop_none : (n : ℕ) → may_end st ≡ true → stop_at st n (drop i s) ≡ 0
  unfolding stop_at
  stop_none n e = rw (drop_of_length-le s {i = i} h, e)

  pub sheet_ended : at_line st ≡ true → sheet_from st (drop i s) ≡ []
  unfolding sheet_from
  sheet_ended e = rw (drop_of_length-le s {i = i} h, e)

  pub sheet_open : at_line st ≡ false → sheet_from st (drop i s) ≡ feed ∷ []
  unfolding sheet_from
  sheet_open e = rw (drop_of_length-le s {i = i} h, e)

  pub lines_ended_lem : at_line st ≡ true → lines_from st (drop i s) ≡ 0
  unfolding lines_from
  lines_ended_lem e = rw (drop_of_length-le s {i = i} h, e)

  pub lines_open : at_line st ≡ false → lines_from st (drop i s) ≡ 1
  unfolding lines_from
  lines_open e = rw (drop_of_length-le s {i = i} h, e)
