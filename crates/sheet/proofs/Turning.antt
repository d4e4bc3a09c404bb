-- Laws of bytes turned one by one. Assumes nothing.
use Prim.Native.Nat.{ℕ, ◌+◌, ◌≤◌, ◌<◌}
use mathlib.Core.Path.{◌≡◌}
use mathlib.Core.List.{List, [], ◌∷◌}
use native.Mathlib.Numerals.{add-one}
use lib.ListN.{length, get_or, drop, drop_of_length-le}
use lib.Seq.{drop-cons}
use Rattle.record.specs.Records.{turned_byte, turned}

module _ (from to : ℕ) (s : List ℕ) (i : ℕ) where
  pub turned_next : i < length s → turned from to (drop i s) ≡ turned_byte from to (get_or s i 0) ∷ turned from to (drop (i + 1) s)
  unfolding turned
  turned_next h = rw (add-one i, drop-cons s i 0 h)

  pub turned_end : length s ≤ i → turned from to (drop i s) ≡ []
  unfolding turned
  turned_end h = rw (drop_of_length-le s {i = i} h)
