-- An entry that is put into a list takes no room away. Assumes nothing.
use Rattle.std.proofs.Common.{◌≡◌, ℕ, ◌+◌, ◌*◌, ◌/◌, ◌<◌, ◌≤◌, List, ◌++◌, length, take, drop, refl, ap, arith, length-append, length-drop}
use lib.ListN.{set, length-set}
use lib.Seq.{length-take-le}
use native.Mathlib.Nat.{mul-div-le}
use Rattle.index.specs.declared.Entry.{Entry}
use Rattle.index.specs.Entries.{numbers_of}
use Rattle.index.specs.Code.{with_numbers}

pub entries_as_long : (s : List Entry) (i : ℕ) (e : Entry) → i < length s → length (set s i e) ≡ length s
entries_as_long s i e h = simp length-set

cells_as_long : (s ns : List ℕ) (at : ℕ) → length ns ≡ 4 → at + 4 ≤ length s → length (take at s ++ ns ++ drop (at + 4) s) ≡ length s
cells_as_long s ns at four fits = simp (length-append, length-drop) (omega (arith, length-take-le at s (omega arith), four))

pub numbers_as_long : (s : List ℕ) (i : ℕ) (e : Entry) → i < length s / 4 → length (with_numbers s i e) / 4 ≡ length s / 4
numbers_as_long s i e h =
    let fits : 4 * i + 4 ≤ length s = omega (arith, mul-div-le (length s) 4) in
    ap (λ (n : ℕ). n / 4) (cells_as_long s (numbers_of e) (4 * i) refl fits)
