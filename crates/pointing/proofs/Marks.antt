-- A mark in a line of blanks. Assumes nothing.
use Prim.Native.Nat.{ℕ, ◌+◌, ◌<◌}
use mathlib.Core.Path.{◌≡◌, ap, ◌∙◌}
use mathlib.Core.List.{List, [], ◌∷◌, ◌++◌}
use native.Mathlib.Numerals.{add-one}
use native.Mathlib.Omega.{arith}
use lib.ListN.{length, take, set, replicate, length-replicate, length-append}
use lib.Seq.{take-suc-set}
use Rattle.std.proofs.lemmas.List.{take-replicate}
use Rattle.pointing.specs.Shown.{mark_behind}

abbrev blanks : ℕ → List ℕ
blanks n = replicate n 0x20

-- a mark among m blanks, with n of them before it
pub blanks_marked : (n m : ℕ) → n < m → take (n + 1) (set (blanks m) n 0x5E) ≡ mark_behind n
blanks_marked n m h =
    rw (add-one n)
    (take-suc-set (blanks m) n 0x5E (omega (arith, length-replicate {A = ℕ} m 0x20)) ∙ ap (λ (l : List ℕ). l ++ 0x5E ∷ []) (take-replicate n m 0x20 (omega arith)))

pub mark_length : (n : ℕ) → length (mark_behind n) ≡ n + 1
mark_length n = omega (arith, length-append (blanks n) (0x5E ∷ []), length-replicate {A = ℕ} n 0x20)
