-- A record's pieces as a loop meets them: the first four bytes, and what is left at the end.
use Prim.Native.Nat.{ℕ, ◌≤◌, ◌<◌}
use mathlib.Core.Path.{◌≡◌, refl}
use mathlib.Core.List.{List, [], ◌∷◌}
use native.Mathlib.Omega.{arith}
use lib.ListN.{length, take, drop, get_or}
use lib.Bits.{bit_xor}
use Rattle.record.specs.Records.{turned_byte, turned, barred, bar}
use Rattle.checksum.specs.Checksum.{word, piece_at, words, add_record}

-- a running checksum with the first piece of four bytes, and what is left
pub add_piece : (t : ℕ) (s p left : List ℕ) → 4 ≤ length s → p ≡ take 4 s → left ≡ drop 4 s → add_record (bit_xor t (piece_at p 0)) left ≡ add_record t s
unfolding add_record words
add_piece t [] p left h e f = absurd (omega arith)
add_piece t (a ∷ []) p left h e f = absurd (omega arith)
add_piece t (a ∷ b ∷ []) p left h e f = absurd (omega arith)
add_piece t (a ∷ b ∷ c ∷ []) p left h e f = absurd (omega arith)
add_piece t (a ∷ b ∷ c ∷ d ∷ s) p left h e f = rw (e, f)

-- the same with each byte of the piece turned
pub add_barred : (t sep : ℕ) (s p left : List ℕ) → 4 ≤ length s → p ≡ take 4 s → left ≡ drop 4 s
    → add_record (bit_xor t (word (turned_byte sep bar (get_or p 0 0)) (turned_byte sep bar (get_or p 1 0)) (turned_byte sep bar (get_or p 2 0)) (turned_byte sep bar (get_or p 3 0)))) (barred sep left)
    ≡ add_record t (barred sep s)
unfolding add_record words turned
add_barred t sep [] p left h e f = absurd (omega arith)
add_barred t sep (a ∷ []) p left h e f = absurd (omega arith)
add_barred t sep (a ∷ b ∷ []) p left h e f = absurd (omega arith)
add_barred t sep (a ∷ b ∷ c ∷ []) p left h e f = absurd (omega arith)
add_barred t sep (a ∷ b ∷ c ∷ d ∷ s) p left h e f = rw (e, f)

-- fewer than four bytes
pub add_few : (t : ℕ) (s : List ℕ) → 0 < length s → length s < 4 → add_record t s ≡ bit_xor t (word (get_or s 0 0) (get_or s 1 0) (get_or s 2 0) 0)
unfolding add_record words
add_few t [] h k = absurd (omega arith)
add_few t (a ∷ []) h k = refl
add_few t (a ∷ b ∷ []) h k = refl
add_few t (a ∷ b ∷ c ∷ []) h k = refl
add_few t (a ∷ b ∷ c ∷ d ∷ s) h k = absurd (omega arith)

-- none
pub add_nothing : (t : ℕ) (s : List ℕ) → length s ≡ 0 → add_record t s ≡ t
unfolding add_record words
add_nothing t [] e = refl
add_nothing t (b ∷ s) e = absurd (omega arith)
