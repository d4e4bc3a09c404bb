-- The checksum of records (document 01, "Footer").
use Rattle.std.specs.Prelude.{ℕ, ◌+◌, ◌*◌, get_or}
use mathlib.Core.List.{List, [], ◌∷◌, foldl}
use Rattle.std.specs.Int.Bits.{bit_xor}
use Rattle.record.specs.Records.{records}

-- four bytes read as a 32-bit number, first byte highest
abbrev pub word : ℕ → ℕ → ℕ → ℕ → ℕ
word a b c d = a * 0x1000000 + b * 0x10000 + c * 0x100 + d

-- the four bytes of s from i on as one number
abbrev pub piece_at : List ℕ → ℕ → ℕ
piece_at s i = word (get_or s i 0) (get_or s (i + 1) 0) (get_or s (i + 2) 0) (get_or s (i + 3) 0)

-- a record cut into 4-byte pieces, the last filled with zero bytes
unfoldable pub words : List ℕ → List ℕ
words [] = []
words (a ∷ []) = word a 0 0 0 ∷ []
words (a ∷ b ∷ []) = word a b 0 0 ∷ []
words (a ∷ b ∷ c ∷ []) = word a b c 0 ∷ []
words (a ∷ b ∷ c ∷ d ∷ s) = word a b c d ∷ words s

-- a running checksum with the pieces of one record more
unfoldable pub add_record : ℕ → List ℕ → ℕ
add_record sum r = foldl bit_xor sum (words r)

-- the checksum of records: start at 0, exclusive-or all their pieces
unfoldable pub checksum : List (List ℕ) → ℕ
checksum rs = foldl add_record 0 rs

-- the checksum of bytes takes every record in them, of any kind
unfoldable pub checksum_of : List ℕ → ℕ
checksum_of s = checksum (records s)
