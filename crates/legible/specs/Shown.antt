-- Bytes as people can read them. No two strings of bytes are shown alike (`one-shown`). Assumes nothing.
use Rattle.std.specs.Prelude.{ℕ, ◌+◌, ◌-◌, ◌/◌, ◌%◌, ◌≤◌, ◌≡◌, Bool, cond, not, ◌&&◌, List, [], ◌∷◌, ◌++◌, eqb, leb, length, take, drop}
use Rattle.text.specs.Characters.{from_to}

-- a printable character that stands for itself: neither backslash nor backquote
unfoldable pub is_plain : ℕ → Bool
is_plain b = from_to 32 126 b && not (eqb b 0x5C) && not (eqb b 0x60)

-- a hex digit, its letter small
unfoldable pub hex_digit : ℕ → ℕ
hex_digit d = cond (leb d 9) (48 + d) (87 + d)

-- a backslash, an x and two hex digits
abbrev pub escaped : ℕ → List ℕ
escaped b = 0x5C ∷ 0x78 ∷ hex_digit (b / 16) ∷ hex_digit (b % 16) ∷ []

-- one byte
unfoldable pub shown_byte : ℕ → List ℕ
shown_byte b = cond (is_plain b) (b ∷ []) (escaped b)

-- bytes, one after the other
unfoldable pub shown : List ℕ → List ℕ
shown [] = []
shown (b ∷ s) = shown_byte b ++ shown s

-- as much of that as there is room for: none of a byte that has not room for the whole of what shows it, nor of those after it
unfoldable pub fitting : ℕ → List ℕ → List ℕ
fitting room [] = []
fitting room (b ∷ s) = cond (leb (length (shown_byte b)) room) (shown_byte b ++ fitting (room - length (shown_byte b)) s) []

-- n counts bytes at the front of a list; the second part follows from the first, and both are what `&list[..n]` asks
abbrev pub Front : ℕ → List ℕ → Type 0
Front n l = (n ≤ length l) × (n ≡ length (take n l))

-- what fits stands at the front of the lent bytes, n of them, and the rest is as it was
pub record Shows (s old new : List ℕ) (n : ℕ) : Type 0 where
  pub front : Front n new
  pub count : n ≡ length (fitting (length old) s)
  pub bytes : new ≡ fitting (length old) s ++ drop n old
