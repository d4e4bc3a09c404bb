-- Bytes as they are shown, computed. Assumes nothing.
use mathlib.Core.Path.{◌≡◌, refl}
use mathlib.Core.List.{[], ◌∷◌}
use Rattle.text.specs.Characters.{bytes}
use Rattle.legible.specs.Shown.{is_plain, hex_digit, shown_byte, shown, fitting}

-- a byte and the characters that name it are shown apart, and a byte that has not room for all its four is left out
pub shown_bytes :
    (shown (0x41 ∷ 0x0D ∷ []) ≡ bytes "A\\x0d") × (shown (bytes "\\x0d") ≡ bytes "\\x5cx0d") × (shown (bytes "`|~") ≡ bytes "\\x60|~")
    × (shown (0x7F ∷ 0xFF ∷ 0 ∷ []) ≡ bytes "\\x7f\\xff\\x00") × (fitting 4 (0x41 ∷ 0x0D ∷ 0x42 ∷ []) ≡ bytes "A")
unfolding shown fitting shown_byte is_plain hex_digit
shown_bytes = (refl, refl, refl, refl, refl)
