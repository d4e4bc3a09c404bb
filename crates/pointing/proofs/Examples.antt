-- A place in hex, bytes in their columns and a mark, computed. Assumes nothing.
use mathlib.Core.Path.{◌≡◌, refl}
use mathlib.Core.List.{[], ◌∷◌, map}
use Rattle.text.specs.Characters.{bytes}
use Rattle.pointing.specs.Hex.{hex_digits}
use Rattle.pointing.specs.Shown.{column_of, mark_behind}

pub in_hex : (hex_digits 1 0 ≡ bytes "0") × (hex_digits 2 78 ≡ bytes "4E") × (hex_digits 3 2748 ≡ bytes "ABC") × (hex_digits 6 1048577 ≡ bytes "100001")
in_hex = (refl, refl, refl, refl)

-- a tab, the first and the last printable character and the bytes beside them
pub in_columns : map column_of (0x41 ∷ 0x09 ∷ 0x20 ∷ 0x7E ∷ 0x1F ∷ 0x7F ∷ 0xFF ∷ []) ≡ bytes "A  ~???"
unfolding column_of
in_columns = refl

pub under_the_seventh : mark_behind 6 ≡ bytes "      ^"
under_the_seventh = refl
