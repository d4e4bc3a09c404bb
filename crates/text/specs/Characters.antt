-- The characters of a field (document 01, "Bytes, records, fields"). Assumes nothing.
use Rattle.std.specs.Prelude.{ℕ, ◌<◌, ◌≡◌, Bool, true, false, cond, ◌&&◌, ◌||◌, List, [], ◌∷◌, leb, eqb, get_or}
use Prim.Native.Char.{code}
use Prim.Native.String.{String, [] as none, ◌∷◌ as ◌first◌}

-- b is one of the codes from lo to hi
abbrev pub from_to : ℕ → ℕ → ℕ → Bool
from_to lo hi b = leb lo b && leb b hi

-- b is in the list
abbrev pub one_of : List ℕ → ℕ → Bool
one_of [] b = false
one_of (x ∷ xs) b = eqb b x || one_of xs b

-- each of a list passes a test
abbrev pub all {ℓ} : {A : Type ℓ} → (A → Bool) → List A → Bool
all p [] = true
all p (x ∷ xs) = p x && all p xs

-- the bytes of a text that is written out
abbrev pub bytes : String → List ℕ
bytes none = []
bytes (c first s) = code c ∷ bytes s

-- the text characters that are neither letters nor digits
abbrev pub signs : List ℕ
signs = bytes " .,-()/'+:=?!\"%&*;<>_"

-- 0-9
unfoldable pub is_digit : ℕ → Bool
is_digit b = from_to 48 57 b

-- text characters: A-Z, a-z, 0-9 and the signs
unfoldable pub is_text : ℕ → Bool
unfolding is_digit
is_text b = from_to 65 90 b || from_to 97 122 b || is_digit b || one_of signs b

-- the class of a byte value: 0 a digit, 1 another text character, 2 none
unfoldable pub class_of : ℕ → ℕ
unfolding is_digit is_text
class_of b = cond (is_digit b) 0 (cond (is_text b) 1 2)

-- a table that holds the class of each of the 256 byte values
abbrev pub IsClassTable : List ℕ → Type 0
IsClassTable t = (b : ℕ) → b < 256 → get_or t b 0 ≡ class_of b
