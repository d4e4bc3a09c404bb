-- The 83 text characters, spelled out from document 01, by one computation over all byte values. Assumes nothing.
use Prim.Native.Nat.{ℕ, zero, suc}
use mathlib.Core.Path.{◌≡◌, refl}
use mathlib.Core.Bool.{Bool, cond}
use mathlib.Core.List.{List, [], ◌∷◌}
use Rattle.text.specs.Characters.{bytes, is_digit, is_text}

-- of the n byte values from b on, those that pass a test
unfoldable pub passing : (ℕ → Bool) → ℕ → ℕ → List ℕ
passing p b zero = []
passing p b (suc n) = cond (p b) (b ∷ passing p (suc b) n) (passing p (suc b) n)

-- of the 256 byte values these are text characters and the other 173 are not
pub text_characters :
    passing is_text 0 256 ≡ bytes " !\"%&'()*+,-./0123456789:;<=>?ABCDEFGHIJKLMNOPQRSTUVWXYZ_abcdefghijklmnopqrstuvwxyz"
unfolding passing is_text is_digit
text_characters = refl
