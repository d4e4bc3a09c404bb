-- A number in hex digits. Assumes nothing.
use Rattle.std.specs.Prelude.{ℕ, zero, suc, ◌+◌, ◌-◌, ◌/◌, ◌%◌, ◌^◌, ◌≤◌, ◌<◌, ◌≡◌, cond, List, [], ◌∷◌, ◌++◌, ltb, length}

-- the byte of a digit below 16: `0` to `9`, then `A` to `F`
abbrev pub hex_digit : ℕ → ℕ
hex_digit d = cond (ltb d 10) (48 + d) (55 + d)

-- the last k digits of a number, the highest first
abbrev pub hex_digits : ℕ → ℕ → List ℕ
hex_digits zero n = []
hex_digits (suc k) n = hex_digits k (n / 16) ++ hex_digit (n % 16) ∷ []

-- the digits of a number: as few as hold it, but at least one
pub record IsHex (n : ℕ) (digits : List ℕ) : Type 0 where
  pub some : 1 ≤ length digits
  pub hold : n < 16 ^ length digits
  pub few : 1 < length digits → 16 ^ (length digits - 1) ≤ n
  pub are : digits ≡ hex_digits (length digits) n
