-- The rules of digits as the code's small functions meet them. Assumes nothing.
use Rattle.std.specs.Prelude.{ℕ, Bool, cond, not, ◌&&◌, ◌||◌, List, eqb, length, get_or, Option, Some, None}
use Rattle.text.specs.Characters.{all, is_digit}
use Rattle.number.specs.Numbers.{number_from}

-- one byte or more, and no zero before another
abbrev pub leads : List ℕ → Bool
leads d = not (eqb (length d) 0) && (eqb (length d) 1 || not (eqb (get_or d 0 0) 48))

-- what a pass over digits finds, after digits that spell v: the number that all spell, or a byte that is no digit
abbrev pub spelt_from : ℕ → List ℕ → Option ℕ
spelt_from v d = cond (all is_digit d) (Some (number_from v d)) None
