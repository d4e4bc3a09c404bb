-- Digits, signs and the numbers that they spell. Assumes nothing.
use Rattle.std.specs.Prelude.{ℕ, zero, suc, ◌+◌, ◌-◌, ◌*◌, ◌/◌, ◌%◌, Bool, true, false, cond, not, ◌&&◌, ◌||◌, List, [], ◌∷◌, ◌++◌, eqb, leb, ltb, ℤ, pos, neg_ℤ, length, get_or, take, drop}
use Rattle.text.specs.Characters.{all, is_digit}

-- so many digits, and nothing else
abbrev pub digits : ℕ → List ℕ → Bool
digits n s = eqb (length s) n && all is_digit s

-- the number that digits spell, after digits that spell v
abbrev pub number_from : ℕ → List ℕ → ℕ
number_from v [] = v
number_from v (x ∷ xs) = number_from (v * 10 + (x - 48)) xs

-- the number that digits spell
abbrev pub number : List ℕ → ℕ
number d = number_from 0 d

-- the first byte is a minus
unfoldable pub minus : List ℕ → Bool
minus s = eqb (get_or s 0 0) 45

-- the bytes after the minus, if there is one
unfoldable pub unsigned : List ℕ → List ℕ
unsigned s = cond (minus s) (drop 1 s) s

-- the number, or less than zero where there is a minus
abbrev pub signed : Bool → ℕ → ℤ
signed true n = neg_ℤ (pos n)
signed false n = pos n

-- the byte is the digit 0
abbrev pub is_zero : ℕ → Bool
is_zero b = eqb b 48

-- one digit or more, and no zero before another digit
unfoldable pub plain : List ℕ → Bool
plain d = not (eqb (length d) 0) && (eqb (length d) 1 || not (eqb (get_or d 0 0) 48)) && all is_digit d

-- an int: digits, a minus before if negative; no leading zero, no -0
unfoldable pub int_form : List ℕ → Bool
int_form s = plain (unsigned s) && not (minus s && eqb (get_or (unsigned s) 0 0) 48)

-- an int's value
unfoldable pub int_value : List ℕ → ℤ
int_value s = signed (minus s) (number (unsigned s))

-- the digits of a dec before its point, and the q digits after it
abbrev pub whole : ℕ → List ℕ → List ℕ
whole q s = take (length (unsigned s) - q - 1) (unsigned s)

abbrev pub places : ℕ → List ℕ → List ℕ
places q s = drop (length (unsigned s) - q) (unsigned s)

-- a point stands before the last q bytes
abbrev pub pointed : ℕ → List ℕ → Bool
pointed q s = ltb q (length (unsigned s)) && eqb (get_or (unsigned s) (length (unsigned s) - q - 1) 0) 46

-- a dec: whole part as int (but -0 if a later digit is not 0), point, exactly q digits
unfoldable pub dec_form : ℕ → List ℕ → Bool
dec_form q s =
    pointed q s && plain (whole q s) && all is_digit (places q s)
    && not (minus s && (all is_zero (whole q s) && all is_zero (places q s)))

-- a dec's value: a signed whole number of units of the last place
unfoldable pub dec_value : ℕ → List ℕ → ℤ
dec_value q s = signed (minus s) (number (whole q s ++ places q s))

-- the bytes are the one spelling of n, in at most 10 digits
unfoldable pub spelled : ℕ → List ℕ → Bool
spelled n s = leb (length s) 10 && (plain s && eqb (number s) n)

-- the digits of n, no leading zero, as far as k of them go
unfoldable pub decimal_in : ℕ → ℕ → List ℕ
decimal_in zero n = []
decimal_in (suc k) n = cond (ltb n 10) ((n + 48) ∷ []) (decimal_in k (n / 10) ++ ((n % 10 + 48) ∷ []))

-- the digits of n, no leading zero: there are never more than n + 1
unfoldable pub decimal : ℕ → List ℕ
decimal n = decimal_in (suc n) n
