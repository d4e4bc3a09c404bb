-- The types of fields: the columns Form and Range of document 01's table, and the values. Assumes nothing.
use Rattle.std.specs.Prelude.{ℕ, ◌-◌, ◌/◌, ◌%◌, ◌≤◌, Bool, true, false, not, ◌&&◌, ◌||◌, List, eqb, leb, pos, length, get_or}
use Rattle.text.specs.Characters.{all, is_text, from_to}
use Rattle.number.specs.Numbers.{digits, number, minus, unsigned, int_form, int_value, dec_form, dec_value}
use Rattle.number.specs.Calendar.{is_date, is_time}
use Rattle.field.specs.declared.FieldType.{FieldType}
use Rattle.field.specs.declared.FieldType.TheVariants as types
use Rattle.field.specs.declared.Content.{Content}
use Rattle.field.specs.declared.Content.TheVariants as contents

-- listed characters, no leading or trailing space
unfoldable pub text_form : List ℕ → Bool
text_form s = not (eqb (get_or s 0 0) 32) && not (eqb (get_or s (length s - 1) 0) 32) && all is_text s

-- T or F
unfoldable pub bol_form : List ℕ → Bool
bol_form s = eqb (length s) 1 && (eqb (get_or s 0 0) 84 || eqb (get_or s 0 0) 70)

-- 1 to 50, as int(2)
unfoldable pub period_range : List ℕ → Bool
period_range s = leb (length (unsigned s)) 2 && not (minus s) && from_to 1 50 (number s)

-- the column Form
unfoldable pub form : FieldType → List ℕ → Bool
form (types.Text n) s = text_form s
form (types.Int n) s = int_form s
form (types.Dec p q) s = dec_form q s
form types.Date s = digits 8 s
form types.Datetime s = digits 14 s
form types.Bol s = bol_form s
form types.Period s = int_form s
form types.Null s = eqb (length s) 0

-- the column Range; a sign and a point are no digits
unfoldable pub range : FieldType → List ℕ → Bool
range (types.Text n) s = leb (length s) n
range (types.Int n) s = leb (length (unsigned s)) n
range (types.Dec p q) s = leb (length (unsigned s) - 1) p
range types.Date s = is_date (number s)
range types.Datetime s = is_date (number s / 1000000) && is_time (number s % 1000000)
range types.Bol s = true
range types.Period s = period_range s
range types.Null s = true

-- the value: a signed whole number, yes or no, or the bytes themselves
unfoldable pub value_of : FieldType → List ℕ → Content
value_of (types.Text n) s = contents.Text
value_of (types.Int n) s = contents.Number (int_value s)
value_of (types.Dec p q) s = contents.Number (dec_value q s)
value_of types.Date s = contents.Number (pos (number s))
value_of types.Datetime s = contents.Number (pos (number s))
value_of types.Bol s = contents.Truth (eqb (get_or s 0 0) 84)
value_of types.Period s = contents.Number (pos (number s))
value_of types.Null s = contents.Empty

-- the type is null
abbrev pub is_null : FieldType → Bool
is_null (types.Text n) = false
is_null (types.Int n) = false
is_null (types.Dec p q) = false
is_null types.Date = false
is_null types.Datetime = false
is_null types.Bol = false
is_null types.Period = false
is_null types.Null = true

-- the widths that there are: text 1 to 512, int 1 to 18, dec p 2 to 18 with q 1 to p-1
unfoldable pub width_right : FieldType → Bool
width_right (types.Text n) = from_to 1 512 n
width_right (types.Int n) = from_to 1 18 n
width_right (types.Dec p q) = from_to 2 18 p && from_to 1 (p - 1) q
width_right types.Date = true
width_right types.Datetime = true
width_right types.Bol = true
width_right types.Period = true
width_right types.Null = true

-- a type whose numbers fit in 64 bits, whatever the other widths
abbrev pub Sound : FieldType → Type 0
Sound (types.Text n) = Unit
Sound (types.Int n) = n ≤ 18
Sound (types.Dec p q) = p ≤ 18
Sound types.Date = Unit
Sound types.Datetime = Unit
Sound types.Bol = Unit
Sound types.Period = Unit
Sound types.Null = Unit
