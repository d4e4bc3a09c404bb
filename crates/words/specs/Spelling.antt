-- The words that people write: numbers, types and marks, as document 01 spells them. Assumes nothing.
use Rattle.std.specs.Prelude.{ℕ, ◌-◌, Bool, cond, not, ◌&&◌, Option, Some, None, List, eqb, leb, length, take, drop, get_or}
use Rattle.text.specs.Characters.{all, is_digit, bytes}
use Rattle.text.specs.Order.{same_bytes}
use Rattle.record.specs.Records.{fields, field}
use Rattle.number.specs.Numbers.{number}
use Rattle.field.specs.declared.FieldType.{FieldType}
use Rattle.field.specs.declared.FieldType.TheVariants.{Text, Int, Dec, Date, Datetime, Bol, Period, Null}
use Rattle.field.specs.declared.Mark.{Mark}
use Rattle.field.specs.declared.Mark.TheVariants.{Bare, Opt, Fixed}

-- one to `most` digits and nothing else, and the number that they spell is not above the limit
unfoldable pub is_number : ℕ → ℕ → List ℕ → Bool
is_number most limit s = not (eqb (length s) 0) && leb (length s) most && all is_digit s && leb (number s) limit

-- the number that such a word spells
unfoldable pub number_of : ℕ → ℕ → List ℕ → Option ℕ
number_of most limit s = cond (is_number most limit s) (Some (number s)) None

-- a width of a type: one to nine digits
abbrev pub width_of : List ℕ → Option ℕ
width_of s = number_of 9 999999999 s

-- there is a last byte, and it is b
unfoldable pub ends_in : ℕ → List ℕ → Bool
ends_in b s = not (eqb (length s) 0) && eqb (get_or s (length s - 1) 0) b

-- a word that begins with a name and its opening bracket, and ends with the closing one
unfoldable pub bracketed : List ℕ → List ℕ → Bool
bracketed name s = ends_in 0x29 s && same_bytes (take (length name) s) name

-- what stands between the two brackets
abbrev pub inside : List ℕ → List ℕ → List ℕ
inside name s = take (length s - 1 - length name) (drop (length name) s)

-- text(n) and int(n) by what their width says
abbrev pub as_text : Option ℕ → Option FieldType
as_text (Some n) = Some (Text n)
as_text None = None

abbrev pub as_int : Option ℕ → Option FieldType
as_int (Some n) = Some (Int n)
as_int None = None

-- dec(p,q) by what its widths say, p first
abbrev pub as_dec : Option ℕ → Option ℕ → Option FieldType
as_dec (Some p) (Some q) = Some (Dec p q)
as_dec (Some p) None = None
as_dec None w = None

-- the two widths of a dec are parted by a comma
unfoldable pub dec_of : List ℕ → Option FieldType
dec_of w = cond (eqb (length (fields 0x2C w)) 2) (as_dec (width_of (field 0x2C 1 w)) (width_of (field 0x2C 2 w))) None

-- a type with widths: text(n), int(n), dec(p,q)
unfoldable pub wide_of : List ℕ → Option FieldType
wide_of s =
    cond (bracketed (bytes "text(") s) (as_text (width_of (inside (bytes "text(") s)))
    (cond (bracketed (bytes "int(") s) (as_int (width_of (inside (bytes "int(") s)))
    (cond (bracketed (bytes "dec(") s) (dec_of (inside (bytes "dec(") s))
    None))

-- the type that a word spells
unfoldable pub form_of : List ℕ → Option FieldType
form_of s =
    cond (same_bytes s (bytes "date")) (Some Date)
    (cond (same_bytes s (bytes "datetime")) (Some Datetime)
    (cond (same_bytes s (bytes "bol")) (Some Bol)
    (cond (same_bytes s (bytes "period")) (Some Period)
    (cond (same_bytes s (bytes "null")) (Some Null)
    (wide_of s)))))

-- the mark that a word spells: `-` for none, `opt`, and `=` for a fixed value that stands elsewhere
unfoldable pub mark_of : List ℕ → Option Mark
mark_of s =
    cond (same_bytes s (bytes "-")) (Some Bare)
    (cond (same_bytes s (bytes "opt")) (Some Opt)
    (cond (same_bytes s (bytes "=")) (Some Fixed)
    None))
