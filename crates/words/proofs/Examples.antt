-- Words and what they spell, computed. Assumes nothing.
use mathlib.Core.Path.{◌≡◌, refl}
use Rattle.text.specs.Characters.{bytes, is_digit}
use Rattle.record.specs.Records.{fields, onto, field}
use Rattle.field.specs.declared.FieldType.TheVariants.{Text, Int, Dec, Date, Null}
use Rattle.words.specs.Spelling.{is_number, number_of, bracketed, ends_in, dec_of, wide_of, form_of}
use Rattle.std.specs.Prelude.{Some, None}

-- document 01's own types
pub types_read :
    (form_of (bytes "text(512)") ≡ Some (Text 512)) × (form_of (bytes "int(10)") ≡ Some (Int 10)) × (form_of (bytes "dec(14,4)") ≡ Some (Dec 14 4))
    × (form_of (bytes "date") ≡ Some Date) × (form_of (bytes "null") ≡ Some Null)
unfolding form_of wide_of dec_of bracketed ends_in number_of is_number is_digit fields onto field
types_read = (refl, refl, refl, refl, refl)

-- words that are near a type and are none
pub no_types :
    (form_of (bytes "text()") ≡ None) × (form_of (bytes "text(2") ≡ None) × (form_of (bytes "text(2,1)") ≡ None) × (form_of (bytes "dec(4)") ≡ None)
    × (form_of (bytes "dec(4,1,1)") ≡ None) × (form_of (bytes "int(-1)") ≡ None) × (form_of (bytes "Date") ≡ None) × (form_of (bytes "") ≡ None)
unfolding form_of wide_of dec_of bracketed ends_in number_of is_number is_digit fields onto field
no_types = (refl, refl, refl, refl, refl, refl, refl, refl)

-- a limit holds to the last unit, and so does the number of digits
pub limits : (number_of 3 256 (bytes "256") ≡ Some 256) × (number_of 3 256 (bytes "257") ≡ None) × (number_of 3 256 (bytes "0012") ≡ None)
unfolding number_of is_number is_digit
limits = (refl, refl, refl)
