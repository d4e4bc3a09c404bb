-- What document 01 says of one field's bytes. Assumes nothing.
use Rattle.std.specs.Prelude.{ℕ, Bool, true, false, cond, List, eqb, ℤ, length, Result, Ok, Err}
use Rattle.text.specs.Rules.{must}
use Rattle.text.specs.Order.{same_bytes}
use Rattle.field.specs.Types.{form, range, value_of, is_null, width_right}
use Rattle.field.specs.declared.FieldType.{FieldType}
use Rattle.field.specs.declared.Content.{Content}
use Rattle.field.specs.declared.Content.TheVariants.{Empty, Number, Truth, Text}
use Rattle.field.specs.declared.Wrong.{Wrong}
use Rattle.field.specs.declared.Wrong.TheVariants.{Missing, Form, Range, Fixed, Width}
use Rattle.field.specs.declared.Mark.{Mark}
use Rattle.field.specs.declared.Mark.TheVariants as marks

-- what stands beside a type: nothing; the field may be empty; the field must be these bytes
pub data Marked : Type 0 where
  bare opt : Marked
  fixed : List ℕ → Marked

-- the code's mark, with the fixed bytes that are lent beside it
abbrev pub marked : Mark → List ℕ → Marked
marked marks.Bare bytes = bare
marked marks.Opt bytes = opt
marked marks.Fixed bytes = fixed bytes

-- a field is empty only where marked opt
abbrev pub may_be_empty : Marked → Bool
may_be_empty bare = false
may_be_empty opt = true
may_be_empty (fixed w) = false

-- = fixes a value
abbrev pub meets_mark : Marked → List ℕ → Bool
meets_mark bare s = true
meets_mark opt s = true
meets_mark (fixed w) s = same_bytes w s

-- a field that is filled: 8, 9, 10, or its value
unfoldable pub filled : FieldType → Marked → List ℕ → Result Content Wrong
filled t m s =
    must (form t s) (Err Form)
    (must (range t s) (Err Range)
    (must (meets_mark m s) (Err Fixed)
    (Ok (value_of t s))))

-- a field: 7, then the rules of a filled one; a null field only 10
unfoldable pub field_answer : FieldType → Marked → List ℕ → Result Content Wrong
field_answer t m s =
    cond (is_null t) (must (eqb (length s) 0) (Err Fixed) (Ok Empty))
    (cond (eqb (length s) 0) (must (may_be_empty m) (Err Missing) (Ok Empty))
    (filled t m s))

-- 18 for a width that there is none, before all else
unfoldable pub judged_as : FieldType → Marked → List ℕ → Result Content Wrong
judged_as t m s = must (width_right t) (Err Width) (field_answer t m s)

-- the papers' answers: a refusal's number, record, field and place, or a value, or that the field is empty
pub data Reply : Type 0 where
  refused : ℕ → ℕ → ℕ → ℕ → Reply
  empty : Reply
  number : ℤ → Reply
  truth : Bool → Reply
  text : List ℕ → Reply

-- the number of a refusal
abbrev pub number_of : Wrong → ℕ
number_of Missing = 7
number_of Form = 8
number_of Range = 9
number_of Fixed = 10
number_of Width = 18

-- what each case of the code's answer says in the papers' terms; all refusals are at record 0, field 0, place 0
abbrev pub paper : List ℕ → Result Content Wrong → Reply
paper s (Err wrong) = refused (number_of wrong) 0 0 0
paper s (Ok Empty) = empty
paper s (Ok (Number z)) = number z
paper s (Ok (Truth b)) = truth b
paper s (Ok Text) = text s

-- the judge of one field's bytes
unfoldable pub field_judged : FieldType → Marked → List ℕ → Reply
field_judged t m s = paper s (judged_as t m s)

-- the number of a refusal, or 0
abbrev pub refusal_of : {A : Type 0} → Result A Wrong → ℕ
refusal_of (Err wrong) = number_of wrong
refusal_of (Ok value) = 0
