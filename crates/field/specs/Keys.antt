-- How two keys stand to each other (document 01, "Keys"). Assumes nothing.
use Rattle.std.specs.Prelude.{ℕ, Bool, true, false, cond, List}
use Rattle.text.specs.Order.{text_order}
use Rattle.std.specs.declared.cmp.Ordering.{Ordering}
use Rattle.number.specs.Order.{whole_order}
use Rattle.field.specs.declared.FieldType.{FieldType}
use Rattle.field.specs.declared.FieldType.TheVariants as types

-- the types whose values are no numbers
abbrev pub by_bytes : FieldType → Bool
by_bytes (types.Text n) = true
by_bytes (types.Int n) = false
by_bytes (types.Dec p q) = false
by_bytes types.Date = false
by_bytes types.Datetime = false
by_bytes types.Bol = true
by_bytes types.Period = false
by_bytes types.Null = true

-- texts go by byte, all others by value: fields of right form have one spelling each, and the law keys-by-value shows that this is the order of their values
unfoldable pub key_order : FieldType → List ℕ → List ℕ → Ordering
key_order t a b = cond (by_bytes t) (text_order a b) (whole_order a b)
