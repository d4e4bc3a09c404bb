-- A field's answer, taken as a value whose text is all the bytes, has the cells of the field's judge. Assumes nothing.
use Prim.Native.Nat.{ℕ}
use mathlib.Core.Path.{◌≡◌, refl}
use mathlib.Core.List.{List}
use lib.ListN.{length}
use Rattle.field.specs.Judge as fields
use Rattle.std.specs.Prelude.{Result, Ok, Err}
use Rattle.field.specs.declared.Content.{Content}
use Rattle.field.specs.declared.Content.TheVariants.{Empty, Number, Truth, Text}
use Rattle.field.specs.declared.Wrong.{Wrong}
use Rattle.value.specs.Value as values
use Rattle.screen.specs.Numbers.{value_cells, field_cells}

pub field_value_lem : (s f : List ℕ) (a : Result Content Wrong) → value_cells (values.paper f (values.as_value 0 0 0 (length s) (values.numbered a))) ≡ field_cells (fields.paper s a)
field_value_lem s f (Err wrong) = refl
field_value_lem s f (Ok Empty) = refl
field_value_lem s f (Ok (Number z)) = refl
field_value_lem s f (Ok (Truth b)) = refl
field_value_lem s f (Ok Text) = refl
