-- The full reading of a file (document 02, C-17): what all its records say of a period. Assumes nothing.
use Rattle.std.specs.Prelude.{ℕ, ◌≡◌, ◌⊎◌, List, ◌∷◌, ◌++◌, pos, Ok}
use Rattle.record.specs.Records.{records, field, bar}
use Rattle.field.specs.Judge.{bare, field_answer}
use Rattle.field.specs.declared.FieldType.TheVariants as types
use Rattle.field.specs.declared.Content.TheVariants.{Number}
use Rattle.flow.specs.Letters.{GSP, GS2}
use Rattle.judge.specs.Right.{kind_in}

-- a record is a GSP or GS2, and its field 2 is a period of this value
pub record OfPeriod (p : ℕ) (r : List ℕ) : Type 0 where
  pub kind : (kind_in r ≡ GSP) ⊎ (kind_in r ≡ GS2)
  pub period : field_answer types.Period bare (field bar 2 r) ≡ Ok (Number (pos p))

-- such a record stands somewhere in the file
pub record InFile (f : List ℕ) (p : ℕ) : Type 0 where
  pub before : List (List ℕ)
  pub is : List ℕ
  pub after : List (List ℕ)
  pub stands : records f ≡ before ++ is ∷ after
  pub of : OfPeriod p is
