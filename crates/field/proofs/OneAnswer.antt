-- Two answers that say the same in document 01's terms are the same answer, so only one meets the promise of `judge`. Assumes nothing.
use mathlib.Core.Path.{◌≡◌, refl, sym, ◌∙◌}
use mathlib.Core.Bool.{cond}
use mathlib.Core.List.{List}
use Prim.Native.Nat.{ℕ}
use lib.Dec.{eqb}
use Rattle.std.specs.Prelude.{Result, Ok, Err}
use Rattle.text.proofs.Inverse.{same_said}
use Rattle.field.specs.Judge.{Marked, Reply, refused, empty, number, truth, text, paper, field_judged}
use Rattle.field.specs.declared.FieldType.{FieldType}
use Rattle.field.specs.declared.Content.{Content}
use Rattle.field.specs.declared.Content.TheVariants.{Empty, Number, Truth, Text}
use Rattle.field.specs.declared.Wrong.{Wrong}
use Rattle.field.specs.declared.Wrong.TheVariants.{Missing, Form, Range, Fixed, Width}

-- the refusal of this number
abbrev wrong_of : ℕ → Wrong
wrong_of n = cond (eqb n 7) Missing (cond (eqb n 8) Form (cond (eqb n 9) Range (cond (eqb n 10) Fixed Width)))

-- the answer that says this
abbrev said : Reply → Result Content Wrong
said (refused n r k place) = Err (wrong_of n)
said empty = Ok Empty
said (number z) = Ok (Number z)
said (truth b) = Ok (Truth b)
said (text s) = Ok Text

said_paper : (s : List ℕ) (a : Result Content Wrong) → said (paper s a) ≡ a
said_paper s (Err Missing) = refl
said_paper s (Err Form) = refl
said_paper s (Err Range) = refl
said_paper s (Err Fixed) = refl
said_paper s (Err Width) = refl
said_paper s (Ok Empty) = refl
said_paper s (Ok (Number z)) = refl
said_paper s (Ok (Truth b)) = refl
said_paper s (Ok Text) = refl

pub one_answer : (t : FieldType) (m : Marked) (s : List ℕ) (a b : Result Content Wrong)
    → paper s a ≡ field_judged t m s → paper s b ≡ field_judged t m s → a ≡ b
one_answer t m s a b p q = same_said (paper s) said (said_paper s) a b (p ∙ sym q)
