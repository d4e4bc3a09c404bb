-- The codes of types and marks, as tables and callers in C have them. Assumes nothing.
use Rattle.std.specs.Prelude.{ℕ, cond, List, eqb}
use Rattle.field.specs.Judge.{Marked, bare, opt, fixed}
use Rattle.field.specs.declared.FieldType.{FieldType}
use Rattle.field.specs.declared.FieldType.TheVariants as types

-- the codes of types, in the order of document 01's table: a text of n characters, an int or dec of p digits, q of them places
abbrev pub type_coded : ℕ → ℕ → ℕ → ℕ → FieldType
type_coded code n p q =
    cond (eqb code 0) (types.Text n)
    (cond (eqb code 1) (types.Int p)
    (cond (eqb code 2) (types.Dec p q)
    (cond (eqb code 3) types.Date
    (cond (eqb code 4) types.Datetime
    (cond (eqb code 5) types.Bol
    (cond (eqb code 6) types.Period
    types.Null))))))

-- the codes of marks: 1 is opt, 2 the fixed bytes, any other nothing
abbrev pub mark_coded : ℕ → List ℕ → Marked
mark_coded code bytes = cond (eqb code 1) opt (cond (eqb code 2) (fixed bytes) bare)
