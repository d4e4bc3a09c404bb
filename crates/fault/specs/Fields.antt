-- What is wrong with the fields of one record (document 01, refusals 7 to 10). Assumes nothing.
use Rattle.std.specs.Prelude.{ℕ, ◌+◌, List, [], ◌∷◌, eqb, Result, Ok, Err}
use Rattle.text.specs.Rules.{must}
use Rattle.field.specs.Judge.{field_answer, refusal_of}
use Rattle.layout.specs.Layout.{Rule}
use Rattle.fault.specs.declared.Fault.{Fault}

-- what is wrong with a record, or nothing
abbrev pub Check : Type 0
Check = Result (Unit {0}) Fault

abbrev pub fine : Check
fine = Ok tt

-- a refusal by its number, and the field where it stands
abbrev pub fault_at : ℕ → ℕ → Fault
fault_at number f = record { number = number; field = f }

abbrev pub fault : ℕ → ℕ → Check
fault number f = Err (fault_at number f)

-- the first of two faults
abbrev pub also : Check → Check → Check
also (Ok nothing) later = later
also (Err wrong) later = Err wrong

-- the number of what is wrong with one field, 0 where nothing is
unfoldable pub field_fault : Rule → List ℕ → ℕ
field_fault rule s = refusal_of (field_answer rule.type rule.mark s)

-- the first fault of some fields, counted from f
unfoldable pub fields_fault : List Rule → List (List ℕ) → ℕ → Check
fields_fault [] xs f = fine
fields_fault (rule ∷ rules) [] f = fine
fields_fault (rule ∷ rules) (x ∷ xs) f = must (eqb (field_fault rule x) 0) (fault (field_fault rule x) f) (fields_fault rules xs (f + 1))
