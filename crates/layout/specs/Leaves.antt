-- What the code's small functions say of one field under a rule. Assumes nothing.
use Rattle.std.specs.Prelude.{ℕ, Bool, cond, ◌||◌, List, Result, Err}
use Rattle.field.specs.Types.{is_null}
use Rattle.field.specs.Judge.{bare, may_be_empty, filled}
use Rattle.field.specs.declared.Content.{Content}
use Rattle.field.specs.declared.Wrong.{Wrong}
use Rattle.field.specs.declared.Wrong.TheVariants.{Fixed}
use Rattle.layout.specs.Layout.{Rule}

-- an empty field may stand under a rule: its type is null, or its mark is opt
abbrev pub may_be_empty_by : Rule → Bool
may_be_empty_by rule = is_null rule.type || may_be_empty rule.mark

-- a filled field under a rule, its mark aside: a null field is never filled
abbrev pub filled_by : Rule → List ℕ → Result Content Wrong
filled_by rule s = cond (is_null rule.type) (Err Fixed) (filled rule.type bare s)
