-- Why footer_kind is right: the layout has as many rows as are counted.
use native.Mathlib.Omega.{arith}
use Rattle.layout.proofs.Rows.{rows_length}
use Rattle.sheet.proofs.footer_kind.Goals as goal

pub returns : goal.returns
returns c = λ fixed. grind (arith, rows_length c.args.t.now fixed, c.row_count.ensures)
