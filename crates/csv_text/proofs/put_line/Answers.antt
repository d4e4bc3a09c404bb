-- Why put_line is right: a record without comma and quotation mark is turned, and any other is taken by its fields.
use mathlib.Core.Path.{sym, ◌∙◌}
use Rattle.csv_text.proofs.Lines.{line_plain, size_plain}
use Rattle.csv_text.proofs.put_line.Goals as goal

pub put_turned-requires : goal.put_turned-requires
put_turned-requires g c = rw (size_plain c.args.r.now (sym c.quoted.ensures ∙ c.if-not-quoted.true)) at c.requires

pub returns-then-not-quoted : goal.returns-then-not-quoted
returns-then-not-quoted g c = rw (line_plain c.args.r.now (sym c.quoted.ensures ∙ c.if-not-quoted.true)) c.put_turned.ensures
