-- The line holds the blanks and the mark.
use mathlib.Core.Path.{sym, ap, ◌∙◌}
use lib.ListN.{length}
use Rattle.pointing.proofs.Marks.{mark_length}
use Rattle.pointing.proofs.print_mark.Goals as goal

pub slice_bounds-print-end : goal.slice_bounds-print-end
slice_bounds-print-end g c = sym (ap length c.mark-line.ensures ∙ mark_length c.args.n)
