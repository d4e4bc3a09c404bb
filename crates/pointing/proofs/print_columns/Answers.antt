-- The line holds a column for each byte.
use mathlib.Core.Path.{sym, ap, ◌∙◌}
use lib.ListN.{length, length-map}
use Rattle.pointing.specs.Shown.{column_of}
use Rattle.pointing.proofs.print_columns.Goals as goal

pub slice_bounds-print-end : goal.slice_bounds-print-end
slice_bounds-print-end g c =
    let part = c.args.part.now in
    sym (ap length c.columns-line.ensures ∙ length-map part column_of)
