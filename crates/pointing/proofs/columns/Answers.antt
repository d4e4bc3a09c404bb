-- Each turn shows one byte more.
use Rattle.std.proofs.Common.{◌++◌, ◌∷◌, [], add-one, arith}
use mathlib.Core.List.{map-append}
use lib.ListN.{length-set}
use lib.Seq.{take-suc, take-suc-set}
use Rattle.pointing.proofs.columns.Goals as goal

pub loop-i-preserved : goal.loop-i-preserved
loop-i-preserved c =
    let part = c.args.part.now in
    let l = c.loop-i in (
      simp length-set l.invariant.0,
      rw (add-one l.i, take-suc-set l.line l.i c.column.result (omega arith), take-suc part l.i 0 (omega arith), map-append)
          (λ j. l.invariant.1 j ++ c.column.ensures j ∷ []),
    )
