-- `spoil` puts back the byte that it took away, and counts what the judge said of the file without it.
use lib.Seq.{set-set, set-get_or}
use lib.ListN.{get_or, set}
use mathlib.Core.List.{List}
use mathlib.Core.Path.{◌≡◌, ◌∙◌, ap}
use Rattle.flow.specs.Editions.{asked}
use Rattle.drill.specs.Drill.{passes}
use Prim.Native.Nat.{ℕ}
use Rattle.drill.proofs.drill.spoil.Goals as goal

-- a byte that is set and then set to what it was leaves the list as it was
put_back : (l : List ℕ) (i a : ℕ) → set (set l i a) i (get_or l i 0) ≡ l
put_back l i a = set-set l i a (get_or l i 0) ∙ set-get_or l i 0

pub returns : goal.returns
returns g c =
    let a = c.args in
    let judged = c.accepts-passed.ensures ∙ ap (λ (b : ℕ). passes (asked a.flow.now) (set a.file.now a.at b)) c.other-b.ensures in
    record { file_unchanged = put_back _ _ _; counted = rw judged at c.count.ensures }
