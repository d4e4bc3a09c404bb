-- What is read from a layout's rows: the walk through a list of kinds, and the kinds that may follow. Assumes nothing.
use Rattle.std.specs.Prelude.{ℕ, suc, ◌+◌, ◌*◌, ◌≡◌, Bool, true, false, cond, List, [], ◌∷◌, drop, Result, Ok, Err}
use Rattle.std.proofs.lemmas.List.Edits.{sets}
use Rattle.layout.specs.Layout.{KindRow, Layout, row_names, may_follow, is_footer}
use Rattle.grammar.specs.Table.{table_walk}
use Rattle.grammar.specs.Walk as grammar
use Rattle.flow.specs.Publication.{Flow, names, layout_for}
use Rattle.flow.specs.Step.{kinds_in, Lists}
use Rattle.flow.specs.declared.Through.{Through}

-- the names of a layout's kinds
abbrev pub kind_names : Layout → List (List ℕ)
kind_names l = row_names (drop 1 l.rows)

-- where a walk by rows came to, with the place of a stop counted from 1
abbrev pub from_one : grammar.Walked ℕ → Result ℕ ℕ
from_one (grammar.stopped i) = Err (suc i)
from_one (grammar.through r) = Ok r

-- the walk through a list of kinds by a layout's followers
abbrev pub walk_by : Layout → List (List ℕ) → Result ℕ ℕ
walk_by l ks = from_one (table_walk (kind_names l) (may_follow l) 0 0 ks)

-- of some rows, the first being row q, the names of those that may follow kind last
unfoldable pub followers_from : Layout → ℕ → ℕ → List KindRow → List (List ℕ)
followers_from l last q [] = []
followers_from l last q (r ∷ rs) =
    cond (may_follow l last q) (r.name ∷ followers_from l last (suc q) rs) (followers_from l last (suc q) rs)

-- the names of the kinds that may follow kind last, in the layout's order
abbrev pub followers_by : Layout → ℕ → List (List ℕ)
followers_by l last = followers_from l last 1 (drop 1 l.rows)

-- the walk by a flow's table through a list of kinds, from the start
abbrev pub walk_of : Flow → List (List ℕ) → grammar.Walked ℕ
walk_of f ks = table_walk (names f.kinds) (may_follow (layout_for f)) 0 0 ks

-- the names of the kinds that a flow's table lets follow row r
abbrev pub followers_of : Flow → ℕ → List (List ℕ)
followers_of f r = followers_by (layout_for f) r

-- a name is put behind as many names as were counted, and counted, where a test says so; else nothing changes
abbrev pub PutIf : Bool → List ℕ → ℕ → ℕ → List ℕ → List ℕ → Type 0
PutIf true name count after old new = (after ≡ count + 1) × (new ≡ sets old (3 * count) name)
PutIf false name count after old new = (after ≡ count) × (new ≡ old)

-- a layout is stepped through kinds, and nothing is refused: by where the walk came to, what is answered and every byte that was lent
abbrev pub SteppedBy : Layout → List ℕ → Result Through ℕ → List ℕ → List ℕ → Type 0
SteppedBy l kinds (Err place) old new = (Err place ≡ walk_by l (kinds_in kinds)) × (new ≡ old)
SteppedBy l kinds (Ok t) old new =
    (last : ℕ) × (Ok last ≡ walk_by l (kinds_in kinds)) × Lists (followers_by l last) t.count old new × (t.complete ≡ is_footer l last)
