-- An index that fills a part of some cells stands in all of them. Assumes nothing.
use Rattle.std.proofs.Common.{◌≡◌, ℕ, ◌*◌, ◌/◌, ◌≤◌, Bool, true, false, leb, List, length, refl, arith, leb-true}
use Rattle.std.specs.Prelude.{Result, Ok, Err}
use Rattle.text.specs.Rules.{must}
use Rattle.place.specs.declared.Refusal.{Refusal}
use Rattle.place.specs.Places.{whole}
use Rattle.flow.specs.Editions.{Asked}
use Rattle.judge.specs.File.{judged_for}
use Rattle.index.specs.Entries.{filled, paper, indexed_by, indexed, answer_for, entries_for, CellsRight}
use Rattle.index.specs.declared.Entry.{Entry}
use Rattle.index.specs.declared.Filled.{Filled}
use Rattle.nightly.specs.Listed.{StandIn}

module _ (cells : List ℕ) (room : ℕ) (h : 4 * room ≤ length cells) where
  -- an acceptance has no more entries than there is room for
  has_room : (n m : ℕ) (t : Bool) → leb m room ≡ t → StandIn cells (must t (Err (whole 19)) (Ok (filled n m)))
  has_room n m true e = omega (arith, leb-true m room e)
  has_room n m false e = tt

  answer_stands : (j : Result ℕ Refusal) (es : List Entry) → StandIn cells (indexed_by j es room)
  unfolding indexed_by
  answer_stands (Err r) es = tt
  answer_stands (Ok n) es = has_room n (length es) (leb (length es) room) refl

-- two answers that read the same in the papers
same_stands : (cells : List ℕ) (a b : Result Filled Refusal) → paper a ≡ paper b → StandIn cells b → StandIn cells a
same_stands cells (Err r) b e h = tt
same_stands cells (Ok x) (Ok y) e h = let q : x.entries ≡ y.entries = cc in omega (arith, q)
same_stands cells (Ok x) (Err r) e h = let z : ◌≡◌ {A = ℕ} 0 1 = cc in absurd (omega arith)

pub filled_stands : {a : Asked} {f old new : List ℕ} {said : Result Filled Refusal} (cells : List ℕ) → length old ≤ length cells
    → CellsRight a f old new said → StandIn cells said
unfolding indexed
filled_stands {a} {f} {old} {new} {said} cells h right =
    let room = length old / 4 in
    same_stands cells said (answer_for a f room) right.says
    (answer_stands cells room (omega arith) (judged_for a f) (entries_for a f))
