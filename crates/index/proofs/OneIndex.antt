-- A filling is told in full: one answer and one list are right. Assumes nothing.
use Prim.Native.Nat.{ℕ}
use mathlib.Core.Path.{◌≡◌, refl, sym, ◌∙◌}
use mathlib.Core.List.{List}
use Rattle.text.proofs.Inverse.{same_said}
use Rattle.std.specs.Prelude.{Result, Ok, Err}
use Rattle.place.specs.Places.{refusal}
use Rattle.place.specs.declared.Refusal.{Refusal}
use Rattle.flow.specs.Editions.{Asked}
use Rattle.index.specs.declared.Entry.{Entry}
use Rattle.index.specs.declared.Filled.{Filled}
use Rattle.index.specs.Entries.{Reply, accepted, refused, filled, paper, FilledRight}

-- the answer that says this
abbrev answer : Reply → Result Filled Refusal
answer (accepted n m) = Ok (filled n m)
answer (refused number r k place) = Err (refusal number r k place)

answer_paper : (said : Result Filled Refusal) → answer (paper said) ≡ said
answer_paper (Ok said) = refl
answer_paper (Err r) = refl

-- two fillings that are right of one file, one list and what is asked say the same and leave the same
pub one_index : (a : Asked) (f : List ℕ) (old new new' : List Entry) (said said' : Result Filled Refusal) → FilledRight a f old new said → FilledRight a f old new' said'
    → (said ≡ said') × (new ≡ new')
one_index a f old new new' said said' p q =
    (same_said paper answer answer_paper said said' (p.says ∙ sym q.says), p.holds ∙ sym q.holds)
