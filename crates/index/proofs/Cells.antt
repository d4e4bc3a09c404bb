-- What a filling of cells leaves, over plain variables: entries put one by one are the first n entries as numbers and then what was there, and those are what CellsRight promises. Assumes nothing.
use mathlib.Core.Path.{◌≡◌, refl, sym, ◌∙◌, ap}
use Prim.Native.Nat.{ℕ, zero, suc, ◌+◌, ◌*◌, ◌/◌, ◌≤◌, ◌<◌}
use native.Mathlib.Nat.{mul-div-le}
use native.Mathlib.Numerals.{add-one}
use native.Mathlib.Omega.{arith}
use mathlib.Core.List.{List, [], ◌∷◌, ◌++◌}
use lib.ListN.{length, take, drop, length-append, length-drop}
use lib.Seq.{take-suc, length-take-le, take_at, drop_at, drop-drop}
use Rattle.std.specs.Prelude.{Result, Ok, Err}
use Rattle.place.specs.declared.Refusal.{Refusal}
use Rattle.flow.specs.Editions.{Asked}
use Rattle.index.specs.declared.Entry.{Entry}
use Rattle.index.specs.declared.Filled.{Filled}
use Rattle.index.specs.Entries.{Kinds, entries_of, entries_for, answer_for, paper, indexed, numbers_of, cells_of, cells_by, CellsRight}
use Rattle.index.specs.Code.{blank, entry_at, kinds_in, to_store, stored_cells, with_numbers, read, storing, FilledBy}
use Rattle.index.proofs.Tables.{few_kinds}
use Rattle.index.proofs.Reading.{entry_read}
use Rattle.index.proofs.Stored.{promised, promised_asked, all_agree}

-- ---- entries put one by one: each takes four cells, so that i of them end at cell 4 * i
cells_long : (es : List Entry) → length (cells_of es) ≡ 4 * length es
unfolding cells_of
cells_long [] = refl
cells_long (e ∷ es) = let h = cells_long es in omega arith

cells_snoc : (es : List Entry) (e : Entry) → cells_of (es ++ (e ∷ [])) ≡ cells_of es ++ numbers_of e
unfolding cells_of
cells_snoc [] e = refl
cells_snoc (x ∷ es) e = ap (λ (l : List ℕ). numbers_of x ++ l) (cells_snoc es e)

pub none_put : (es : List Entry) (old : List ℕ) → old ≡ cells_of (take 0 es) ++ drop (4 * 0) old
unfolding cells_of
none_put es old = refl

module _ (es : List Entry) (i : ℕ) (there : i ≤ length es) (old new : List ℕ) (is : new ≡ cells_of (take i es) ++ drop (4 * i) old) where
  front : length (cells_of (take i es)) ≡ 4 * i
  front = cells_long (take i es) ∙ ap (λ (k : ℕ). 4 * k) (length-take-le i es there)

  -- so that the next entry has the room that the old cells gave, and as many cells are given back as were lent
  pub as_long : 4 * i ≤ length old → length new ≡ length old
  as_long fits = ap length is ∙ length-append (cells_of (take i es)) (drop (4 * i) old) ∙ (omega (arith, front, length-drop (4 * i) old))

  before : take (4 * i) new ≡ cells_of (take i es)
  before = ap (take (4 * i)) is ∙ take_at (cells_of (take i es)) (drop (4 * i) old) (4 * i) front

  behind : drop (4 * i + 4) new ≡ drop (4 * i + 4) old
  behind =
      sym (drop-drop 4 (4 * i) new)
      ∙ ap (λ (l : List ℕ). drop 4 (drop (4 * i) l)) is
      ∙ ap (drop 4) (drop_at (cells_of (take i es)) (drop (4 * i) old) (4 * i) front)
      ∙ drop-drop 4 (4 * i) old

  one_more_lem : i < length es → cells_of (take (i + 1) es) ≡ cells_of (take i es) ++ numbers_of (entry_at es i)
  one_more_lem h = ap (λ (k : ℕ). cells_of (take k es)) (add-one i) ∙ ap cells_of (take-suc es i blank h) ∙ cells_snoc (take i es) (entry_at es i)

  -- the entry to be put is always the one at the seam
  pub one_put : (e : Entry) → e ≡ entry_at es i → i < length es → take (4 * i) new ++ numbers_of e ++ drop (4 * i + 4) new ≡ cells_of (take (i + 1) es) ++ drop (4 * (i + 1)) old
  one_put e at-seam h =
      let z : 4 * i + 4 ≡ 4 * (i + 1) = omega arith in
      (λ j. before j ++ numbers_of (at-seam j) ++ behind j) ∙ (λ j. sym (one_more_lem h) j ++ drop (z j) old)

-- the cells after n entries, one after the other
pub cells_stored : (ks : Kinds) (f : List ℕ) → length ks.names ≤ 32 → (n : ℕ) (old : List ℕ) → 4 * n ≤ length old → n ≤ length (entries_of ks f)
    → storing with_numbers (read ks f) n old ≡ stored_cells ks f n old
cells_stored ks f few zero old h g = none_put (entries_of ks f) old
cells_stored ks f few (suc n) old h g =
    let es = entries_of ks f in
    let there : n ≤ length es = omega (arith, g) in
    let before = cells_stored ks f few n old (omega (arith, h)) there in
    one_put es n there old (storing with_numbers (read ks f) n old) before (read ks f n) (entry_read ks f few n g) g
    ∙ ap (λ (m : ℕ). stored_cells ks f m old) (add-one n)

-- ---- what `fill_cells` shows of the number that `begin` gave, and what it makes of the cells that were put
cells_made : (said : Result Filled Refusal) (es : List Entry) (old : List ℕ) → cells_of (promised said es) ++ drop (4 * to_store said) old ≡ cells_by said es old
unfolding cells_of cells_by
cells_made (Err r) es old = refl
cells_made (Ok said) es old = refl

-- so cells that were filled one entry after the other are right
pub cells_right : (a : Asked) (f old new : List ℕ) (b : Result Filled Refusal) → FilledBy (λ (s : List ℕ). length s / 4) with_numbers a f old new b → CellsRight a f old new b
unfolding indexed
cells_right a f old new b w =
    let ks = kinds_in w.numbers in
    let room = length old / 4 in
    let agree = all_agree a f room b w.says ks w.kinds in
    record {
      says = ap paper w.says;
      holds = w.holds
          ∙ cells_stored ks f (few_kinds w.numbers) (to_store b) old (omega (arith, agree.fits, mul-div-le (length old) 4)) agree.there
          ∙ ap (λ (es : List Entry). cells_of es ++ drop (4 * to_store b) old) agree.makes
          ∙ (λ i. cells_of (promised (w.says i) (entries_of ks f)) ++ drop (4 * to_store (w.says i)) old)
          ∙ ap (λ (es : List Entry). cells_of es ++ drop (4 * to_store (answer_for a f room)) old) (promised_asked f room ks a w.kinds)
          ∙ cells_made (answer_for a f room) (entries_for a f) old;
    }
