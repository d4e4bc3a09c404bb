-- The answer by what the code tells of the rows, and that only one answer meets the promise. Assumes nothing.
use Prim.Native.Nat.{ℕ}
use mathlib.Core.Path.{◌≡◌, refl, sym, ap, ◌∙◌}
use mathlib.Core.Bool.{Bool, true, false, cond}
use mathlib.Core.List.{List, [], ◌∷◌}
use native.Mathlib.Omega.{arith}
use lib.Dec.{eqb}
use lib.ListN.{length}
use Rattle.std.specs.Prelude.{Some, None, Result, Ok, Err}
use Rattle.text.specs.Characters.{from_to}
use Rattle.text.specs.Rules.{must}
use Rattle.text.proofs.Inverse.{same_said}
use Rattle.place.specs.Places.{refusal, whole}
use Rattle.place.specs.declared.Refusal.{Refusal}
use Rattle.layout.specs.Layout.{Layout}
use Rattle.flow.specs.Publication.{Flow, layout_for}
use Rattle.flow.specs.Editions.{Asked, a_flow, no_flow, asked}
use Rattle.judge.specs.File.{placed_by}
use Rattle.resubmission.specs.declared.Which.{Which}
use Rattle.resubmission.specs.declared.Which.TheVariants.{Original, Resubmission}
use Rattle.resubmission.specs.declared.Rows.{Rows}
use Rattle.resubmission.specs.declared.Found.{Found}
use Rattle.resubmission.specs.declared.NotFound.{NotFound}
use Rattle.resubmission.specs.declared.NotFound.TheVariants.{Refused, NoSuch}
use Rattle.resubmission.specs.Rows.{Pair, Row, end_of, rows_in, row_at}
use Rattle.resubmission.specs.InForce.{found, handed, by_rows, read, in_force_by, in_force_for, in_force, paper, file_number, Reply, part, refused}
use Rattle.resubmission.specs.Code.{span_of, told_of, handed_at, handed_by}

-- the answer by what is told of some rows is the answer by the rows
pub told_handed : (file : Which) (rows : List Row) (n : ℕ) → handed_by file (told_of rows n) ≡ handed file rows n
unfolding handed
told_handed file rows n = by (from_to 1 (length rows) n) (row_at rows n)
  where
    by : (t : Bool) (x : Row) → handed_at file (length rows) (cond t (Some (span_of x)) None) ≡ must t (Err (NoSuch (whole 23) (length rows))) (Ok (found file (length rows) x.start (end_of x)))
    by true x = refl
    by false x = refl

-- which file's rows are in force
module _ (old new : List Row) (n : ℕ) (told : Rows) (is : told ≡ told_of new n) (x : Result Found NotFound) where
  pub original_holds : told.number ≡ 0 → (t : Rows) → t ≡ told_of old n → x ≡ handed_by Original t → x ≡ by_rows old new n
  original_holds z t told-old e =
      e ∙ ap (handed_by Original) told-old ∙ told_handed Original old n ∙ by new (sym (ap (λ (u : Rows). u.number) is) ∙ z)
    where
      by : (rows : List Row) → length rows ≡ 0 → handed Original old n ≡ by_rows old rows n
      by [] q = refl
      by (r ∷ rs) q = absurd (omega (arith, q))

  pub resubmission_holds : (told.number ≡ 0 → ⊥) → x ≡ handed_by Resubmission told → x ≡ by_rows old new n
  resubmission_holds z e =
      e ∙ ap (handed_by Resubmission) is ∙ told_handed Resubmission new n ∙ by new (λ q. z (ap (λ (u : Rows). u.number) is ∙ q))
    where
      by : (rows : List Row) → (length rows ≡ 0 → ⊥) → handed Resubmission rows n ≡ by_rows old rows n
      by [] q = absurd (q refl)
      by (r ∷ rs) q = refl

-- a file that is judged before what comes after: its refusal is the answer, or what comes after is
abbrev pub alone : Which → Result ℕ Refusal → Result Unit NotFound
alone file j = read file j (Ok tt)

read_refused : (file : Which) (j : Result ℕ Refusal) (after : Result Found NotFound) (why : NotFound) → Err why ≡ alone file j → Err why ≡ read file j after
read_refused file (Err r) after why e = let same : why ≡ Refused r file = cc in ap (λ (x : NotFound). Err x) same
read_refused file (Ok n) after why e = absurd (let z : ◌≡◌ {A = ℕ} 0 1 = cc in omega arith)

read_accepted : (file : Which) (j : Result ℕ Refusal) (after : Result Found NotFound) → Ok tt ≡ alone file j → after ≡ read file j after
read_accepted file (Err r) after e = absurd (let z : ◌≡◌ {A = ℕ} 0 1 = cc in omega arith)
read_accepted file (Ok n) after e = refl

-- both files are read by the flow's layout
module _ (flow : Flow) (a b : List ℕ) (p : Pair) (n : ℕ) (l : Layout) (is : l ≡ layout_for flow) where
  -- what is answered by that layout
  by_layout : (x : Result Found NotFound) → x ≡ read Original (placed_by l a) (read Resubmission (placed_by l b) (by_rows (rows_in flow p a) (rows_in flow p b) n)) → x ≡ in_force_by flow a b p n
  unfolding in_force_by
  by_layout x e = e ∙ ap (λ (y : Layout). read Original (placed_by y a) (read Resubmission (placed_by y b) (by_rows (rows_in flow p a) (rows_in flow p b) n))) is

  pub original_refused : (why : NotFound) → Err why ≡ alone Original (placed_by l a) → Err why ≡ in_force_by flow a b p n
  original_refused why e = by_layout (Err why) (read_refused Original (placed_by l a) _ why e)

  module _ (fine : Ok tt ≡ alone Original (placed_by l a)) where
    pub resubmission_refused : (why : NotFound) → Err why ≡ alone Resubmission (placed_by l b) → Err why ≡ in_force_by flow a b p n
    resubmission_refused why e = by_layout (Err why) (read_refused Resubmission (placed_by l b) _ why e ∙ read_accepted Original (placed_by l a) _ fine)

    pub both_read : Ok tt ≡ alone Resubmission (placed_by l b) → (x : Result Found NotFound) → x ≡ by_rows (rows_in flow p a) (rows_in flow p b) n → x ≡ in_force_by flow a b p n
    both_read e x said = by_layout x (said ∙ read_accepted Resubmission (placed_by l b) _ e ∙ read_accepted Original (placed_by l a) _ fine)

-- the public answer
module _ (words a b : List ℕ) (p : Pair) (n : ℕ) where
  pub no_flow_lem : (r : Refusal) → no_flow r ≡ asked words → paper (Err (Refused r Original)) ≡ in_force (asked words) a b p n
  unfolding in_force in_force_for
  no_flow_lem r e = ap (λ (x : Asked). paper (in_force_for x a b p n)) e

  pub by_flow : (flow : Flow) → a_flow flow ≡ asked words → (x : Result Found NotFound) → x ≡ in_force_by flow a b p n → paper x ≡ in_force (asked words) a b p n
  unfolding in_force in_force_for
  by_flow flow e x is = ap paper is ∙ ap (λ (y : Asked). paper (in_force_for y a b p n)) e

-- the answer that says this
abbrev file_of : ℕ → Which
file_of number = cond (eqb number 1) Original Resubmission

abbrev said : Reply → Result Found NotFound
said (part file number start end) = Ok (found (file_of file) number start end)
said (refused number r k place file count) = Err (cond (eqb file 0) (NoSuch (refusal number r k place) count) (Refused (refusal number r k place) (file_of file)))

same_file : (file : Which) → file_of (file_number file) ≡ file
same_file Original = refl
same_file Resubmission = refl

said_paper : (x : Result Found NotFound) → said (paper x) ≡ x
said_paper (Err (Refused r Original)) = refl
said_paper (Err (Refused r Resubmission)) = refl
said_paper (Err (NoSuch r number)) = refl
said_paper (Ok it) = λ i. Ok (found (same_file it.file i) it.number it.start it.end)

-- two answers that say the same in the papers' terms are the same answer, so only one meets the promise of in_force
pub one_answer : (x y : Result Found NotFound) → paper x ≡ paper y → x ≡ y
one_answer x y e = same_said paper said said_paper x y e
