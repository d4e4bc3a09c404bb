-- Each refusal of a file, a sheet, a text or a list of kinds has the place of its record and field. Assumes nothing.
use Prim.Native.Nat.{ℕ}
use mathlib.Core.Path.{◌≡◌, refl, sym, subst}
use mathlib.Core.Bool.{Bool, true, false, not, cond}
use mathlib.Core.List.{List}
use native.Mathlib.Omega.{arith}
use lib.Dec.{eqb, leb}
use lib.ListN.{length}
use Rattle.text.specs.Characters.{from_to}
use Rattle.text.specs.Order.{same_bytes}
use Rattle.text.specs.Rules.{must}
use Rattle.record.specs.Records.{records, holds, bar}
use Rattle.place.specs.Places.{record_at, place_at, refusal_at, whole}
use Rattle.std.specs.Prelude.{Result, Ok, Err}
use Rattle.place.specs.declared.Refusal.{Refusal}
use Rattle.place.proofs.Points.{at_zero}
use Rattle.pointing.specs.Shown.{Placed}
use Rattle.flow.specs.Letters.{P0012001}
use Rattle.flow.specs.Publication.{Flow, layout_for}
use Rattle.flow.specs.Editions.{Asked, a_flow, no_flow, asked}
use Rattle.flow.specs.Step.{StepRight}
use Rattle.flow.specs.declared.NoStep.{NoStep}
use Rattle.flow.specs.declared.NoStep.TheVariants.{Refused}
use Rattle.flow.proofs.Asking.{asked_whole}
use Rattle.field.specs.declared.Content.{Content}
use Rattle.field.specs.declared.Content.TheVariants as contents
use Rattle.judge.specs.File.{judged_by, with_place, judged_for, judged}
use Rattle.judge.specs.File.{paper as judged_paper}
use Rattle.judge.specs.declared.Unplaced.{Unplaced}
use Rattle.value.specs.Value.{is_there, text_at, end_of, numbered, as_value, answer_in, field_value, of_accepted, value_at, value_by, value_in, valued}
use Rattle.value.specs.Value.{paper as value_paper}
use Rattle.value.specs.declared.Value.{Value}
use Rattle.value.specs.declared.Value.TheVariants as values
use Rattle.period.specs.Answer.{answered, read_up_to, some_has, up_to, has_by, has_for, has_period}
use Rattle.period.specs.Answer.{paper as period_paper}
use Rattle.sheet.specs.Sheets.{tab, made, sheet_of, bar_line}
use Rattle.sheet.specs.Write.{lines_ended, as_judged, fitted, written_by, written, Wrote, Reply, done, refused}
use Rattle.sheet.specs.Write.{paper as transfer_paper}
use Rattle.sheet.specs.Read.{read_to, Read}
use Rattle.sheet.specs.Write.{Transfer, transferred}
use Rattle.rfc4180.specs.Rfc.{comma}
use Rattle.rfc4180.proofs.Starting.{start_place}
use Rattle.csv_text.specs.Export.{export_of, exported, Exported}
use Rattle.csv_text.specs.Import.{Imported}
use Rattle.csv_text.specs.Import as imports
use Rattle.index.specs.Entries.{filled, indexed_by, answer_for, entries_for}
use Rattle.index.specs.declared.Entry.{Entry}
use Rattle.rig.specs.Placed.{PlacedIn}

-- a refusal of the whole
whole_placed : (sep : ℕ) (s : List ℕ) (number : ℕ) → Placed sep s (whole number)
whole_placed sep s number = sym (at_zero sep s 0 0 refl)

-- of a test that comes before an answer
first_failing : {A : Type 0} (sep : ℕ) (s : List ℕ) (b : Bool) (r : Refusal) (t : Result A Refusal) → Placed sep s r → PlacedIn sep s t → PlacedIn sep s (must b (Err r) t)
first_failing sep s true r t h g = g
first_failing sep s false r t h g = h

-- of the words: it is one of the whole, whatever the bytes that were given with them
abbrev PlacedAsked : ℕ → List ℕ → Asked → Type 0
PlacedAsked sep s (a_flow fl) = Unit
PlacedAsked sep s (no_flow r) = Placed sep s r

module _ (sep : ℕ) (s words : List ℕ) where
  words_placed : (a : Asked) → asked words ≡ a → PlacedAsked sep s a
  words_placed (a_flow fl) e = tt
  words_placed (no_flow r) e = let w = asked_whole words r e in subst (Placed sep s) (sym w.1) (whole_placed sep s w.0)

  asked_placed : PlacedAsked sep s (asked words)
  asked_placed = words_placed (asked words) refl

-- of a file or a sheet that is judged
verdict_placed : (sep : ℕ) (s : List ℕ) (v : Result ℕ Unplaced) → PlacedIn sep s (with_place sep s v)
verdict_placed sep s (Ok n) = tt
verdict_placed sep s (Err r) = refl

file_placed : (f : List ℕ) (a : Asked) → PlacedAsked bar f a → PlacedIn bar f (judged_for a f)
unfolding judged_for
file_placed f (a_flow fl) h = verdict_placed bar f (judged_by (layout_for fl) f)
file_placed f (no_flow r) h = h

for_placed : (words f : List ℕ) → PlacedIn bar f (judged_for (asked words) f)
for_placed words f = file_placed f (asked words) (asked_placed bar f words)

same_judged : (f : List ℕ) (r : Refusal) (j : Result ℕ Refusal) → judged_paper (Err r) ≡ judged_paper j → PlacedIn bar f j → Placed bar f r
same_judged f r (Ok n) e h = let z : ◌≡◌ {A = ℕ} 0 1 = cc in absurd (omega arith)
same_judged f r (Err q) e h = cc

pub judged_placed : (words f : List ℕ) (r : Refusal) → judged_paper (Err r) ≡ judged (asked words) f → Placed bar f r
unfolding judged
judged_placed words f r e = same_judged f r (judged_for (asked words) f) e (for_placed words f)

-- of a list of kinds
step_placed : (sep : ℕ) (s : List ℕ) (a : Asked) (kinds : List ℕ) (r : Refusal) (old new : List ℕ) → PlacedAsked sep s a →
    StepRight a kinds (Err (Refused r)) old new → Placed sep s r
step_placed sep s (a_flow fl) kinds r old new h w = absurd w
step_placed sep s (no_flow x) kinds r old new h w = let e = w.0 in cc

pub stepped_placed : (sep : ℕ) (s words kinds : List ℕ) (r : Refusal) (old new : List ℕ) (x : NoStep) → x ≡ Refused r →
    StepRight (asked words) kinds (Err x) old new → Placed sep s r
stepped_placed sep s words kinds r old new x is w =
    step_placed sep s (asked words) kinds r old new (asked_placed sep s words)
    (subst (λ (y : NoStep). StepRight (asked words) kinds (Err y) old new) is w)

-- of a value that is asked
module _ (f : List ℕ) (n k : ℕ) where
  answer_placed : (to : ℕ) (a : Result Content ℕ) → PlacedIn bar f (as_value n k (place_at bar f n k) to a)
  answer_placed to (Err number) = refl
  answer_placed to (Ok contents.Empty) = tt
  answer_placed to (Ok (contents.Number z)) = tt
  answer_placed to (Ok (contents.Truth b)) = tt
  answer_placed to (Ok contents.Text) = tt

  kind_or_answer : (b : Bool) (a : Result Content ℕ) → PlacedIn bar f (cond b (text_at f n k) (as_value n k (place_at bar f n k) (end_of f n k) a))
  kind_or_answer true a = tt
  kind_or_answer false a = answer_placed (end_of f n k) a

  at_placed : (fl : Flow) → PlacedIn bar f (value_at (layout_for fl) f n k)
  unfolding value_at field_value
  at_placed fl =
      first_failing bar f (is_there f n k) (refusal_at bar f 18 n k) _ refl
      (kind_or_answer (eqb k 1) (numbered (answer_in (layout_for fl) (record_at f n) k)))

  accepted_or_not : (j : Result ℕ Refusal) (v : Result Value Refusal) → PlacedIn bar f j → PlacedIn bar f v → PlacedIn bar f (of_accepted j v)
  accepted_or_not (Ok m) v g h = h
  accepted_or_not (Err r) v g h = g

  in_placed : (a : Asked) → PlacedAsked bar f a → PlacedIn bar f (value_in a f n k)
  unfolding value_in value_by
  in_placed (a_flow fl) h =
      accepted_or_not (with_place bar f (judged_by (layout_for fl) f)) (value_at (layout_for fl) f n k)
      (verdict_placed bar f (judged_by (layout_for fl) f)) (at_placed fl)
  in_placed (no_flow r) h = h

same_value : (f : List ℕ) (r : Refusal) (v : Result Value Refusal) → value_paper f (Err r) ≡ value_paper f v → PlacedIn bar f v → Placed bar f r
same_value f r (Err q) e h = cc
same_value f r (Ok values.Empty) e h = let z : ◌≡◌ {A = ℕ} 0 1 = cc in absurd (omega arith)
same_value f r (Ok (values.Number z)) e h = let z : ◌≡◌ {A = ℕ} 0 1 = cc in absurd (omega arith)
same_value f r (Ok (values.Truth b)) e h = let z : ◌≡◌ {A = ℕ} 0 1 = cc in absurd (omega arith)
same_value f r (Ok (values.Text from to)) e h = let z : ◌≡◌ {A = ℕ} 0 1 = cc in absurd (omega arith)

pub valued_placed : (words f : List ℕ) (n k : ℕ) (r : Refusal) → value_paper f (Err r) ≡ valued (asked words) f n k → Placed bar f r
unfolding valued
valued_placed words f n k r e = same_value f r (value_in (asked words) f n k) e (in_placed f n k (asked words) (asked_placed bar f words))

-- of a period that is asked for
module _ (f : List ℕ) where
  answered_placed : (v : Result ℕ Unplaced) (b : Bool) → PlacedIn bar f (answered f v b)
  answered_placed (Ok n) b = tt
  answered_placed (Err r) b = refl

  whole_or_not : (b : Bool) (number : ℕ) (a : Result Bool Refusal) → PlacedIn bar f a → PlacedIn bar f (must b (Err (whole number)) a)
  whole_or_not b number a h = first_failing bar f b (whole number) a (whole_placed bar f number) h

  period_placed : (a : Asked) (p : ℕ) → PlacedAsked bar f a → PlacedIn bar f (has_for a f p)
  unfolding has_for has_by
  period_placed (a_flow fl) p h =
      whole_or_not (same_bytes P0012001 fl.name) 22 _
      (whole_or_not (from_to 1 50 p) 18 _ (answered_placed (read_up_to (layout_for fl) f p) (some_has p (up_to p (records f)))))
  period_placed (no_flow r) p h = h

  same_period : (r : Refusal) (a : Result Bool Refusal) → period_paper (Err r) ≡ period_paper a → PlacedIn bar f a → Placed bar f r
  same_period r (Err q) e h = cc
  same_period r (Ok b) e h = let z : ◌≡◌ {A = ℕ} 0 1 = cc in absurd (omega arith)

pub has_placed : (words f : List ℕ) (p : ℕ) (r : Refusal) → period_paper (Err r) ≡ has_period (asked words) f p → Placed bar f r
unfolding has_period
has_placed words f p r e = same_period f r (has_for (asked words) f p) e (period_placed f (asked words) p (asked_placed bar f words))

-- of an index
module _ (f : List ℕ) (es : List Entry) (room : ℕ) where
  read_or_not : (j : Result ℕ Refusal) → PlacedIn bar f j → PlacedIn bar f (indexed_by j es room)
  unfolding indexed_by
  read_or_not (Ok n) h = first_failing bar f (leb (length es) room) (whole 19) (Ok (filled n (length es))) (whole_placed bar f 19) tt
  read_or_not (Err r) h = h

pub index_placed : (words f : List ℕ) (room : ℕ) (r : Refusal) → answer_for (asked words) f room ≡ Err r → Placed bar f r
index_placed words f room r e =
    subst (PlacedIn bar f) e (read_or_not f (entries_for (asked words) f) room (judged_for (asked words) f) (for_placed words f))

-- of a sheet that is written, and of a file that is read or exported
module _ (sep : ℕ) (s : List ℕ) where
  fitted_placed : (room : ℕ) (result : List ℕ) (n : ℕ) → PlacedIn sep s (fitted room result n)
  fitted_placed room result n = first_failing sep s (leb (length result) room) (whole 17) (transferred n (length result)) (whole_placed sep s 17) tt

  transfer_placed : (j : Result ℕ Refusal) → PlacedIn sep s j → (room : ℕ) (result : List ℕ) → PlacedIn sep s (as_judged j (fitted room result))
  transfer_placed (Ok n) h room result = fitted_placed room result n
  transfer_placed (Err r) h room result = h

  same_transfer : (a t : Transfer) → transfer_paper a ≡ transfer_paper t → PlacedIn sep s t → PlacedIn sep s a
  same_transfer (Ok x) t e h = tt
  same_transfer (Err r) (Ok x) e h = let z : ◌≡◌ {A = ℕ} 0 1 = cc in absurd (omega arith)
  same_transfer (Err r) (Err q) e h = cc

sheet_placed : (fl : Flow) (sheet : List ℕ) (room : ℕ) → PlacedIn tab sheet (written_by (layout_for fl) sheet room)
unfolding written_by
sheet_placed fl sheet room =
    let v = judged_by (layout_for fl) (made sheet) in
    first_failing tab sheet (leb (length sheet) 1048000) (whole 2) _ (whole_placed tab sheet 2)
    (first_failing tab sheet (not (holds bar sheet)) (refusal_at tab sheet 16 (bar_line 1 (records sheet)) 0) _ refl
    (first_failing tab sheet (lines_ended sheet) (refusal_at tab sheet 15 (length (records sheet)) 0) _ refl
    (transfer_placed tab sheet (with_place tab sheet v) (verdict_placed tab sheet v) room (made sheet))))

written_placed : (a : Asked) (sheet : List ℕ) (room : ℕ) → PlacedAsked tab sheet a → PlacedIn tab sheet (written a sheet room)
unfolding written
written_placed (a_flow fl) sheet room h = sheet_placed fl sheet room
written_placed (no_flow r) sheet room h = h

pub wrote_placed : (words sheet : List ℕ) {a : Transfer} {old new : List ℕ} → Wrote (asked words) sheet a old new → PlacedIn tab sheet a
wrote_placed words sheet {a} {old} w =
    same_transfer tab sheet a (written (asked words) sheet (length old)) w.says
    (written_placed (asked words) sheet (length old) (asked_placed tab sheet words))

pub read_placed : (words f : List ℕ) {a : Transfer} {old new : List ℕ} → Read (asked words) f a old new → PlacedIn bar f a
unfolding read_to
read_placed words f {a} {old} w =
    same_transfer bar f a (read_to (asked words) f (length old)) w.says
    (transfer_placed bar f (judged_for (asked words) f) (for_placed words f) (length old) (sheet_of f))

pub exported_placed : (words f : List ℕ) {a : Transfer} {old new : List ℕ} → Exported (asked words) f a old new → PlacedIn bar f a
unfolding exported
exported_placed words f {a} {old} w =
    same_transfer bar f a (exported (asked words) f (length old)) w.says
    (transfer_placed bar f (judged_for (asked words) f) (for_placed words f) (length old) (export_of f))

-- of a text that is imported
abbrev PlacedReply : List ℕ → Reply → Type 0
PlacedReply text (done n b) = Unit
PlacedReply text (refused number n k p) = p ≡ place_at comma text n k

reply_placed : {text old new : List ℕ} {a : Reply} → Imported text old a new → PlacedReply text a
reply_placed {text} (imports.Imported.over h) = sym (at_zero comma text 0 0 refl)
reply_placed (imports.Imported.stops h x p) = sym (start_place comma p)
reply_placed {text} (imports.Imported.long x h) = sym (at_zero comma text 0 0 refl)
reply_placed (imports.Imported.barred x h k p) = sym (start_place comma p)
reply_placed {text} (imports.Imported.no_room x h z k) = sym (at_zero comma text 0 0 refl)
reply_placed (imports.Imported.made x h z k) = tt

pub imported_placed : {text old new : List ℕ} (a : Transfer) → Imported text old (transfer_paper a) new → PlacedIn comma text a
imported_placed (Ok t) i = tt
imported_placed (Err r) i = reply_placed i
