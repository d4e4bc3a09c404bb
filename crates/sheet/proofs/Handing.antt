-- What the writer and the reader hand over, answer by answer. Assumes nothing.
use Prim.Native.Nat.{ℕ, ◌+◌, ◌≤◌, ◌<◌}
use mathlib.Core.Path.{◌≡◌, refl, sym, ap, ◌∙◌}
use mathlib.Core.List.{List, [], ◌∷◌, ◌++◌, append_assoc}
use native.Mathlib.Nat.{zero-add}
use native.Mathlib.Omega.{arith}
use lib.ListN.{length, take, drop}
use lib.Seq.{length-take-le}
use borrow.Author.Tests.{le-leb, lt-leb}
use Rattle.std.specs.Prelude.{Result, Ok, Err}
use Rattle.record.specs.Records.{records, turned, joined, bar}
use Rattle.record.proofs.Turned.{turned_length}
use Rattle.checksum.specs.Checksum.{checksum_of}
use Rattle.place.specs.Places.{whole}
use Rattle.place.specs.declared.Refusal.{Refusal}
use Rattle.layout.specs.Layout.{Layout}
use Rattle.flow.specs.Publication.{Flow, layout_for}
use Rattle.flow.specs.Editions.{Asked, a_flow, no_flow}
use Rattle.judge.specs.File.{judged_for, judged}
use Rattle.judge.specs.File as judging
use Rattle.judge.proofs.Demand2.{one_reply}
use Rattle.sheet.specs.Sheets.{tab, footer, made, but_last, sheet_of}
use Rattle.sheet.specs.Write.{Transfer, transferred, as_judged, fitted, written_by, written, paper, Handed, Wrote}
use Rattle.sheet.specs.Read.{read_to, Read}
use Rattle.sheet.specs.Code.{Totals, Taken, put}
use Rattle.sheet.proofs.Putting.{grown}
use Rattle.sheet.proofs.MadeFiles.{made_length}

-- the room and the result
module _ (room : ℕ) (result : List ℕ) (n : ℕ) where
  pub fits_not : room < length result → fitted room result n ≡ Err (whole 17)
  fits_not h = rw (lt-leb (length result) room h)

  pub fits : length result ≤ room → fitted room result n ≡ transferred n (length result)
  fits h = rw (le-leb (length result) room h)

-- the writer, by a layout
module _ (l : Layout) (sheet old : List ℕ) where
  abbrev WroteBy : Transfer → List ℕ → Type 0
  WroteBy answer new = Handed (written_by l sheet (length old)) (made sheet) answer old new

  pub wrote_refused : {r q : Refusal} → r ≡ q → written_by l sheet (length old) ≡ Err q → WroteBy (Err r) old
  wrote_refused z e = record { says = ap (λ (x : Refusal). paper (Err x)) z ∙ ap paper (sym e); leaves = refl }

  module _ (n sum b : ℕ) (t : Taken l sheet n sum) (size : b ≡ length (made sheet)) where
    pub wrote_no_room : {r : Refusal} → r ≡ whole 17 → length old < b → WroteBy (Err r) old
    wrote_no_room z h = wrote_refused z (t.says (length old) ∙ fits_not (length old) (made sheet) n (rw size at h))

    pub wrote_done : (new : List ℕ) → b ≤ length old → new ≡ made sheet ++ drop b old → WroteBy (transferred n b) new
    wrote_done new h e =
        record { says = ap (λ (k : ℕ). paper (transferred n k)) size ∙ ap paper (sym (t.says (length old) ∙ fits (length old) (made sheet) n (rw size at h))); leaves = e }

-- and for what is asked
module _ (a : Asked) (sheet old : List ℕ) where
  pub wrote_no_flow : (r : Refusal) → no_flow r ≡ a → Wrote a sheet (Err r) old old
  unfolding written
  wrote_no_flow r e = record { says = ap (λ (x : Asked). paper (written x sheet (length old))) e; leaves = refl }

  pub wrote_for : (fl : Flow) → a_flow fl ≡ a → (l : Layout) → l ≡ layout_for fl → (answer : Transfer) (new : List ℕ)
      → Handed (written_by l sheet (length old)) (made sheet) answer old new → Wrote a sheet answer old new
  unfolding written
  wrote_for fl e l is answer new h =
      record {
        says =
            h.says ∙ ap (λ (x : Layout). paper (written_by x sheet (length old))) is ∙ ap (λ (x : Asked). paper (written x sheet (length old))) e;
        leaves = h.leaves;
      }

-- the turned sheet at the front, and the footer behind it
module _ (sheet old : List ℕ) (n sum : ℕ) (t : Totals sheet n sum) where
  abbrev front : List ℕ
  front = turned tab bar sheet

  pub made_size : length sheet + (length (footer n sum) + 1) ≡ length (made sheet)
  made_size =
      let same : length (footer n sum) ≡ length (footer (length (records sheet) + 1) (checksum_of front)) =
      λ i. length (footer (t.count i) (t.total i)) in
      omega (arith, made_length sheet)

  pub made_put : (first new : List ℕ) → length sheet ≤ length old → first ≡ put old 0 front
      → new ≡ put first (length sheet) (footer n sum ++ 0x0A ∷ []) → new ≡ made sheet ++ drop (length (made sheet)) old
  unfolding made
  made_put first new h is f =
      let foot = footer n sum ++ 0x0A ∷ [] in
      let start : length sheet ≡ 0 + length front = omega (arith, turned_length tab bar sheet) in
      let whole : front ++ foot ≡ made sheet =
      (λ i. front ++ (footer (t.count i) (t.total i) ++ 0x0A ∷ []))
      ∙ sym (append_assoc front (footer (length (records sheet) + 1) (checksum_of front)) (0x0A ∷ [])) in
      f ∙ grown old first 0 front (omega arith) is (length sheet) foot start
      ∙ ap (λ (x : List ℕ). x ++ drop (0 + length x) old) whole ∙ rw zero-add

-- the reader
module _ (a : Asked) (f old : List ℕ) where
  read_is : (v : Result ℕ Refusal) → judging.paper v ≡ judged a f → paper (as_judged v (fitted (length old) (sheet_of f))) ≡ paper (read_to a f (length old))
  unfolding read_to judged
  read_is v e = ap (λ (w : Result ℕ Refusal). paper (as_judged w (fitted (length old) (sheet_of f)))) (one_reply v (judged_for a f) e)

  pub read_refused : (r : Refusal) → judging.paper (Err r) ≡ judged a f → Read a f (Err r) old old
  read_refused r e = record { says = read_is (Err r) e; leaves = refl }

  -- the last record starts at b
  module _ (n b : ℕ) (accepts : judging.accepted n ≡ judged a f) (within : b ≤ length f) (front : joined (but_last (records f)) ≡ take b f) where
    sheet_is : sheet_of f ≡ turned bar tab (take b f)
    unfolding sheet_of
    sheet_is = ap (turned bar tab) front

    size : length (sheet_of f) ≡ b
    size = ap length sheet_is ∙ turned_length bar tab (take b f) ∙ length-take-le b f within

    pub read_no_room : {r : Refusal} → r ≡ whole 17 → length old < b → Read a f (Err r) old old
    read_no_room z h =
        let over : length old < length (sheet_of f) = omega (arith, size) in
        record {
          says =
              ap (λ (x : Refusal). paper (Err x)) z ∙ ap paper (sym (fits_not (length old) (sheet_of f) n over)) ∙ read_is (Ok n) accepts;
          leaves = refl;
        }

    pub read_done : (new : List ℕ) → b ≤ length old → new ≡ put old 0 (turned bar tab (take b f)) → Read a f (transferred n b) old new
    read_done new h e =
        let room : length (sheet_of f) ≤ length old = omega (arith, size) in
        let put-so : new ≡ sheet_of f ++ drop b old =
        e ∙ ap (put old 0) (sym sheet_is) ∙ ap (λ (k : ℕ). sheet_of f ++ drop k old) (zero-add (length (sheet_of f)) ∙ size) in
        record {
          says =
              ap (λ (k : ℕ). paper (transferred n k)) (sym size) ∙ ap paper (sym (fits (length old) (sheet_of f) n room))
              ∙ read_is (Ok n) accepts;
          leaves = put-so;
        }
