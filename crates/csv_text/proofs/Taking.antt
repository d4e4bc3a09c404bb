-- What import hands over, answer by answer, and that there is one. Assumes nothing.
use Prim.Native.Nat.{ℕ, zero, suc, ◌≤◌, ◌<◌}
use mathlib.Core.Path.{◌≡◌, refl, sym, ap, ap₂, ◌∙◌}
use mathlib.Core.Bool.{Bool, true, false, cond, ◌||◌, false≢true}
use mathlib.Core.List.{List, [], ◌∷◌, ◌++◌}
use mathlib.Core.Logic.{◌↔◌}
use native.Mathlib.Nat.{zero-add}
use native.Mathlib.Omega.{arith}
use lib.ListN.{length, drop}
use Rattle.std.specs.Prelude.{Result, Ok, Err}
use Rattle.std.specs.Result.{MatchResult, IsErrAnd}
use Rattle.std.proofs.lemmas.Result.{err_from_is_err_and}
use Rattle.record.specs.Records.{records, joined, holds, some_holds, bar}
use Rattle.record.proofs.Cutting.{neither}
use Rattle.place.specs.Places.{refusal_at, whole}
use Rattle.place.specs.declared.Refusal.{Refusal}
use Rattle.sheet.specs.Sheets.{bar_line}
use Rattle.sheet.specs.Write.{Reply, transferred, done, refused, paper}
use Rattle.sheet.specs.Code.{put}
use Rattle.sheet.proofs.Holding.{records_hold}
use Rattle.rfc4180.specs.Rfc.{comma, Text, lines_of, Starts}
use Rattle.rfc4180.specs.declared.State.TheVariants.{AtLine}
use Rattle.rfc4180.specs.Walk.{stop_at, sheet_from, lines_from, Scanned}
use Rattle.rfc4180.specs.declared.Through.{Through}
use Rattle.rfc4180.specs.declared.Halt.{Halt}
use Rattle.rfc4180.proofs.Ways.{text_sheet, text_lines}
use Rattle.rfc4180.proofs.Reading.{walk_reads, walk_stops, one_stop, not_both}
use Rattle.rfc4180.proofs.Rows.{text_bars, one_reading}
use Rattle.rfc4180.proofs.Starting.{one_start, stops_start, bars_start}
use Rattle.csv_text.specs.Import.{Readable, Imported}
use Rattle.csv_text.specs.Import as imports

-- a line with a bar is found where there is one
some_go : (i x : ℕ) (b : Bool) (rest : Bool) → (b || rest) ≡ true → (rest ≡ true → x ≡ 0 → ⊥) → cond b (suc i) x ≡ 0 → ⊥
some_go i x true rest h f e = omega arith
some_go i x false rest h f e = f h e

some_bar : (i : ℕ) (lines : List (List ℕ)) → some_holds bar lines ≡ true → bar_line (suc i) lines ≡ 0 → ⊥
unfolding some_holds bar_line
some_bar i [] h e = false≢true h
some_bar i (line ∷ lines) h e = some_go i (bar_line (suc (suc i)) lines) (holds bar line) (some_holds bar lines) h (some_bar (suc i) lines) e

no_bar_lem : (i : ℕ) (lines : List (List ℕ)) → some_holds bar lines ≡ false → bar_line i lines ≡ 0
unfolding some_holds bar_line
no_bar_lem i [] h = refl
no_bar_lem i (line ∷ lines) h =
    let n = neither (holds bar line) (some_holds bar lines) h in
    rw n.0 (no_bar_lem (suc i) lines n.1)

module _ (text old : List ℕ) (short : length text ≤ 1048000) where
  pub import_stops : {r : Refusal} (line : ℕ) → r ≡ refusal_at comma text 20 line 0 → line ≡ stop_at AtLine 0 text → (line ≡ 0 → ⊥)
      → Imported text old (paper (Err r)) old
  import_stops zero z e h = absurd (h refl)
  import_stops (suc m) z e h =
      let stop = (walk_stops text m).0 (sym e) in
      rw z (imports.Imported.stops short stop (stops_start comma stop))

  -- the same where the line's refusal is made of what stopped the walk
  pub import_halts : {Q : Halt → Refusal → Type 0} → ((h : Halt) (r : Refusal) → Q h r → r ≡ refusal_at comma text 20 h.line 0)
      → (seen : Result Through Halt) (mapped : Result Through Refusal) (r : Refusal) → Scanned text seen
      → MatchResult seen (λ t. mapped ≡ Ok t) (λ h. IsErrAnd mapped (Q h)) → mapped ≡ Err r → Imported text old (paper (Err r)) old
  import_halts says (Ok t) mapped r s m e = absurd cc
  import_halts says (Err h) mapped r s m e =
      let (y, is, q) = err_from_is_err_and mapped m in
      let same : y ≡ r = cc in
      import_stops h.line (sym same ∙ says h y q) s.0 s.1

  module _ (through : stop_at AtLine 0 text ≡ 0) (lines bytes : ℕ) (l : lines ≡ lines_from AtLine text) (b : bytes ≡ length (sheet_from AtLine text)) where
    rows : List (List (List ℕ))
    rows = ((walk_reads text).0 through).0

    is : Text text rows
    unfolding rows
    is = ((walk_reads text).0 through).1

    readable : Readable text rows (sheet_from AtLine text)
    readable = record { short = short; reads = is; makes = text_sheet is }

    pub import_long : {r : Refusal} → r ≡ whole 2 → 1048000 < bytes → Imported text old (paper (Err r)) old
    import_long z h = rw z (imports.Imported.long readable (omega arith))

    module _ (within : bytes ≤ 1048000) where
      barred_go : (n : ℕ) → bar_line 1 (records text) ≡ n → (n ≡ 0 → ⊥) → Imported text old (paper (Err (refusal_at comma text 16 n 0))) old
      barred_go zero e h = absurd (h refl)
      barred_go (suc n) e h =
          let at = sym (text_bars 1 is) ∙ e in
          imports.Imported.barred readable (omega arith) at (bars_start comma is n at)

      pub import_barred : {r : Refusal} (line : ℕ) → r ≡ refusal_at comma text 16 line 0 → line ≡ bar_line 1 (records text) → holds bar text ≡ true
          → Imported text old (paper (Err r)) old
      import_barred line z e h =
          rw z (barred_go line (sym e) (λ q. some_bar 0 (records text) (records_hold bar text (λ x. omega arith) ∙ h) (sym e ∙ q)))

      module _ (free : holds bar text ≡ false) where
        none : bar_line 1 (lines_of rows) ≡ 0
        none = sym (text_bars 1 is) ∙ no_bar_lem 1 (records text) (records_hold bar text (λ x. omega arith) ∙ free)

        pub import_no_room : {r : Refusal} → r ≡ whole 17 → length old < bytes → Imported text old (paper (Err r)) old
        import_no_room z h = rw z (imports.Imported.no_room readable (omega arith) none (omega arith))

        pub import_made : (new : List ℕ) → bytes ≤ length old → new ≡ put old 0 (sheet_from AtLine text) → Imported text old (paper (transferred lines bytes)) new
        import_made new h e =
            let sheet = sheet_from AtLine text in
            let left : new ≡ sheet ++ drop (length sheet) old = e ∙ ap (λ (n : ℕ). sheet ++ drop n old) (zero-add (length sheet)) in
            let says : done lines bytes ≡ done (length rows) (length sheet) = ap₂ done (l ∙ text_lines is) b in
            rw (says, left) (imports.Imported.made readable (omega arith) none (omega arith))

no_done : {x r g p n b : ℕ} → refused x r g p ≡ done n b → ⊥
no_done e = let z : ◌≡◌ {A = ℕ} 0 1 = cc in omega arith

same_count : {n b m c : ℕ} → done m c ≡ done n b → n ≡ m
same_count e = cc

same_bytes_lem : {n b m c : ℕ} → done m c ≡ done n b → b ≡ c
same_bytes_lem e = cc

-- only one answer with its bytes meets import's promise
same_sheet : {text : List ℕ} {rows rows' : List (List (List ℕ))} {sheet sheet' : List ℕ} → Readable text rows sheet → Readable text rows' sheet' → sheet ≡ sheet'
same_sheet x y = x.makes ∙ ap (λ (rows : List (List (List ℕ))). joined (lines_of rows)) (one_reading x.reads y.reads) ∙ sym y.makes

same_bar : {text : List ℕ} {rows rows' : List (List (List ℕ))} {sheet sheet' : List ℕ} → Readable text rows sheet → Readable text rows' sheet'
    → bar_line 1 (lines_of rows) ≡ bar_line 1 (lines_of rows')
same_bar x y = ap (λ (rows : List (List (List ℕ))). bar_line 1 (lines_of rows)) (one_reading x.reads y.reads)

same_length : {text : List ℕ} {rows rows' : List (List (List ℕ))} {sheet sheet' : List ℕ} → Readable text rows sheet → Readable text rows' sheet'
    → length sheet ≡ length sheet'
same_length x y = ap length (same_sheet x y)

same_refusal : {text : List ℕ} {number m n a b : ℕ} → m ≡ n → Starts text m a → Starts text n b → refused number m 0 a ≡ refused number n 0 b
same_refusal {text} {number} {m} {n} {a} {b} e x y =
    let there : Starts text n a = rw e at x in
    (λ i. refused number (e i) 0 (one_start there y i))

pub one_imported : {text old : List ℕ} {a b : Reply} {new new' : List ℕ} → Imported text old a new → Imported text old b new' → (a ≡ b) × (new ≡ new')
one_imported (imports.Imported.over h) (imports.Imported.over k) = (refl, refl)
one_imported (imports.Imported.over h) (imports.Imported.stops k x q) = absurd (omega arith)
one_imported (imports.Imported.over h) (imports.Imported.long y l) = absurd (omega (arith, y.short))
one_imported (imports.Imported.over h) (imports.Imported.barred y w l q) = absurd (omega (arith, y.short))
one_imported (imports.Imported.over h) (imports.Imported.no_room y w z l) = absurd (omega (arith, y.short))
one_imported (imports.Imported.over h) (imports.Imported.made y w z l) = absurd (omega (arith, y.short))
one_imported (imports.Imported.stops h x p) (imports.Imported.over k) = absurd (omega arith)
one_imported (imports.Imported.stops h x p) (imports.Imported.stops k y q) = (same_refusal (one_stop x y) p q, refl)
one_imported (imports.Imported.stops h x p) (imports.Imported.long y l) = absurd (not_both x y.reads)
one_imported (imports.Imported.stops h x p) (imports.Imported.barred y w l q) = absurd (not_both x y.reads)
one_imported (imports.Imported.stops h x p) (imports.Imported.no_room y w z l) = absurd (not_both x y.reads)
one_imported (imports.Imported.stops h x p) (imports.Imported.made y w z l) = absurd (not_both x y.reads)
one_imported (imports.Imported.long x m) (imports.Imported.over k) = (refl, refl)
one_imported (imports.Imported.long x m) (imports.Imported.stops k y q) = absurd (not_both y x.reads)
one_imported (imports.Imported.long x m) (imports.Imported.long y l) = (refl, refl)
one_imported (imports.Imported.long x m) (imports.Imported.barred y w l q) = absurd (omega (arith, same_length x y))
one_imported (imports.Imported.long x m) (imports.Imported.no_room y w z l) = absurd (omega (arith, same_length x y))
one_imported (imports.Imported.long x m) (imports.Imported.made y w z l) = absurd (omega (arith, same_length x y))
one_imported (imports.Imported.barred x v m p) (imports.Imported.over k) = absurd (omega (arith, x.short))
one_imported (imports.Imported.barred x v m p) (imports.Imported.stops k y q) = absurd (not_both y x.reads)
one_imported (imports.Imported.barred x v m p) (imports.Imported.long y l) = absurd (omega (arith, same_length x y))
one_imported (imports.Imported.barred x v m p) (imports.Imported.barred y w l q) = (same_refusal (sym m ∙ same_bar x y ∙ l) p q, refl)
one_imported (imports.Imported.barred x v m p) (imports.Imported.no_room y w z l) = absurd (omega (arith, same_bar x y))
one_imported (imports.Imported.barred x v m p) (imports.Imported.made y w z l) = absurd (omega (arith, same_bar x y))
one_imported (imports.Imported.no_room x v z m) (imports.Imported.over k) = absurd (omega (arith, x.short))
one_imported (imports.Imported.no_room x v z m) (imports.Imported.stops k y q) = absurd (not_both y x.reads)
one_imported (imports.Imported.no_room x v z m) (imports.Imported.long y l) = absurd (omega (arith, same_length x y))
one_imported (imports.Imported.no_room x v z m) (imports.Imported.barred y w l q) = absurd (omega (arith, same_bar x y))
one_imported (imports.Imported.no_room x v z m) (imports.Imported.no_room y w t l) = (refl, refl)
one_imported (imports.Imported.no_room x v z m) (imports.Imported.made y w t l) = absurd (omega (arith, same_length x y))
one_imported (imports.Imported.made x v z m) (imports.Imported.over k) = absurd (omega (arith, x.short))
one_imported (imports.Imported.made x v z m) (imports.Imported.stops k y q) = absurd (not_both y x.reads)
one_imported (imports.Imported.made x v z m) (imports.Imported.long y l) = absurd (omega (arith, same_length x y))
one_imported (imports.Imported.made x v z m) (imports.Imported.barred y w l q) = absurd (omega (arith, same_bar x y))
one_imported (imports.Imported.made x v z m) (imports.Imported.no_room y w t l) = absurd (omega (arith, same_length x y))
one_imported {old = old} (imports.Imported.made x v z m) (imports.Imported.made y w t l) =
    (ap₂ done (ap length (one_reading x.reads y.reads)) (same_length x y), ap (λ (s : List ℕ). s ++ drop (length s) old) (same_sheet x y))

-- import accepts exactly where the text has a reading, its sheet is within the limit, no field has a bar, and there is room
pub record Taken (text old : List ℕ) (n b : ℕ) (new : List ℕ) : Type 0 where
  pub rows : List (List (List ℕ))
  pub sheet : List ℕ
  pub readable : Readable text rows sheet
  pub within : length sheet ≤ 1048000
  pub no_bar : bar_line 1 (lines_of rows) ≡ 0
  pub fits : length sheet ≤ length old
  pub lines : n ≡ length rows
  pub bytes : b ≡ length sheet
  pub leaves : new ≡ sheet ++ drop (length sheet) old

taken_go : {text old new : List ℕ} {a : Reply} {n b : ℕ} → Imported text old a new → a ≡ done n b → Taken text old n b new
taken_go (imports.Imported.over h) e = absurd (no_done e)
taken_go (imports.Imported.stops h x p) e = absurd (no_done e)
taken_go (imports.Imported.long x h) e = absurd (no_done e)
taken_go (imports.Imported.barred x h k p) e = absurd (no_done e)
taken_go (imports.Imported.no_room x h z k) e = absurd (no_done e)
taken_go (imports.Imported.made {rows} {sheet} x h z k) e =
    record { rows = rows; sheet = sheet; readable = x; within = h; no_bar = z; fits = k; lines = same_count e; bytes = same_bytes_lem e; leaves = refl }

made_go : {text old new : List ℕ} {n b : ℕ} → Taken text old n b new → Imported text old (done n b) new
made_go t = rw (t.lines, t.bytes, t.leaves) (imports.Imported.made t.readable t.within t.no_bar t.fits)

pub import_takes : (text old new : List ℕ) (n b : ℕ) → Imported text old (done n b) new ↔ Taken text old n b new
import_takes text old new n b = (λ i. taken_go i refl, made_go)
