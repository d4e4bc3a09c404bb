-- Import's answer and output as numbers that can be computed: they meet its promise, and by `one-imported` no others do. Assumes nothing.
use Prim.Native.Nat.{ℕ, ◌≤◌}
use mathlib.Core.Path.{◌≡◌, refl, sym, ap}
use mathlib.Core.Bool.{Bool, true, false, not}
use mathlib.Core.List.{List, ◌++◌}
use native.Mathlib.Nat.{zero-add}
use lib.Dec.{eqb, leb}
use lib.ListN.{length, drop}
use borrow.Author.Tests.{leb-true, leb-false, eqb-true, eqb-false}
use Rattle.std.specs.Prelude.{Err}
use Rattle.text.specs.Rules.{must}
use Rattle.record.specs.Records.{records, holds, bar}
use Rattle.place.specs.Places.{refusal_at, whole}
use Rattle.sheet.specs.Sheets.{bar_line}
use Rattle.sheet.specs.Write.{Transfer, transferred, paper, output}
use Rattle.sheet.specs.Code.{put}
use Rattle.rfc4180.specs.Rfc.{comma}
use Rattle.rfc4180.specs.declared.State.TheVariants.{AtLine}
use Rattle.rfc4180.specs.Walk.{stop_at, sheet_from, lines_from}
use Rattle.csv_text.specs.Import.{Imported}
use Rattle.csv_text.specs.Import as imports
use Rattle.csv_text.proofs.Taking.{import_stops, import_long, import_barred, import_no_room, import_made}

-- a text that the walk goes through
unfoldable pub computed_through : List ℕ → ℕ → Transfer
computed_through text room =
    must (leb (length (sheet_from AtLine text)) 1048000) (Err (whole 2))
    (must (not (holds bar text)) (Err (refusal_at comma text 16 (bar_line 1 (records text)) 0))
    (must (leb (length (sheet_from AtLine text)) room) (Err (whole 17))
    (transferred (lines_from AtLine text) (length (sheet_from AtLine text)))))

-- import's answer
unfoldable pub computed : List ℕ → ℕ → Transfer
computed text room =
    must (leb (length text) 1048000) (Err (whole 2))
    (must (eqb (stop_at AtLine 0 text) 0) (Err (refusal_at comma text 20 (stop_at AtLine 0 text) 0))
    (computed_through text room))

module _ (text old : List ℕ) where
  abbrev sheet : List ℕ
  sheet = sheet_from AtLine text

  -- the answer, and the bytes that it leaves
  abbrev Meets : Transfer → Type 0
  Meets t = Imported text old (paper t) (output t sheet old)

  put_front : sheet ++ drop (length sheet) old ≡ put old 0 sheet
  put_front = ap (λ (n : ℕ). sheet ++ drop n old) (sym (zero-add (length sheet)))

  module _ (short : length text ≤ 1048000) (through : stop_at AtLine 0 text ≡ 0) where
    through_go : (fits barred room : Bool) → leb (length sheet) 1048000 ≡ fits → holds bar text ≡ barred → leb (length sheet) (length old) ≡ room
        → Meets
        (must fits (Err (whole 2))
        (must (not barred) (Err (refusal_at comma text 16 (bar_line 1 (records text)) 0))
        (must room (Err (whole 17)) (transferred (lines_from AtLine text) (length sheet)))))
    through_go false barred room e f g = import_long text old short through (lines_from AtLine text) (length sheet) refl refl refl (leb-false _ _ e)
    through_go true true room e f g =
        import_barred text old short through (lines_from AtLine text) (length sheet) refl refl (leb-true _ _ e) (bar_line 1 (records text)) refl refl f
    through_go true false false e f g =
        import_no_room text old short through (lines_from AtLine text) (length sheet) refl refl (leb-true _ _ e) f refl (leb-false _ _ g)
    through_go true false true e f g =
        import_made text old short through (lines_from AtLine text) (length sheet) refl refl (leb-true _ _ e) f (sheet ++ drop (length sheet) old) (leb-true _ _ g) put_front

    through_right : Meets (computed_through text (length old))
    unfolding computed_through
    through_right = through_go (leb (length sheet) 1048000) (holds bar text) (leb (length sheet) (length old)) refl refl refl

  right_go : (within goes : Bool) → leb (length text) 1048000 ≡ within → eqb (stop_at AtLine 0 text) 0 ≡ goes
      → Meets (must within (Err (whole 2)) (must goes (Err (refusal_at comma text 20 (stop_at AtLine 0 text) 0)) (computed_through text (length old))))
  right_go false goes e f = imports.Imported.over (leb-false _ _ e)
  right_go true false e f = import_stops text old (leb-true _ _ e) (stop_at AtLine 0 text) refl refl (eqb-false _ _ f)
  right_go true true e f = through_right (leb-true _ _ e) (eqb-true _ _ f)

  -- what is computed meets import's promise
  pub computed_right : Imported text old (paper (computed text (length old))) (output (computed text (length old)) sheet old)
  unfolding computed
  computed_right = right_go (leb (length text) 1048000) (eqb (stop_at AtLine 0 text) 0) refl refl
