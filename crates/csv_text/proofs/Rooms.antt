-- Room that is always enough: three bytes a byte of the file for export, one byte more than the text for import. Assumes nothing.
use Prim.Native.Nat.{ℕ, ◌+◌, ◌*◌, ◌≤◌, ◌<◌}
use mathlib.Core.Path.{◌≡◌, refl, sym, ap, ◌∙◌}
use mathlib.Core.Bool.{Bool, true, false, cond, false≢true}
use mathlib.Core.List.{List, [], ◌∷◌, ◌++◌}
use native.Mathlib.Omega.{arith}
use lib.ListN.{length, length-append}
use Rattle.record.specs.Records.{records, fields, joined, holds, bar}
use Rattle.record.proofs.Cutting.{joined_append}
use Rattle.record.proofs.Runs.{fields_some}
use Rattle.record.proofs.Turned.{turned_length}
use Rattle.checksum.specs.Checksum.{checksum}
use Rattle.flow.specs.Editions.{Asked}
use Rattle.flow.proofs.Proper.{ProperAsked}
use Rattle.judge.specs.File.{judged, accepted}
use Rattle.sheet.specs.Sheets.{tab, footer, but_last, parted}
use Rattle.sheet.proofs.AcceptedFiles.{parted_turned, feed_joined, feed_long}
use Rattle.sheet.proofs.Accepted.{accepted_split, accepted_some}
use Rattle.rfc4180.specs.Rfc.{comma, return, feed}
use Rattle.rfc4180.specs.declared.State.{State}
use Rattle.rfc4180.specs.declared.State.TheVariants.{AtLine}
use Rattle.rfc4180.specs.Walk.{at_line, next_of, given_of, sheet_from}
use Rattle.rfc4180.proofs.Steps.{given_le}
use Rattle.rfc4180.proofs.Ways.{text_sheet}
use Rattle.csv_text.specs.Export.{quoted, field_of, line_of, text_of, rows_of, export_of}
use Rattle.csv_text.specs.Import.{Readable}
use Rattle.csv_text.proofs.Doubling.{field_plain, field_le}

-- a field that is quoted is not empty
some_go : (x : List ℕ) (t : Bool) → quoted x ≡ t → length (field_of x) + 2 ≤ 3 * length x + 3
unfolding holds
some_go [] true e = absurd (false≢true e)
some_go (b ∷ x) true e = omega (arith, field_le (b ∷ x))
some_go x false e = omega (arith, ap length (field_plain x e))

line_room : (row : List (List ℕ)) → 0 < length row → length (line_of row) + 2 ≤ 3 * length (parted tab row) + 3
unfolding parted
line_room [] h = absurd (omega arith)
line_room (x ∷ []) h = some_go x (quoted x) refl
line_room (x ∷ y ∷ row) h =
    omega (arith, field_le x, line_room (y ∷ row) (omega arith), length-append x (tab ∷ parted tab (y ∷ row)), length-append (field_of x) (comma ∷ line_of (y ∷ row)))

text_room : (rs : List (List ℕ)) → length (text_of (rows_of rs)) ≤ 3 * length (joined rs)
unfolding text_of joined
text_room [] = omega arith
text_room (r ∷ rs) =
    omega (
      arith,
      line_room (fields bar r) (fields_some bar r),
      ap length (parted_turned bar tab r),
      turned_length bar tab r,
      text_room rs,
      length-append r (feed ∷ joined rs),
      length-append (line_of (fields bar r)) (return ∷ feed ∷ text_of (rows_of rs)),
    )

-- three times the bytes of an accepted file are enough for its text
pub export_fits : (a : Asked) → ProperAsked a → (f : List ℕ) (n : ℕ) → judged a f ≡ accepted n → length (export_of f) ≤ 3 * length f
unfolding export_of joined
export_fits a proper f n accepts =
    let lines = but_last (records f) in
    let foot = footer (length lines + 1) (checksum lines) in
    let split = accepted_split a proper f n accepts in
    let whole = ap length (sym (feed_joined f (accepted_some a proper f n accepts)) ∙ ap joined split ∙ joined_append lines (foot ∷ [])) in
    omega (arith, text_room lines, whole, length-append (joined lines) (foot ++ 0x0A ∷ []), length-append foot (0x0A ∷ []), feed_long f)

-- a text gives at most one byte more than it has
end_go : (t : Bool) → length (cond t [] (feed ∷ [])) ≤ 1
end_go true = omega arith
end_go false = omega arith

sheet_le : (st : State) (s : List ℕ) → length (sheet_from st s) ≤ length s + 1
unfolding sheet_from
sheet_le st [] = omega (arith, end_go (at_line st))
sheet_le st (b ∷ s) =
    omega (arith, given_le st b, sheet_le (next_of st b) s, length-append (given_of st b) (sheet_from (next_of st b) s))

module _ {text : List ℕ} {rows : List (List (List ℕ))} {sheet : List ℕ} (r : Readable text rows sheet) where
  pub import_fits : length sheet ≤ length text + 1
  import_fits = omega (arith, sheet_le AtLine text, ap length (text_sheet r.reads), ap length r.makes)

  -- so only a text of just 1,048,000 bytes makes a sheet over the limit, by one byte
  pub import_over : 1048000 < length sheet → (length text ≡ 1048000) × (length sheet ≡ 1048001)
  import_over h = (omega (arith, import_fits, r.short), omega (arith, import_fits, r.short))
