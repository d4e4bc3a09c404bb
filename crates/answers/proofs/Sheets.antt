-- Sheets whose made file is judged: taken, refused as the reader would refuse the made file, or too long for the lent output
-- (document 01, "Sheets"; document 02, C-12). The digits of a footer are not computed but read back from the text. Assumes nothing.
use Prim.Native.Nat.{ℕ, ◌+◌}
use Prim.Native.String.{String}
use mathlib.Core.Path.{◌≡◌, refl, sym}
use mathlib.Core.Bool.{true, false}
use mathlib.Core.List.{List, [], ◌∷◌, ◌++◌}
use lib.Dec.{leb}
use lib.ListN.{length}
use Rattle.text.specs.Characters.{bytes, is_digit, is_text}
use Rattle.record.specs.Records.{onto, records, fields, field, extent, turned, holds}
use Rattle.place.specs.Places.{field_start, place_at}
use Rattle.checksum.specs.Checksum.{words, add_record, checksum, checksum_of}
use Rattle.number.specs.Numbers.{minus, unsigned, plain, int_form, int_value, dec_form, dec_value, spelled}
use Rattle.number.specs.Calendar.{leap, days_in, is_day, is_date, is_time}
use Rattle.number.proofs.Spelling.{spelled_is}
use Rattle.field.specs.Types.{text_form, form, range, value_of}
use Rattle.field.specs.Judge.{filled, field_answer}
use Rattle.layout.specs.Layout.{among, find}
use Rattle.flow.specs.Publication.{Flow, layout_for}
use Rattle.flow.specs.Flows.{flow_number, p0138, p0133_in_711}
use Rattle.flow.specs.Editions.{a_flow, usual, asked}
use Rattle.fault.specs.Fields.{field_fault, fields_fault}
use Rattle.fault.specs.Record.{place_fault, shape_fault, key_fault, footer_fault, kind_fault}
use Rattle.judge.specs.Record.{last_kind, key_with, key_before, fault}
use Rattle.judge.specs.File.{unplaced, checked_from, ended, judged_by, with_place}
use Rattle.std.specs.Prelude.{Result, Ok, Err}
use Rattle.judge.specs.declared.Unplaced.{Unplaced}
use Rattle.sheet.specs.Sheets.{tab, footer, made}
use Rattle.sheet.specs.Write.{lines_ended, as_judged, fitted, written_by, written, done, refused}
use Rattle.answers.proofs.Cases.{lines, copies, Case, writing, transferred, given, expected, Right}

-- a made file, whose footer is spelled by some digits
module _ (sheet : List ℕ) (count sum : String) where
  made_is :
      spelled (length (records sheet) + 1) (bytes count) ≡ true
      → spelled (checksum_of (turned tab 0x7C sheet)) (bytes sum) ≡ true
      → made sheet ≡ turned tab 0x7C sheet ++ (bytes "ZPT" ++ 0x7C ∷ (bytes count ++ 0x7C ∷ bytes sum)) ++ 0x0A ∷ []
  unfolding made footer
  made_is c s =
      rw (sym (spelled_is (length (records sheet) + 1) (bytes count) c), sym (spelled_is (checksum_of (turned tab 0x7C sheet)) (bytes sum) s))
      refl

-- the example of document 01, and its sheet
abbrev example : List ℕ
example = lines ("ZHD|P0138001|G|SVAA|Z|POOL|20240105120000" ∷ "SUB|B|||20231231|M" ∷ "TA2|1.0250" ∷ "ZPT|4|812996689" ∷ [])

abbrev sheet : List ℕ
sheet = lines ("ZHD\tP0138001\tG\tSVAA\tZ\tPOOL\t20240105120000" ∷ "SUB\tB\t\t\t20231231\tM" ∷ "TA2\t1.0250" ∷ [])

example_made : made sheet ≡ example
unfolding turned onto records words add_record checksum checksum_of spelled plain is_digit
example_made = made_is sheet "4" "812996689" refl refl

-- a sheet with a fixed value that differs
abbrev fixed_sheet : List ℕ
fixed_sheet = lines ("ZHD\tP0138001\tG\tSVAA\tZ\tPOOL\t20240105120000" ∷ "SUB\tC\t\t\t20231231\tM" ∷ "TA2\t1.0250" ∷ [])

abbrev fixed_file : List ℕ
fixed_file = lines ("ZHD|P0138001|G|SVAA|Z|POOL|20240105120000" ∷ "SUB|C|||20231231|M" ∷ "TA2|1.0250" ∷ "ZPT|4|829773905" ∷ [])

fixed_made : made fixed_sheet ≡ fixed_file
unfolding turned onto records words add_record checksum checksum_of spelled plain is_digit
fixed_made = made_is fixed_sheet "4" "829773905" refl refl

-- a sheet that has a ZPT line
abbrev footed_sheet : List ℕ
footed_sheet = sheet ++ lines ("ZPT\t4\t812996689" ∷ [])

abbrev footed_file : List ℕ
footed_file = example ++ lines ("ZPT|5|1515729962" ∷ [])

footed_made : made footed_sheet ≡ footed_file
unfolding turned onto records words add_record checksum checksum_of spelled plain is_digit
footed_made = made_is footed_sheet "5" "1515729962" refl refl

-- sheets of P0133001 with the SB1 of edition 711 and of 533 (document 02, C-16)
abbrev newer_sheet : List ℕ
newer_sheet = lines ("ZHD\tP0133001\tZ\tSVAA\tZ\tPOOL\t20240105120000" ∷ "SB1\tM\tABCDEFGH\t20240105\tM" ∷ "CM1\t_A\t12\t3.5\t-4" ∷ [])

abbrev newer_file : List ℕ
newer_file = lines ("ZHD|P0133001|Z|SVAA|Z|POOL|20240105120000" ∷ "SB1|M|ABCDEFGH|20240105|M" ∷ "CM1|_A|12|3.5|-4" ∷ "ZPT|4|1215135308" ∷ [])

newer_made : made newer_sheet ≡ newer_file
unfolding turned onto records words add_record checksum checksum_of spelled plain is_digit
newer_made = made_is newer_sheet "4" "1215135308" refl refl

abbrev older_sheet : List ℕ
older_sheet = lines ("ZHD\tP0133001\tZ\tSVAA\tZ\tPOOL\t20240105120000" ∷ "SB1\tH\tM\tABCDEFGH\t20240105\tM" ∷ "CM1\t_A\t12\t3.5\t-4" ∷ [])

abbrev older_file : List ℕ
older_file = lines ("ZHD|P0133001|Z|SVAA|Z|POOL|20240105120000" ∷ "SB1|H|M|ABCDEFGH|20240105|M" ∷ "CM1|_A|12|3.5|-4" ∷ "ZPT|4|2082013764" ∷ [])

older_made : made older_sheet ≡ older_file
unfolding turned onto records words add_record checksum checksum_of spelled plain is_digit
older_made = made_is older_sheet "4" "2082013764" refl refl

unfoldable pub sheets : List Case
sheets =
    -- records and bytes written; bytes past them are kept
    writing "P0138001" sheet (copies 88 120) (done 4 88) example
    ∷ writing "P0138001" sheet (copies 90 120) (done 4 88) (example ++ bytes "xx")
    -- 17 output too short for the result
    ∷ writing "P0138001" sheet (copies 87 120) (refused 17 0 0 0) (copies 87 120)
    -- the reader's 10, and 10 and 17; the place is the field's in the sheet
    ∷ writing "P0138001" fixed_sheet (copies 88 120) (refused 10 2 2 46) (copies 88 120)
    ∷ writing "P0138001" fixed_sheet [] (refused 10 2 2 46) []
    -- the reader's 5: the made footer stands behind a ZPT; its place is the sheet's length
    ∷ writing "P0138001" footed_sheet (copies 110 120) (refused 5 5 1 88) (copies 110 120)
    -- in edition 711 an SB1 without a market sector is taken, and one with it is not
    ∷ writing "P0133001 711" newer_sheet (copies 103 120) (done 4 102) (newer_file ++ bytes "x")
    ∷ writing "P0133001 711" older_sheet (copies 103 120) (refused 6 2 0 42) (copies 103 120)
    ∷ []

-- a sheet of a flow that is none of 2, 16 and 15 is judged as its made file
module _ (fl : Flow) (sheet f old : List ℕ) (v : Result ℕ Unplaced) where
  as_made :
      leb (length sheet) 1048000 ≡ true
      → holds 0x7C sheet ≡ false
      → lines_ended sheet ≡ true
      → made sheet ≡ f
      → judged_by (layout_for fl) f ≡ v
      → transferred (written (a_flow fl) sheet (length old)) (made sheet) old ≡ transferred (as_judged (with_place tab sheet v) (fitted (length old) f)) f old
  unfolding written written_by
  as_made b c d e j = rw (b, c, d, e, j) refl

-- what the reader says of the made files
example_judged : judged_by (layout_for p0138) example ≡ Ok 4
unfolding copies onto records fields field turned words add_record checksum minus unsigned plain int_form int_value dec_form dec_value spelled leap days_in is_day is_date is_time text_form form range value_of filled field_answer among find flow_number is_digit is_text field_fault fields_fault last_kind key_with key_before place_fault shape_fault key_fault footer_fault kind_fault fault checked_from ended judged_by
example_judged = refl

fixed_judged : judged_by (layout_for p0138) fixed_file ≡ Err (unplaced 10 2 2)
unfolding copies onto records fields field turned words add_record checksum minus unsigned plain int_form int_value dec_form dec_value spelled leap days_in is_day is_date is_time text_form form range value_of filled field_answer among find flow_number is_digit is_text field_fault fields_fault last_kind key_with key_before place_fault shape_fault key_fault footer_fault kind_fault fault checked_from ended judged_by
fixed_judged = refl

footed_judged : judged_by (layout_for p0138) footed_file ≡ Err (unplaced 5 5 1)
unfolding copies onto records fields field turned words add_record checksum minus unsigned plain int_form int_value dec_form dec_value spelled leap days_in is_day is_date is_time text_form form range value_of filled field_answer among find flow_number is_digit is_text field_fault fields_fault last_kind key_with key_before place_fault shape_fault key_fault footer_fault kind_fault fault checked_from ended judged_by
footed_judged = refl

newer_judged : judged_by (layout_for p0133_in_711) newer_file ≡ Ok 4
unfolding copies onto records fields field turned words add_record checksum minus unsigned plain int_form int_value dec_form dec_value spelled leap days_in is_day is_date is_time text_form form range value_of filled field_answer among find flow_number is_digit is_text field_fault fields_fault last_kind key_with key_before place_fault shape_fault key_fault footer_fault kind_fault fault checked_from ended judged_by
newer_judged = refl

older_judged : judged_by (layout_for p0133_in_711) older_file ≡ Err (unplaced 6 2 0)
unfolding copies onto records fields field turned words add_record checksum minus unsigned plain int_form int_value dec_form dec_value spelled leap days_in is_day is_date is_time text_form form range value_of filled field_answer among find flow_number is_digit is_text field_fault fields_fault last_kind key_with key_before place_fault shape_fault key_fault footer_fault kind_fault fault checked_from ended judged_by
older_judged = refl

-- each is answered as the papers say
pub sheets_right : Right sheets
unfolding given expected sheets asked usual copies flow_number holds onto records fields extent field_start place_at
sheets_right =
    λ i.
    as_made p0138 sheet example (copies 88 120) (Ok 4) refl refl refl example_made example_judged i
    ∷ as_made p0138 sheet example (copies 90 120) (Ok 4) refl refl refl example_made example_judged i
    ∷ as_made p0138 sheet example (copies 87 120) (Ok 4) refl refl refl example_made example_judged i
    ∷ as_made p0138 fixed_sheet fixed_file (copies 88 120) (Err (unplaced 10 2 2)) refl refl refl fixed_made fixed_judged i
    ∷ as_made p0138 fixed_sheet fixed_file [] (Err (unplaced 10 2 2)) refl refl refl fixed_made fixed_judged i
    ∷ as_made p0138 footed_sheet footed_file (copies 110 120) (Err (unplaced 5 5 1)) refl refl refl footed_made footed_judged i
    ∷ as_made p0133_in_711 newer_sheet newer_file (copies 103 120) (Ok 4) refl refl refl newer_made newer_judged i
    ∷ as_made p0133_in_711 older_sheet older_file (copies 103 120) (Err (unplaced 6 2 0)) refl refl refl older_made older_judged i
    ∷ []
