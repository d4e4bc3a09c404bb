-- The sheet of document 01's example, and sheets that are refused, by computation. Assumes nothing.
use Prim.Native.Nat.{ℕ, zero, suc}
use Prim.Native.String.{String}
use mathlib.Core.Path.{◌≡◌, refl, sym, ap, ◌∙◌}
use mathlib.Core.Bool.{true}
use mathlib.Core.List.{List, [], ◌∷◌, ◌++◌, map}
use native.Mathlib.Omega.{arith}
use lib.Dec.{ltb, lit≤}
use lib.ListN.{length}
use borrow.Author.Tests.{ltb-true}
use Rattle.std.specs.Prelude.{Err}
use Rattle.text.specs.Characters.{all, bytes, is_digit, is_text}
use Rattle.record.specs.Records.{joined, onto, records, fields, field, extent, turned, holds, Bytes, bar}
use Rattle.checksum.specs.Checksum.{words, add_record, checksum, checksum_of}
use Rattle.number.specs.Numbers.{minus, unsigned, plain, int_form, int_value, dec_form, dec_value, spelled, decimal_in, decimal}
use Rattle.number.specs.Calendar.{leap, days_in, is_day, is_date, is_time}
use Rattle.field.specs.Types.{text_form, form, range, value_of}
use Rattle.field.specs.Judge.{filled, field_answer}
use Rattle.number.proofs.Digits.{and_left, and_right}
use Rattle.number.proofs.Spelling.{spelled_is}
use Rattle.layout.specs.Layout.{among, find}
use Rattle.flow.specs.Letters.{ZPT, P0138001}
use Rattle.flow.specs.Publication.{layout_for}
use Rattle.flow.specs.Flows.{flow_number, p0138}
use Rattle.flow.specs.Editions.{usual, asked}
use Rattle.flow.proofs.Proper.{held_proper}
use Rattle.fault.specs.Fields.{field_fault, fields_fault}
use Rattle.fault.specs.Record.{place_fault, shape_fault, key_fault, footer_fault, kind_fault}
use Rattle.judge.specs.Record.{last_kind, key_with, key_before, fault}
use Rattle.place.specs.Places.{field_start, place_at, refusal}
use Rattle.judge.specs.File.{unplaced, checked_from, ended, judged_by, judged_for, judged, accepted}
use Rattle.sheet.specs.Sheets.{tab, footer, made, bar_line, but_last, sheet_of}
use Rattle.sheet.specs.Write.{transferred, written_by, written}
use Rattle.sheet.specs.Code.{lines_judged}
use Rattle.sheet.proofs.Verdicts.{refused_is}
use Rattle.sheet.proofs.RoundTrip.{writer_takes}

-- lines with a line feed after each
abbrev lines : List String → List ℕ
lines ls = joined (map bytes ls)

-- a sheet, its tabs written as bars here
abbrev sheet : List String → List ℕ
sheet ls = turned bar tab (lines ls)

abbrev zhd : String
zhd = "ZHD|P0138001|G|SVAA|Z|POOL|20240105120000"

abbrev sub : String
sub = "SUB|B|||20231231|M"

abbrev ta2 : String
ta2 = "TA2|1.0250"

-- the example, and its sheet
abbrev example : List ℕ
example = lines (zhd ∷ sub ∷ ta2 ∷ "ZPT|4|812996689" ∷ [])

abbrev example_sheet : List ℕ
example_sheet = sheet (zhd ∷ sub ∷ ta2 ∷ [])

-- each is made from the other
pub example_sheet_lem : sheet_of example ≡ example_sheet
unfolding sheet_of turned joined but_last records onto
example_sheet_lem = refl

count_digits : decimal 4 ≡ bytes "4"
unfolding spelled plain is_digit
count_digits = sym (spelled_is 4 (bytes "4") refl)

sum_digits : decimal 812996689 ≡ bytes "812996689"
unfolding spelled plain is_digit
sum_digits = sym (spelled_is 812996689 (bytes "812996689") refl)

footer_bytes : footer 4 812996689 ≡ bytes "ZPT|4|812996689"
unfolding footer
footer_bytes = λ i. ZPT ++ bar ∷ (count_digits i ++ bar ∷ sum_digits i)

pub example_made : made example_sheet ≡ example
unfolding made turned joined records onto checksum_of checksum add_record words
example_made = ap (λ (foot : List ℕ). turned tab bar example_sheet ++ foot ++ 0x0A ∷ []) footer_bytes

example_accepted : judged (asked P0138001) example ≡ accepted 4
unfolding joined onto records fields field turned words add_record checksum minus unsigned plain int_form int_value dec_form dec_value spelled leap days_in is_day is_date is_time text_form form range value_of filled field_answer among find flow_number is_digit is_text field_fault fields_fault last_kind key_with key_before place_fault shape_fault key_fault footer_fault kind_fault fault checked_from ended judged_by asked usual judged_for judged
example_accepted = refl

-- with room for its 88 bytes it is written
pub example_written : written (asked P0138001) example_sheet 88 ≡ transferred 4 88
unfolding turned joined holds
example_written =
    let size : length (made example_sheet) ≡ 88 = ap length example_made in
    (writer_takes example_sheet 88 4 88 (asked P0138001)).1
    record {
      within = lit≤ tt;
      no_bar = refl;
      ends = refl;
      accepts = ap (judged (asked P0138001)) example_made ∙ example_accepted;
      fits = omega arith;
      bytes = sym size;
    }

-- an empty sheet is 5 at record 1, the made footer, whose place is the sheet's length
pub empty_sheet : (room : ℕ) → written (asked P0138001) [] room ≡ Err (refusal 5 1 1 0)
unfolding joined onto records fields field turned holds words add_record checksum checksum_of minus unsigned plain int_form int_value dec_form dec_value spelled decimal_in decimal leap days_in is_day is_date is_time text_form form range value_of filled field_answer among find flow_number is_digit is_text field_fault fields_fault last_kind key_with key_before place_fault shape_fault key_fault footer_fault kind_fault fault checked_from ended judged_by place_at footer made asked usual written_by written
empty_sheet room = refl

-- a sheet without its last line feed is 15 at its last line
pub open_sheet : (room : ℕ) → written (asked P0138001) (sheet (zhd ∷ sub ∷ []) ++ turned bar tab (bytes ta2)) room ≡ Err (refusal 15 3 0 61)
unfolding written written_by asked usual flow_number holds records onto joined turned fields extent field_start place_at
open_sheet room = refl

-- a bar is 16 at its line, also in a last line that has no line feed
pub bar_sheet : (room : ℕ) → written (asked P0138001) (sheet (zhd ∷ []) ++ lines (sub ∷ ta2 ∷ [])) room ≡ Err (refusal 16 2 0 42)
unfolding written written_by asked usual flow_number holds records onto joined turned bar_line fields extent field_start place_at
bar_sheet room = refl

pub open_bar_sheet : (room : ℕ) → written (asked P0138001) (sheet (zhd ∷ []) ++ bytes sub) room ≡ Err (refusal 16 2 0 42)
unfolding written written_by asked usual flow_number holds records onto joined turned bar_line fields extent field_start place_at
open_bar_sheet room = refl

-- behind a right ZPT line the made footer is 5, at the sheet's length
bytes_by_lem : (s : List ℕ) → all (λ b. ltb b 256) s ≡ true → Bytes s
bytes_by_lem [] e i = omega arith
bytes_by_lem (b ∷ s) e zero = ltb-true b 256 (and_left (ltb b 256) (all (λ x. ltb x 256) s) e)
bytes_by_lem (b ∷ s) e (suc i) = bytes_by_lem s (and_right (ltb b 256) (all (λ x. ltb x 256) s) e) i

abbrev footed_sheet : List ℕ
footed_sheet = sheet (zhd ∷ sub ∷ ta2 ∷ "ZPT|4|812996689" ∷ [])

footed_lines : lines_judged (layout_for p0138) (records footed_sheet) ≡ Err (unplaced 5 5 1)
unfolding joined onto records fields field turned words add_record checksum minus unsigned plain int_form int_value dec_form dec_value spelled leap days_in is_day is_date is_time text_form form range value_of filled field_answer among find flow_number is_digit is_text field_fault fields_fault last_kind key_with key_before place_fault shape_fault key_fault footer_fault kind_fault fault checked_from lines_judged
footed_lines = refl

pub footed_sheet_lem : (room : ℕ) → written (asked P0138001) footed_sheet room ≡ Err (refusal 5 5 1 88)
unfolding written asked usual flow_number turned joined holds records onto place_at
footed_sheet_lem room =
    refused_is (layout_for p0138) footed_sheet (lit≤ tt) refl (held_proper 5).footer refl (bytes_by_lem footed_sheet refl) 5 5 1 room footed_lines
