-- Document 01's cases marked P, of files and of fields, as one table under one theorem. Assumes nothing.
use Prim.Native.Nat.{ℕ}
use Prim.Native.String.{String}
use mathlib.Core.Path.{◌≡◌, refl}
use lib.IntN.{pos}
use mathlib.Core.List.{List, [], ◌∷◌, ◌++◌, map}
use lib.ListN.{length}
use Rattle.text.specs.Characters.{bytes, is_digit, is_text}
use Rattle.record.specs.Records.{joined, onto, records, fields, field, extent, turned}
use Rattle.checksum.specs.Checksum.{words, add_record, checksum}
use Rattle.number.specs.Numbers.{minus, unsigned, plain, int_form, int_value, dec_form, dec_value, spelled}
use Rattle.number.specs.Calendar.{leap, days_in, is_day, is_date, is_time}
use Rattle.field.specs.Types.{text_form, period_range, form, range, value_of, width_right}
use Rattle.field.specs.Judge.{bare, filled, field_answer, judged_as, field_judged, Reply as FieldReply, refused as refused_as, number}
use Rattle.field.specs.declared.FieldType.{FieldType}
use Rattle.field.specs.declared.FieldType.TheVariants.{Text, Int, Dec, Date}
use Rattle.place.specs.Places.{field_start, place_at}
use Rattle.layout.specs.Layout.{among, find}
use Rattle.flow.specs.Letters.{P0012001, P0133001, P0138001}
use Rattle.flow.specs.Flows.{flow_number}
use Rattle.flow.specs.Editions.{usual, asked}
use Rattle.fault.specs.Fields.{field_fault, fields_fault}
use Rattle.fault.specs.Record.{place_fault, shape_fault, key_fault, footer_fault, kind_fault}
use Rattle.judge.specs.Record.{last_kind, key_with, key_before, fault}
use Rattle.judge.specs.File.{checked_from, ended, judged_by, judged_for, judged, Reply, accepted, refused}

-- lines with a line feed after each
abbrev lines : List String → List ℕ
lines ls = joined (map bytes ls)

-- what is said of a file's bytes, of a file, or of a field
pub data Said : Type 0 where
  of_bytes : ℕ → Said
  of_file : Reply → Said
  of_field : FieldReply → Said

-- how many bytes a file has, a file for a flow, or a field of a type, and what document 01 says of it
pub data Case : Type 0 where
  size : List ℕ → ℕ → Case
  file : List ℕ → List ℕ → Reply → Case
  a_field : FieldType → String → FieldReply → Case

pub given : List Case → List Said
given [] = []
given (size f n ∷ cs) = of_bytes (length f) ∷ given cs
given (file flow f r ∷ cs) = of_file (judged (asked flow) f) ∷ given cs
given (a_field t s r ∷ cs) = of_field (field_judged t bare (bytes s)) ∷ given cs

pub expected : List Case → List Said
expected [] = []
expected (size f n ∷ cs) = of_bytes n ∷ expected cs
expected (file flow f r ∷ cs) = of_file r ∷ expected cs
expected (a_field t s r ∷ cs) = of_field r ∷ expected cs

-- the header of the example
abbrev head : String
head = "ZHD|P0138001|G|SVAA|Z|POOL|20240105120000"

pub table : List Case
table =
    -- the example has 88 bytes, and is accepted
    size (lines (head ∷ "SUB|B|||20231231|M" ∷ "TA2|1.0250" ∷ "ZPT|4|812996689" ∷ [])) 88
    ∷ file P0138001 (lines (head ∷ "SUB|B|||20231231|M" ∷ "TA2|1.0250" ∷ "ZPT|4|812996689" ∷ [])) (accepted 4)
    -- its last line feed cut off
    ∷ file P0138001 (lines (head ∷ "SUB|B|||20231231|M" ∷ "TA2|1.0250" ∷ []) ++ bytes "ZPT|4|812996689") (accepted 4)
    -- checksum 812996688
    ∷ file P0138001 (lines (head ∷ "SUB|B|||20231231|M" ∷ "TA2|1.0250" ∷ "ZPT|4|812996688" ∷ [])) (refused 13 4 3 78)
    -- count 5
    ∷ file P0138001 (lines (head ∷ "SUB|B|||20231231|M" ∷ "TA2|1.0250" ∷ "ZPT|5|812996689" ∷ [])) (refused 12 4 2 76)
    -- TA2 line removed
    ∷ file P0138001 (lines (head ∷ "SUB|B|||20231231|M" ∷ "ZPT|4|812996689" ∷ [])) (refused 5 3 1 61)
    -- NULL in SUB field 3
    ∷ file P0138001 (lines (head ∷ "SUB|B|NULL||20231231|M" ∷ "TA2|1.0250" ∷ "ZPT|4|812996689" ∷ [])) (refused 10 2 3 48)
    -- int(2)
    ∷ a_field (Int 2) "99" (number (pos 99))
    ∷ a_field (Int 2) "100" (refused_as 9 0 0 0)
    ∷ a_field (Int 2) "07" (refused_as 8 0 0 0)
    ∷ a_field (Int 2) "-0" (refused_as 8 0 0 0)
    -- dec(4,1)
    ∷ a_field (Dec 4 1) "999.9" (number (pos 9999))
    ∷ a_field (Dec 4 1) "1000.0" (refused_as 9 0 0 0)
    ∷ a_field (Dec 4 1) "5" (refused_as 8 0 0 0)
    ∷ a_field (Dec 4 1) "5.00" (refused_as 8 0 0 0)
    -- text(2)
    ∷ a_field (Text 2) "A " (refused_as 8 0 0 0)
    -- date
    ∷ a_field Date "20000229" (number (pos 20000229))
    ∷ a_field Date "19000229" (refused_as 9 0 0 0)
    ∷ a_field Date "2024229" (refused_as 8 0 0 0)
    -- P0133: ZHD then ZPT alone
    ∷ file P0133001 (lines ("ZHD|P0133001|Z|SVAA|Z|POOL|20240105120000" ∷ "ZPT|2|89220381" ∷ [])) (accepted 2)
    -- and so in each edition (document 02, C-16)
    ∷ file (bytes "P0133001 533") (lines ("ZHD|P0133001|Z|SVAA|Z|POOL|20240105120000" ∷ "ZPT|2|89220381" ∷ [])) (accepted 2)
    ∷ file (bytes "P0133001 711") (lines ("ZHD|P0133001|Z|SVAA|Z|POOL|20240105120000" ∷ "ZPT|2|89220381" ∷ [])) (accepted 2)
    -- P0012: GSP followed by GS2
    ∷ file P0012001 (lines ("ZHD|P0012001|G|SVAA|Z|POOL|20240105120000" ∷ "ZPD|20240105|||1|SF" ∷ "HDR|1|_A|1" ∷ "GSP|1|1|1.0000" ∷ "GS2|2|0|1.0000" ∷ [])) (refused 5 5 1 88)
    ∷ []

-- each is judged as document 01 says
pub p_cases : given table ≡ expected table
unfolding given expected table joined onto records fields field extent turned words add_record checksum minus unsigned plain int_form int_value dec_form dec_value spelled leap days_in is_day is_date is_time text_form period_range form range value_of width_right filled field_answer judged_as field_judged among find flow_number is_digit is_text field_fault fields_fault last_kind key_with key_before place_fault shape_fault key_fault footer_fault kind_fault fault checked_from ended judged_by asked usual judged_for field_start place_at judged
p_cases = refl
