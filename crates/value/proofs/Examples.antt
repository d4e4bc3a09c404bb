-- Values of document 01's example of a file, as one table under one theorem. Assumes nothing.
use Prim.Native.Nat.{ℕ}
use mathlib.Core.Path.{◌≡◌, refl}
use mathlib.Core.List.{List, [], ◌∷◌, map}
use lib.IntN.{pos}
use Rattle.text.specs.Characters.{bytes, is_digit, is_text}
use Rattle.record.specs.Records.{joined, onto, records, fields, field, extent, turned}
use Rattle.checksum.specs.Checksum.{words, add_record, checksum}
use Rattle.number.specs.Numbers.{minus, unsigned, plain, int_form, int_value, dec_form, dec_value, spelled}
use Rattle.number.specs.Calendar.{leap, days_in, is_day, is_date, is_time}
use Rattle.field.specs.Types.{text_form, form, range, value_of}
use Rattle.field.specs.Judge.{filled, field_answer}
use Rattle.place.specs.Places.{field_start, place_at}
use Rattle.layout.specs.Layout.{among, find}
use Rattle.flow.specs.Letters.{P0138001}
use Rattle.flow.specs.Flows.{flow_number}
use Rattle.flow.specs.Editions.{usual, asked}
use Rattle.fault.specs.Fields.{field_fault, fields_fault}
use Rattle.fault.specs.Record.{place_fault, shape_fault, key_fault, footer_fault, kind_fault}
use Rattle.judge.specs.Record.{last_kind, key_with, key_before, fault}
use Rattle.judge.specs.File.{checked_from, ended, judged_by}
use Rattle.value.specs.Value.{is_there, field_value, value_at, value_by, value_in, valued, Reply, refused, empty, number, text}

-- a record and a field that are asked of a file for P0138001, and what is answered
pub data Case : Type 0 where
  case : ℕ → ℕ → Reply → Case

pub given : List ℕ → List Case → List Reply
given f [] = []
given f (case n k r ∷ cs) = valued (asked P0138001) f n k ∷ given f cs

pub expected : List Case → List Reply
expected [] = []
expected (case n k r ∷ cs) = r ∷ expected cs

-- the example
pub example : List ℕ
example =
    joined (map bytes ("ZHD|P0138001|G|SVAA|Z|POOL|20240105120000" ∷ "SUB|B|||20231231|M" ∷ "TA2|1.0250" ∷ "ZPT|4|812996689" ∷ []))

pub table : List Case
table =
    -- a dec in units of its last place
    case 3 2 (number (pos 10250))
    -- a null field
    ∷ case 2 3 empty
    -- a kind, at the start of the file
    ∷ case 1 1 (text 0 3 (bytes "ZHD"))
    -- a text with a fixed value, behind the first record and a kind
    ∷ case 2 2 (text 46 47 (bytes "B"))
    -- a date, and the footer's count
    ∷ case 2 5 (number (pos 20231231))
    ∷ case 4 2 (number (pos 4))
    -- no such record, no such field
    ∷ case 5 1 (refused 18 5 1 88)
    ∷ case 0 1 (refused 18 0 1 0)
    ∷ case 3 0 (refused 18 3 0 61)
    ∷ case 3 3 (refused 18 3 3 61)
    ∷ []

-- each is answered as the papers say
pub value_cases : given example table ≡ expected table
unfolding given expected example table joined onto records fields field turned words add_record checksum minus unsigned plain int_form int_value dec_form dec_value spelled leap days_in is_day is_date is_time text_form form range value_of filled field_answer among find flow_number usual asked is_digit is_text field_fault fields_fault last_kind key_with key_before place_fault shape_fault key_fault footer_fault kind_fault fault checked_from ended judged_by is_there extent field_start place_at field_value value_at value_by value_in valued
value_cases = refl

-- of a refused file the reader's refusal, whatever is asked: the empty file is 14 at record 1
pub refused_file : valued (asked P0138001) [] 0 9 ≡ refused 14 1 0 0
unfolding flow_number usual asked records last_kind checked_from ended judged_by place_at value_by value_in valued
refused_file = refl
