-- The papers' answers as one table under one theorem: each refusal, each pair of neighbours in the order, the limits, the sheets,
-- the steps, of each flow every field, and what document 02 asks. Where a definition and the code behind it misread a paper alike, the proofs
-- of the other crates hold and this one fails. Assumes nothing.
use mathlib.Core.Path.{refl}
use mathlib.Core.List.{List, ◌++◌}
use Rattle.text.specs.Characters.{is_digit, is_text}
use Rattle.record.specs.Records.{joined, onto, records, fields, field, extent, turned, holds}
use Rattle.checksum.specs.Checksum.{words, add_record, checksum, checksum_of}
use Rattle.number.specs.Numbers.{minus, unsigned, plain, int_form, int_value, dec_form, dec_value, spelled, decimal_in, decimal}
use Rattle.number.specs.Calendar.{leap, days_in, is_day, is_date, is_time}
use Rattle.field.specs.Types.{text_form, bol_form, period_range, form, range, value_of, width_right}
use Rattle.field.specs.Judge.{filled, field_answer, judged_as, field_judged}
use Rattle.field.specs.Keys.{key_order}
use Rattle.text.specs.Order.{number_order, text_order}
use Rattle.number.specs.Order.{digits_order, whole_order}
use Rattle.place.specs.Places.{field_start, place_at}
use Rattle.layout.specs.Layout.{among, find}
use Rattle.flow.specs.Flows.{flow_number}
use Rattle.flow.specs.Editions.{usual, asked}
use Rattle.flow.specs.ByTable.{followers_from}
use Rattle.flow.specs.Step.{kinds_in}
use Rattle.flow.proofs.Stepped.{stepped}
use Rattle.fault.specs.Fields.{field_fault, fields_fault}
use Rattle.fault.specs.Record.{place_fault, shape_fault, key_fault, footer_fault, kind_fault}
use Rattle.judge.specs.Record.{last_kind, key_with, key_before, fault}
use Rattle.judge.specs.File.{checked_from, ended, judged_by, judged_for, judged}
use Rattle.value.specs.Value.{is_there, field_value, value_at, value_by, value_in, valued}
use Rattle.sheet.specs.Sheets.{footer, made, bar_line, but_last, parted, sheet_of}
use Rattle.sheet.specs.Write.{written_by, written}
use Rattle.sheet.specs.Read.{read_to}
use Rattle.rfc4180.specs.Rfc.{textdata}
use Rattle.rfc4180.specs.Walk.{next_of, given_of, stop_at, lines_from, sheet_from}
use Rattle.csv_text.specs.Export.{doubled, field_of, text_of, export_of, exported}
use Rattle.csv_text.proofs.Computed.{computed_through, computed as imported}
use Rattle.index.specs.Entries.{kinds_by, some_is, may_head, heads_in, last_of, parent_of, children_from, parent_entry, entries_from, indexed_by, list_by, indexed, listed}
use Rattle.period.specs.Answer.{period_of, period_in, some_stops, up_to, some_has, read_up_to, has_by, has_for, has_period}
use Rattle.answers.proofs.Cases.{copies, Case, given, expected, Right, both_right, bytes_before, behind}
use Rattle.answers.proofs.Refusals.{refusals, neighbours}
use Rattle.answers.proofs.Steps.{steps}
use Rattle.answers.proofs.Limits.{limits, limits_right}
use Rattle.answers.proofs.Sheets.{sheets, sheets_right}
use Rattle.answers.proofs.P0012.{p0012}
use Rattle.answers.proofs.P0181.{p0181}
use Rattle.answers.proofs.P0133.{p0133}
use Rattle.answers.proofs.P0134.{p0134}
use Rattle.answers.proofs.P0138.{p0138}
use Rattle.answers.proofs.P0164.{p0164}
use Rattle.answers.proofs.SameDate.{same_date}
use Rattle.answers.proofs.PointAt.{point_at}
use Rattle.answers.proofs.BesideFile.{lent, beside_file}
use Rattle.answers.proofs.MonthEnds.{month_ends}
use Rattle.answers.proofs.CommaText.{comma_text}
use Rattle.answers.proofs.NewerSubject.{newer_subject}
use Rattle.answers.proofs.StopEarly.{stop_early}

-- the cases that are computed; where they fail, fewer of them at a time show which
unfoldable pub computed : List Case
computed = refusals ++ neighbours ++ steps ++ p0012 ++ p0181 ++ p0133 ++ p0134 ++ p0138 ++ p0164 ++ same_date ++ point_at ++ beside_file ++ month_ends ++ comma_text ++ newer_subject ++ stop_early

computed_right : Right computed
unfolding computed refusals neighbours steps p0012 p0181 p0133 p0134 p0138 p0164 same_date point_at beside_file month_ends comma_text newer_subject stop_early lent copies given expected bytes_before behind joined onto records fields field extent turned holds words add_record checksum checksum_of minus unsigned plain int_form int_value dec_form dec_value spelled decimal_in decimal leap days_in is_day is_date is_time text_form bol_form period_range form range value_of width_right filled field_answer judged_as field_judged key_order number_order text_order digits_order whole_order among find flow_number is_digit is_text field_fault fields_fault last_kind key_with key_before place_fault shape_fault key_fault footer_fault kind_fault fault checked_from ended judged_by asked usual judged_for field_start place_at judged is_there field_value value_at value_by value_in valued footer made bar_line but_last sheet_of written_by written read_to kinds_in followers_from stepped kinds_by some_is may_head heads_in last_of parent_of children_from parent_entry entries_from indexed_by list_by indexed listed parted textdata next_of given_of stop_at lines_from sheet_from doubled field_of text_of export_of exported computed_through imported period_of period_in some_stops up_to some_has read_up_to has_by has_for has_period
computed_right = refl

unfoldable pub table : List Case
table = limits ++ sheets ++ computed

-- each is answered as the papers say
pub answers_right : Right table
unfolding table
answers_right = both_right (limits ++ sheets) computed (both_right limits sheets limits_right sheets_right) computed_right
