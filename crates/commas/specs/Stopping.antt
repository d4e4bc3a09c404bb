-- Which byte stops the reading of a line, and why (document 02, C-15). Assumes nothing.
use Rattle.std.specs.Prelude.{ℕ, ◌+◌, Bool, true, false, cond, ◌||◌, List, [], ◌∷◌, eqb, drop, Option, Some, None}
use Rattle.text.specs.Characters.{from_to}
use Rattle.sheet.specs.Sheets.{tab}
use Rattle.rfc4180.specs.Rfc.{quote, return, feed}
use Rattle.rfc4180.specs.declared.State.{State}
use Rattle.rfc4180.specs.declared.State.TheVariants.{AtLine, AtField, InQuotes, AfterReturn}
use Rattle.rfc4180.specs.Walk.{in_quotes, stopped, next_of}
use Rattle.commas.specs.declared.stop.Fault.{Fault}
use Rattle.commas.specs.declared.stop.Fault.TheVariants.{Tab, Feed, Return, Foreign, Inside, Behind, Open}
use Rattle.commas.specs.declared.stop.Stop.{Stop}

-- a fault, and the place of the byte that has it
abbrev pub fault_at : Fault → ℕ → Stop
fault_at fault at = record { fault = fault; at = at }

-- a byte that breaks a line
unfoldable pub is_break : ℕ → Bool
is_break b = eqb b return || eqb b feed

-- the fault of a byte that stops the walk and breaks no line: a quotation mark does so only inside a field without quotes, and one of
-- bytes 32 to 126 only behind a closing quotation mark
unfoldable pub fault_of : ℕ → Fault
fault_of b = cond (eqb b tab) Tab (cond (eqb b quote) Inside (cond (from_to 32 126 b) Behind Foreign))

-- the walk stands where a field starts; after a CR
abbrev pub opens : State → Bool
opens AtLine = true
opens AtField = true
opens st = false

abbrev pub after_return : State → Bool
after_return AfterReturn = true
after_return st = false

-- byte b at i stops the walk: where it stood behind a CR, that CR is at fault; where a line breaks in quotes, the mark that opened
-- them; else the byte itself
unfoldable pub stop_by : State → ℕ → ℕ → ℕ → Stop
stop_by st b i mark =
    cond (after_return st) (fault_at Return mark)
    (cond (is_break b) (cond (in_quotes st) (fault_at Open mark) (fault_at Feed i))
    (fault_at (fault_of b) i))

-- the text ends
unfoldable pub stop_end : State → ℕ → Option Stop
stop_end AfterReturn mark = Some (fault_at Return mark)
stop_end InQuotes mark = Some (fault_at Open mark)
stop_end st mark = None

-- the place of the last byte that began a field, or was the CR of a line's end
abbrev pub mark_of : State → State → ℕ → ℕ → ℕ
mark_of st next i mark = cond (opens st) i (cond (after_return next) i mark)

-- what stops the walk from here on
unfoldable pub stop_from : State → ℕ → ℕ → List ℕ → Option Stop
stop_from st i mark [] = stop_end st mark
stop_from st i mark (b ∷ s) =
    cond (stopped (next_of st b)) (Some (stop_by st b i mark))
    (stop_from (next_of st b) (i + 1) (mark_of st (next_of st b) i mark) s)

-- what stops the reading of a text from the start of a line on
unfoldable pub stop_in : List ℕ → ℕ → Option Stop
stop_in text from = stop_from AtLine from from (drop from text)
