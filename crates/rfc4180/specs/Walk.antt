-- The walk over a text by states, which the code follows; what it says of the grammar is proved. Assumes nothing.
use Rattle.std.specs.Prelude.{ℕ, ◌+◌, ◌≡◌, Bool, true, false, cond, List, [], ◌∷◌, ◌++◌, eqb, length, Result, Ok, Err}
use Rattle.sheet.specs.Sheets.{tab}
use Rattle.rfc4180.specs.Rfc.{comma, quote, return, feed, textdata}
use Rattle.rfc4180.specs.declared.State.{State}
use Rattle.rfc4180.specs.declared.State.TheVariants.{AtLine, AtField, Plain, InQuotes, AfterQuote, AfterReturn, Stopped}
use Rattle.rfc4180.specs.declared.Through.{Through}
use Rattle.rfc4180.specs.declared.Halt.{Halt}

-- where the walk stands: at the start of a line, in quotes, after a quotation mark in quotes; or it has stopped
abbrev pub at_line : State → Bool
at_line AtLine = true
at_line st = false

abbrev pub in_quotes : State → Bool
in_quotes InQuotes = true
in_quotes st = false

abbrev pub after_quote : State → Bool
after_quote AfterQuote = true
after_quote st = false

abbrev pub stopped : State → Bool
stopped Stopped = true
stopped st = false

-- after a byte that ends a field
abbrev pub parting : ℕ → State
parting b = cond (eqb b comma) AtField (cond (eqb b return) AfterReturn Stopped)

-- after a byte in a field without quotes
abbrev pub going : ℕ → State
going b = cond (textdata b) Plain (parting b)

-- after the first byte of a field
abbrev pub opening : ℕ → State
opening b = cond (eqb b quote) InQuotes (going b)

-- after a byte in quotes
abbrev pub inside : ℕ → State
inside b = cond (eqb b quote) AfterQuote (cond (eqb b comma) InQuotes (cond (textdata b) InQuotes Stopped))

-- after a byte behind a quotation mark in quotes: a second one stands for one, else the field has ended
abbrev pub behind : ℕ → State
behind b = cond (eqb b quote) InQuotes (parting b)

-- where a byte leads
unfoldable pub next_of : State → ℕ → State
next_of AtLine b = opening b
next_of AtField b = opening b
next_of Plain b = going b
next_of InQuotes b = inside b
next_of AfterQuote b = behind b
next_of AfterReturn b = cond (eqb b feed) AtLine Stopped
next_of Stopped b = Stopped

-- the number of a state
abbrev pub number_of : State → ℕ
number_of AtLine = 0
number_of AtField = 1
number_of Plain = 2
number_of InQuotes = 3
number_of AfterQuote = 4
number_of AfterReturn = 5
number_of Stopped = 6

-- the state of a number: one past the last stands at the start of a field, as 1 does
abbrev pub state_of : ℕ → State
state_of n =
    cond (eqb n 0) AtLine
    (cond (eqb n 2) Plain
    (cond (eqb n 3) InQuotes
    (cond (eqb n 4) AfterQuote
    (cond (eqb n 5) AfterReturn
    (cond (eqb n 6) Stopped AtField)))))

-- where a byte leads, by the numbers of the states
abbrev pub next_number : ℕ → ℕ → ℕ
next_number n b = number_of (next_of (state_of n) b)

-- a byte that stands in the sheet: no CR, and no quotation mark but a doubled one's second
abbrev pub keeps : State → ℕ → Bool
keeps st b = cond (eqb b return) false (cond (eqb b quote) (after_quote st) true)

-- a comma that is not in quotes is a tab there
abbrev pub turned_of : State → ℕ → ℕ
turned_of st b = cond (eqb b comma) (cond (in_quotes st) b tab) b

unfoldable pub given_of : State → ℕ → List ℕ
given_of st b = cond (keeps st b) (turned_of st b ∷ []) []

-- one where a line has ended
abbrev pub ended_of : State → ℕ
ended_of st = cond (at_line st) 1 0

-- a text may end here
abbrev pub may_end : State → Bool
may_end InQuotes = false
may_end AfterReturn = false
may_end st = true

-- the line where the walk stops, n lines being behind; 0 where it goes through
unfoldable pub stop_at : State → ℕ → List ℕ → ℕ
stop_at st n [] = cond (may_end st) 0 (n + 1)
stop_at st n (b ∷ s) = cond (stopped (next_of st b)) (n + 1) (stop_at (next_of st b) (n + ended_of (next_of st b)) s)

-- the sheet's bytes from here on; the last line feed is added where the last CR LF is absent
unfoldable pub sheet_from : State → List ℕ → List ℕ
sheet_from st [] = cond (at_line st) [] (feed ∷ [])
sheet_from st (b ∷ s) = given_of st b ++ sheet_from (next_of st b) s

-- how many lines end from here on
unfoldable pub lines_from : State → List ℕ → ℕ
lines_from st [] = cond (at_line st) 0 1
lines_from st (b ∷ s) = ended_of (next_of st b) + lines_from (next_of st b) s

-- a text looked through: the line where the walk stops, or the lines and the bytes of its sheet
abbrev pub Scanned : List ℕ → Result Through Halt → Type 0
Scanned text (Err h) = (h.line ≡ stop_at AtLine 0 text) × (h.line ≡ 0 → ⊥)
Scanned text (Ok t) = (stop_at AtLine 0 text ≡ 0) × (t.lines ≡ lines_from AtLine text) × (t.bytes ≡ length (sheet_from AtLine text))
