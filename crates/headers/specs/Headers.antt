-- What the header of a case in a stream says: the form of each case, and what can be wrong with it. Assumes nothing.
use Rattle.std.specs.Prelude.{ℕ, ◌-◌, cond, not, Option, Some, None, Result, Ok, Err, List, eqb, length}
use Rattle.text.specs.Characters.{bytes}
use Rattle.text.specs.Rules.{must}
use Rattle.text.specs.Order.{same_bytes}
use Rattle.record.specs.Records.{fields, field}
use Rattle.field.specs.declared.FieldType.{FieldType}
use Rattle.field.specs.declared.Mark.{Mark}
use Rattle.words.specs.Spelling.{number_of, form_of, mark_of, ends_in}
use Rattle.headers.specs.declared.Ask.{Ask}
use Rattle.headers.specs.declared.Ask.TheVariants as asks
use Rattle.headers.specs.declared.Making.{Making}
use Rattle.headers.specs.declared.Making.TheVariants.{Write, Read, Export, Import}
use Rattle.headers.specs.declared.Fault.{Fault}
use Rattle.headers.specs.declared.Fault.TheVariants as faults
use Rattle.headers.specs.declared.Case.{Case}

-- word k of a header, counted from 1: its words are parted by tabs
abbrev pub word_of : ℕ → List ℕ → List ℕ
word_of k h = field 0x09 k h

-- a number in a word, of at most ten digits and up to a limit; or the fault of that word
abbrev pub number_in : Option ℕ → Fault → (ℕ → Result Case Fault) → Result Case Fault
number_in (Some n) fault after = after n
number_in None fault after = Err fault

-- LENGTH, FIXED and ROOM for bytes; RECORD, FIELD and PERIOD; ROOM for entries
abbrev pub length_in : List ℕ → Option ℕ
length_in s = number_of 10 1114112 s

abbrev pub asked_in : List ℕ → Option ℕ
asked_in s = number_of 10 1000000000 s

abbrev pub entries_in : List ℕ → Option ℕ
entries_in s = number_of 10 8192 s

-- not as many words as the case has
abbrev pub wrong_words : ℕ → List ℕ → Result Case Fault
wrong_words right h = Err (faults.Words right (length (fields 0x09 h)))

-- a header of so many words
abbrev pub of_words : ℕ → List ℕ → Result Case Fault → Result Case Fault
of_words right h after = must (eqb (length (fields 0x09 h)) right) (wrong_words right h) after

-- a case whose last word is the body's length
abbrev pub case_of : Ask → ℕ → List ℕ → Result Case Fault
case_of ask fixed last = number_in (length_in last) faults.Length (λ n. Ok (record { ask = ask; fixed = fixed; length = n }))

-- NAME LENGTH, or NAME FLOW LENGTH
unfoldable pub plain_of : Ask → ℕ → List ℕ → Result Case Fault
plain_of ask right h = of_words right h (case_of ask 0 (word_of right h))

-- value FLOW RECORD FIELD LENGTH
unfoldable pub value_of : List ℕ → Result Case Fault
value_of h =
    of_words 5 h
    (number_in (asked_in (word_of 3 h)) faults.Record
    (λ n. number_in (asked_in (word_of 4 h)) faults.Field
    (λ k. case_of (asks.Value n k) 0 (word_of 5 h))))

-- period FLOW PERIOD LENGTH
unfoldable pub period_of : List ℕ → Result Case Fault
period_of h = of_words 4 h (number_in (asked_in (word_of 3 h)) faults.Period (λ p. case_of (asks.Period p) 0 (word_of 4 h)))

-- NAME FLOW ROOM LENGTH, or NAME ROOM LENGTH
unfoldable pub making_of : Making → ℕ → List ℕ → Result Case Fault
making_of making right h =
    of_words right h
    (number_in (length_in (word_of (right - 1) h)) faults.Room
    (λ room. case_of (asks.Make making room) 0 (word_of right h)))

-- index FLOW ROOM LENGTH
unfoldable pub index_of : List ℕ → Result Case Fault
index_of h = of_words 4 h (number_in (entries_in (word_of 3 h)) faults.Entries (λ room. case_of (asks.Index room) 0 (word_of 4 h)))

-- the mark of a field, the length of its fixed value, and that of its body
abbrev pub mark_in : FieldType → List ℕ → Option Mark → Result Case Fault
mark_in form h (Some mark) = number_in (length_in (word_of 4 h)) faults.Fixed (λ fixed. case_of (asks.Field form mark) fixed (word_of 5 h))
mark_in form h None = Err faults.Mark

abbrev pub form_in : List ℕ → Option FieldType → Result Case Fault
form_in h (Some form) = mark_in form h (mark_of (word_of 3 h))
form_in h None = Err faults.Type

-- field TYPE MARK FIXED LENGTH
unfoldable pub field_of : List ℕ → Result Case Fault
field_of h = of_words 5 h (form_in h (form_of (word_of 2 h)))

-- by the first word: the cases in whose room something is made
unfoldable pub room_named : List ℕ → List ℕ → Result Case Fault
room_named name h =
    cond (same_bytes name (bytes "write")) (making_of Write 4 h)
    (cond (same_bytes name (bytes "read")) (making_of Read 4 h)
    (cond (same_bytes name (bytes "export")) (making_of Export 4 h)
    (cond (same_bytes name (bytes "import")) (making_of Import 3 h)
    (cond (same_bytes name (bytes "index")) (index_of h)
    (Err faults.NoCase)))))

-- all cases
unfoldable pub case_named : List ℕ → List ℕ → Result Case Fault
case_named name h =
    cond (same_bytes name (bytes "judge")) (plain_of asks.Judge 3 h)
    (cond (same_bytes name (bytes "value")) (value_of h)
    (cond (same_bytes name (bytes "field")) (field_of h)
    (cond (same_bytes name (bytes "sum")) (plain_of asks.Sum 2 h)
    (cond (same_bytes name (bytes "step")) (plain_of asks.Step 3 h)
    (cond (same_bytes name (bytes "period")) (period_of h)
    (room_named name h))))))

-- a header: a carriage return at its end is named first, since it does not show
unfoldable pub header_of : List ℕ → Result Case Fault
header_of h = must (not (ends_in 0x0D h)) (Err faults.CarriageReturn) (case_named (word_of 1 h) h)
