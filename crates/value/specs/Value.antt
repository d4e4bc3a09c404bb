-- The value of one field of a file (document 01, "Bytes, records, fields" and refusal 18; document 02, C-12). Assumes nothing.
use Rattle.std.specs.Prelude.{ℕ, ◌+◌, ◌-◌, ◌≤◌, Bool, cond, ◌&&◌, Result, Ok, Err, List, eqb, ℤ, length, get_or, take, drop}
use Rattle.text.specs.Rules.{must}
use Rattle.text.specs.Characters.{from_to}
use Rattle.record.specs.Records.{records, fields, field, bar}
use Rattle.place.specs.declared.Refusal.{Refusal}
use Rattle.place.specs.Places.{record_at, place_at, refusal, refusal_at}
use Rattle.field.specs.Judge.{field_answer, number_of}
use Rattle.field.specs.declared.Content.{Content}
use Rattle.field.specs.declared.Content.TheVariants as contents
use Rattle.field.specs.declared.Wrong.{Wrong}
use Rattle.layout.specs.Layout.{Layout, Rule, no_rule, row}
use Rattle.flow.specs.Publication.{layout_for}
use Rattle.flow.specs.Editions.{Asked, a_flow, no_flow}
use Rattle.fault.specs.Record.{kind_of}
use Rattle.judge.specs.File.{placed_by}
use Rattle.value.specs.declared.Value.{Value}
use Rattle.value.specs.declared.Value.TheVariants.{Empty, Number, Truth, Text}

-- there is a record n with a field k, both counted from 1
unfoldable pub is_there : List ℕ → ℕ → ℕ → Bool
is_there f n k = from_to 1 (length (records f)) n && from_to 1 (length (fields bar (record_at f n))) k

-- where field k of record n ends in the file
abbrev pub end_of : List ℕ → ℕ → ℕ → ℕ
end_of f n k = place_at bar f n k + length (field bar k (record_at f n))

-- a text's value is its bytes: where they start and end in the file
abbrev pub text_at : List ℕ → ℕ → ℕ → Result Value Refusal
text_at f n k = Ok (Text (place_at bar f n k) (end_of f n k))

-- the rule of field k, counted from 1, in a record of kind j
abbrev pub rule_for : Layout → ℕ → ℕ → Rule
rule_for l j k = get_or (row l j).rules (k - 2) no_rule

-- the answer of a field's bytes by a rule
abbrev pub by_rule : Rule → List ℕ → Result Content Wrong
by_rule rule s = field_answer rule.type rule.mark s

-- an answer with its refusal as its number
abbrev pub numbered : Result Content Wrong → Result Content ℕ
numbered (Err wrong) = Err (number_of wrong)
numbered (Ok content) = Ok content

-- the answer of field k of record n, which stands from a place up to another, as a value
abbrev pub as_value : ℕ → ℕ → ℕ → ℕ → Result Content ℕ → Result Value Refusal
as_value n k from to (Err number) = Err (refusal number n k from)
as_value n k from to (Ok contents.Empty) = Ok Empty
as_value n k from to (Ok (contents.Number z)) = Ok (Number z)
as_value n k from to (Ok (contents.Truth b)) = Ok (Truth b)
as_value n k from to (Ok contents.Text) = Ok (Text from to)

-- the answer of field k of a record
abbrev pub answer_in : Layout → List ℕ → ℕ → Result Content Wrong
answer_in l r k = by_rule (rule_for l (kind_of bar l r) k) (field bar k r)

-- the value of a field that is there: a kind's is its bytes, any other's goes by its rule
unfoldable pub field_value : Layout → List ℕ → ℕ → ℕ → Result Value Refusal
field_value l f n k = cond (eqb k 1) (text_at f n k) (as_value n k (place_at bar f n k) (end_of f n k) (numbered (answer_in l (record_at f n) k)))

-- the reader's refusal; of an accepted file what comes after
abbrev pub of_accepted : Result ℕ Refusal → Result Value Refusal → Result Value Refusal
of_accepted (Ok n) after = after
of_accepted (Err r) after = Err r

-- of an accepted file 18 for no such record or field, with the numbers as asked, then the value
unfoldable pub value_at : Layout → List ℕ → ℕ → ℕ → Result Value Refusal
value_at l f n k = must (is_there f n k) (Err (refusal_at bar f 18 n k)) (field_value l f n k)

-- by a layout: the reader's refusals, then what follows of an accepted file
unfoldable pub value_by : Layout → List ℕ → ℕ → ℕ → Result Value Refusal
value_by l f n k = of_accepted (placed_by l f) (value_at l f n k)

-- for what is asked: the refusal of what is asked comes first
unfoldable pub value_in : Asked → List ℕ → ℕ → ℕ → Result Value Refusal
value_in (a_flow fl) f n k = value_by (layout_for fl) f n k
value_in (no_flow r) f n k = Err r

-- the papers' answers: a refusal's number, record, field and place, or a value; of a text its place and its bytes
pub data Reply : Type 0 where
  refused : ℕ → ℕ → ℕ → ℕ → Reply
  empty : Reply
  number : ℤ → Reply
  truth : Bool → Reply
  text : ℕ → ℕ → List ℕ → Reply

-- what each case of the code's answer says in the papers' terms
abbrev pub paper : List ℕ → Result Value Refusal → Reply
paper f (Err r) = refused r.number r.«record» r.field r.place
paper f (Ok Empty) = empty
paper f (Ok (Number z)) = number z
paper f (Ok (Truth b)) = truth b
paper f (Ok (Text from to)) = text from to (take (to - from) (drop from f))

-- the value of one field of a file for what is asked
unfoldable pub valued : Asked → List ℕ → ℕ → ℕ → Reply
valued a f n k = paper f (value_in a f n k)

-- what is promised besides: the place of a text is one within the file
abbrev pub TextWithin : List ℕ → Result Value Refusal → Type 0
TextWithin f (Err r) = Unit
TextWithin f (Ok Empty) = Unit
TextWithin f (Ok (Number z)) = Unit
TextWithin f (Ok (Truth b)) = Unit
TextWithin f (Ok (Text from to)) = (from ≤ to) × (to ≤ length f)
