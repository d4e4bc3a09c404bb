-- What one record comes to, by what the code keeps of those before it: a state, and slots with their last keys. Assumes nothing.
use Rattle.std.specs.Prelude.{ℕ, ◌+◌, ◌*◌, ◌≡◌, cond, List, [], ltb, leb, length, get_or, take, drop, Result, Ok, Err}
use Rattle.text.specs.Rules.{must}
use Rattle.record.specs.Records.{field, barred, IsPart}
use Rattle.checksum.specs.Checksum.{add_record}
use Rattle.layout.specs.Layout.{Rule, Layout, row}
use Rattle.fault.specs.Record.{kind_of, key_in, shape_fault, key_fault, footer_fault, kind_fault}
use Rattle.fault.specs.Fields.{Check, fine, fault, also}
use Rattle.fault.specs.declared.Fault.{Fault}
use Rattle.record.specs.declared.Span.{Span}
use Rattle.fault.specs.declared.State.{State}
use Rattle.fault.specs.declared.Passed.{Passed as Next}

-- three numbers for each kind: the record that had it last, and where its key starts in the file and how long it is.
-- A key counts where its record is later than the last one of the kind that heads its set
abbrev pub key_in_slots : Layout → List ℕ → List ℕ → ℕ → List ℕ
key_in_slots l file slots k =
    cond (ltb (get_or slots (3 * (row l k).head) 0) (get_or slots (3 * k) 0))
    (take (get_or slots (3 * k + 2) 0) (drop (get_or slots (3 * k + 1) 0) file))
    []

-- what the fields of a record come to by some rules: the first fault, or the place of field key
abbrev pub ShapeRight : ℕ → ℕ → List Rule → List ℕ → Result Span Fault → Type 0
ShapeRight sep key rules r (Err wrong) = shape_fault sep rules r ≡ Err wrong
ShapeRight sep key rules r (Ok p) = (shape_fault sep rules r ≡ fine) × IsPart r p.start p.end (field sep key r)

-- the state with one record more
abbrev pub next_state : ℕ → Layout → State → List ℕ → State
next_state sep l st r = record { count = st.count + 1; last = kind_of sep l r; sum = add_record st.sum (barred sep r) }

-- the faults 11, 12 and 13 of a record of kind k
unfoldable pub close_fault : ℕ → Layout → State → List ℕ → ℕ → List ℕ → Check
close_fault sep l st old k r = also (key_fault l k old (key_in sep l k r)) (footer_fault sep l st.count st.sum k r)

-- what a record of kind k comes to that no rule up to 10 refuses
abbrev pub ClosedRight : ℕ → Layout → State → List ℕ → ℕ → List ℕ → Result Next Fault → Type 0
ClosedRight sep l st old k r (Err wrong) = close_fault sep l st old k r ≡ Err wrong
ClosedRight sep l st old k r (Ok p) =
    (close_fault sep l st old k r ≡ fine)
    × (p.next ≡ record { count = st.count + 1; last = k; sum = add_record st.sum (barred sep r) })
    × IsPart r p.key.start p.key.end (key_in sep l k r)

-- the first fault of a record, by the state and the keys before it
unfoldable pub record_fault : ℕ → Layout → State → (ℕ → List ℕ) → List ℕ → Check
record_fault sep l st old r =
    must (leb (length r) 512) (fault 3 0)
    (kind_fault sep l st.count st.last st.sum (old (kind_of sep l r)) (kind_of sep l r) r)

-- a record passed: nothing is wrong with it, the next state, and the place of its key in it
pub record Passed (sep : ℕ) (l : Layout) (st : State) (old : ℕ → List ℕ) (r : List ℕ) (next : State) (from to : ℕ) : Type 0 where
  pub fine : record_fault sep l st old r ≡ fine
  pub state : next ≡ next_state sep l st r
  pub key : IsPart r from to (key_in sep l (kind_of sep l r) r)

-- what one record comes to
abbrev pub OutcomeRight : ℕ → Layout → State → (ℕ → List ℕ) → List ℕ → Result Next Fault → Type 0
OutcomeRight sep l st old r (Err wrong) = record_fault sep l st old r ≡ Err wrong
OutcomeRight sep l st old r (Ok p) = Passed sep l st old r p.next p.key.start p.key.end
