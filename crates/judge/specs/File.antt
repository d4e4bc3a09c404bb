-- What is said of a whole file (document 01, "Refusal numbers"). Assumes nothing.
use Rattle.std.specs.Prelude.{ℕ, ◌+◌, ◌-◌, Bool, not, ◌||◌, List, [], ◌∷◌, ◌++◌, eqb, leb, length, get_or, Result, Ok, Err}
use Rattle.text.specs.Rules.{must}
use Rattle.record.specs.Records.{records, bar}
use Rattle.place.specs.Places.{refusal_at}
use Rattle.layout.specs.Layout.{Layout, is_footer}
use Rattle.flow.specs.Publication.{layout_for}
use Rattle.flow.specs.Editions.{Asked, a_flow, no_flow}
use Rattle.judge.specs.Record.{last_kind, fault}
use Rattle.fault.specs.Fields.{Check}
use Rattle.place.specs.declared.Refusal.{Refusal}
use Rattle.judge.specs.declared.Unplaced.{Unplaced}

-- a refusal by its number, record and field, its place not yet looked up
abbrev pub unplaced : ℕ → ℕ → ℕ → Unplaced
unplaced number n f = record { number = number; «record» = n; field = f }

-- a fault at record n is a refusal, and without one something more is said
abbrev pub at_record : ℕ → Check → Result ℕ Unplaced → Result ℕ Unplaced
at_record n (Ok nothing) later = later
at_record n (Err x) later = Err (unplaced x.number n x.field)

-- each record in turn, those before it passed: the first fault, or that there is none in so many records
unfoldable pub checked_from : ℕ → Layout → List (List ℕ) → List (List ℕ) → Result ℕ Unplaced
checked_from sep l before [] = Ok (length before)
checked_from sep l before (r ∷ rs) = at_record (length before + 1) (fault sep l before r) (checked_from sep l (before ++ r ∷ []) rs)

-- the last byte is a line feed
abbrev pub ends_in_feed : List ℕ → Bool
ends_in_feed f = eqb (get_or f (length f - 1) 0) 0x0A

-- after n records, the last of kind last: 14 where they end before ZPT, 15 where the last line feed is absent and needed
unfoldable pub ended : Layout → ℕ → ℕ → Bool → Result ℕ Unplaced
ended l n last feed =
    must (is_footer l last) (Err (unplaced 14 (n + 1) 0))
    (must (not l.feed || feed) (Err (unplaced 15 n 0))
    (Ok n))

-- where no record is refused, what is said at the end
abbrev pub finish : Result ℕ Unplaced → Result ℕ Unplaced → Result ℕ Unplaced
finish (Ok n) end = end
finish (Err r) end = Err r

-- a file by a layout: 2 for one over its limit, then the records, then the end
unfoldable pub judged_by : Layout → List ℕ → Result ℕ Unplaced
judged_by l f =
    must (leb (length f) 1048576) (Err (unplaced 2 0 0))
    (finish (checked_from bar l [] (records f)) (ended l (length (records f)) (last_kind bar l (records f)) (ends_in_feed f)))

-- a verdict with its refusal's place in the bytes that were handed over, their fields parted by sep
abbrev pub with_place : ℕ → List ℕ → Result ℕ Unplaced → Result ℕ Refusal
with_place sep s (Ok n) = Ok n
with_place sep s (Err r) = Err (refusal_at sep s r.number r.«record» r.field)

-- a file by a layout, with its refusal's place
abbrev pub placed_by : Layout → List ℕ → Result ℕ Refusal
placed_by l f = with_place bar f (judged_by l f)

-- a file for what is asked: the refusal of what is asked comes first, and points at no byte of the file
unfoldable pub judged_for : Asked → List ℕ → Result ℕ Refusal
judged_for (a_flow fl) f = placed_by (layout_for fl) f
judged_for (no_flow r) f = Err r

-- the papers' answers: an acceptance gives the number of records, a refusal its number, record, field and place
pub data Reply : Type 0 where
  accepted : ℕ → Reply
  refused : ℕ → ℕ → ℕ → ℕ → Reply

-- what each case of the code's answer says in the papers' terms
abbrev pub paper : Result ℕ Refusal → Reply
paper (Ok n) = accepted n
paper (Err r) = refused r.number r.«record» r.field r.place

-- judge a file for what is asked
unfoldable pub judged : Asked → List ℕ → Reply
judged a f = paper (judged_for a f)
