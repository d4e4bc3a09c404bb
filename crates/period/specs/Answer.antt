-- Is a period in a P0012 file (document 02, C-17). Assumes nothing.
use Rattle.std.specs.Prelude.{ℕ, Bool, false, cond, ◌&&◌, ◌||◌, Result, Ok, Err, List, [], ◌∷◌, eqb, leb, length}
use Rattle.text.specs.Characters.{from_to}
use Rattle.text.specs.Order.{same_bytes}
use Rattle.text.specs.Rules.{must}
use Rattle.record.specs.Records.{records, field, bar}
use Rattle.place.specs.declared.Refusal.{Refusal}
use Rattle.place.specs.Places.{refusal_at, whole}
use Rattle.number.specs.Numbers.{number}
use Rattle.field.specs.Types.{form, range}
use Rattle.field.specs.declared.FieldType.TheVariants as types
use Rattle.layout.specs.Layout.{Layout}
use Rattle.flow.specs.Letters.{GSP, GS2, P0012001}
use Rattle.flow.specs.Publication.{layout_for}
use Rattle.flow.specs.Editions.{Asked, a_flow, no_flow}
use Rattle.judge.specs.Record.{last_kind}
use Rattle.judge.specs.File.{unplaced, checked_from, ends_in_feed, ended, finish}
use Rattle.judge.specs.Right.{kind_in}
use Rattle.judge.specs.declared.Unplaced.{Unplaced}

-- the period that a field's bytes say; 0 where they have not the form and the range of one
unfoldable pub period_of : List ℕ → ℕ
period_of s = cond (form types.Period s && range types.Period s) (number s) 0

-- the kinds whose records have a period are GSP and GS2
abbrev pub has_a_period : List ℕ → Bool
has_a_period k = same_bytes GSP k || same_bytes GS2 k

-- the period of a GSP or GS2, its field 2; 0 for a record of another kind
unfoldable pub period_in : List ℕ → ℕ
period_in r = cond (has_a_period (kind_in r)) (period_of (field bar 2 r)) 0

-- reading stops at a GSP or GS2 whose period is the asked one or above
abbrev pub stops : ℕ → List ℕ → Bool
stops p r = leb p (period_in r)

-- there is a stop among some records
unfoldable pub some_stops : ℕ → List (List ℕ) → Bool
some_stops p [] = false
some_stops p (r ∷ rs) = stops p r || some_stops p rs

-- the records up to the first stop and with it; all where there is none
unfoldable pub up_to : ℕ → List (List ℕ) → List (List ℕ)
up_to p [] = []
up_to p (r ∷ rs) = r ∷ cond (stops p r) [] (up_to p rs)

-- one of some records is a GSP or GS2 with the asked period
unfoldable pub some_has : ℕ → List (List ℕ) → Bool
some_has p [] = false
some_has p (r ∷ rs) = eqb p (period_in r) || some_has p rs

-- behind the records read: with no stop before the end 14 or 15 as the reader would give them
abbrev pub at_end : Layout → List ℕ → ℕ → Result ℕ Unplaced
at_end l f p =
    cond (some_stops p (records f)) (Ok (length (up_to p (records f))))
    (ended l (length (records f)) (last_kind bar l (records f)) (ends_in_feed f))

-- by a layout: 2, then the first refusal of a record up to the stop and with it, then the end
unfoldable pub read_up_to : Layout → List ℕ → ℕ → Result ℕ Unplaced
read_up_to l f p =
    must (leb (length f) 1048576) (Err (unplaced 2 0 0))
    (finish (checked_from bar l [] (up_to p (records f))) (at_end l f p))

-- a refusal with its place in the file; where there is none, the answer
abbrev pub answered : List ℕ → Result ℕ Unplaced → Bool → Result Bool Refusal
answered f (Ok n) has = Ok has
answered f (Err r) has = Err (refusal_at bar f r.number r.«record» r.field)

-- by a layout: the refusals, then the answer by the records read
unfoldable pub has_by : Layout → List ℕ → ℕ → Result Bool Refusal
has_by l f p = answered f (read_up_to l f p) (some_has p (up_to p (records f)))

-- 18 for a period outside 1 to 50, then by a layout
abbrev pub in_range : Layout → List ℕ → ℕ → Result Bool Refusal
in_range l f p = must (from_to 1 50 p) (Err (whole 18)) (has_by l f p)

-- for what is asked: its own refusal, right behind it 22 for another flow than P0012001, then 18; both at record 0
unfoldable pub has_for : Asked → List ℕ → ℕ → Result Bool Refusal
has_for (a_flow fl) f p = must (same_bytes P0012001 fl.name) (Err (whole 22)) (in_range (layout_for fl) f p)
has_for (no_flow r) f p = Err r

-- the papers' answers: a refusal's number, record, field and place, or yes or no
pub data Reply : Type 0 where
  refused : ℕ → ℕ → ℕ → ℕ → Reply
  truth : Bool → Reply

-- what each case of the code's answer says in the papers' terms
abbrev pub paper : Result Bool Refusal → Reply
paper (Err r) = refused r.number r.«record» r.field r.place
paper (Ok b) = truth b

-- is a period in a file for what is asked
unfoldable pub has_period : Asked → List ℕ → ℕ → Reply
has_period a f p = paper (has_for a f p)
