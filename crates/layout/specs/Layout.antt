-- What a flow asks of its records: kinds, followers, fields, keys, and the last line feed. No flow is named here. Assumes nothing.
use Rattle.std.specs.Prelude.{ℕ, ◌-◌, ◌^◌, ◌/◌, ◌%◌, Bool, false, ◌&&◌, List, [], map, eqb, leb, length, get_or, drop}
use Rattle.text.specs.Characters.{from_to}
use Rattle.text.specs.Places.{place_of}
use Rattle.field.specs.Judge.{Marked, bare}
use Rattle.field.specs.declared.FieldType.{FieldType}
use Rattle.field.specs.declared.FieldType.TheVariants as types

-- the rule of one field: its type, and what stands beside it
pub record Rule : Type 0 where
  pub type : FieldType
  pub mark : Marked

-- no rule at all: null
abbrev pub no_rule : Rule
no_rule = record { type = types.Null; mark = bare }

-- a kind: its three bytes, the kinds that may follow it (as a set), the rules of its fields from 2 on,
-- its key field (0: no key), may a key be equal to the one before, and the kind that heads the set in which it stands, where its key
-- starts anew (0: none, and a key runs through the file)
pub record KindRow : Type 0 where
  pub name : List ℕ
  pub next : ℕ
  pub rules : List Rule
  pub key : ℕ
  pub repeats : Bool
  pub head : ℕ

-- row 0 is the file's start, kinds count from 1, and the last kind is the footer; is the footer's line feed needed?
pub record Layout : Type 0 where
  pub rows : List KindRow
  pub feed : Bool

-- no kind at all
abbrev pub blank : KindRow
blank = record { name = []; next = 0; rules = []; key = 0; repeats = false; head = 0 }

-- row k, or no kind at all
abbrev pub row : Layout → ℕ → KindRow
row l k = get_or l.rows k blank

-- kind k is in a set: a set is a number, and kind k its bit k-1
unfoldable pub among : ℕ → ℕ → Bool
among k set = from_to 1 32 k && eqb (set / 2 ^ (k - 1) % 2) 1

-- kind k may follow kind last (0: may come first)
abbrev pub may_follow : Layout → ℕ → ℕ → Bool
may_follow l last k = among k (row l last).next

-- the names of some rows
abbrev pub row_names : List KindRow → List (List ℕ)
row_names rs = map (λ (r : KindRow). r.name) rs

-- the first of some rows with this name, the rows counted from i; 0 where there is none
unfoldable pub find : List ℕ → ℕ → List KindRow → ℕ
find name i rs = place_of name i (row_names rs)

-- the kind of this name; 0 where the flow has none
abbrev pub kind_named : Layout → List ℕ → ℕ
kind_named l name = find name 1 (drop 1 l.rows)

-- kind k is the footer
abbrev pub is_footer : Layout → ℕ → Bool
is_footer l k = leb 1 k && eqb (length l.rows - 1) k
