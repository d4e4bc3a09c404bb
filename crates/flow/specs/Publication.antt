-- How a flow is published: its name, its grammar as nested sets, the fields and keys of its kinds, and its last line feed;
-- and the layout that follows from it. Assumes nothing.
use Rattle.std.specs.Prelude.{ℕ, suc, ◌+◌, ◌-◌, ◌^◌, Bool, true, false, cond, List, [], ◌∷◌, map, get_or}
use Rattle.text.specs.Places.{place_of}
use Rattle.field.specs.Judge.{bare, opt, fixed}
use Rattle.field.specs.declared.FieldType.{FieldType}
use Rattle.field.specs.declared.FieldType.TheVariants as types
use Rattle.layout.specs.Layout.{Rule, KindRow, Layout}
use Rattle.grammar.specs.Sets.{Sets}
use Rattle.grammar.specs.Walk.{At, start, last, may}

-- a kind: its name, its fields from 2 on, its key field (0: none), may a key be equal to the one before, and the kind that heads the
-- set in which it stands, where its key starts anew ([]: none, and a key runs through the file)
pub record PublishedKind : Type 0 where
  pub name : List ℕ
  pub fields : List Rule
  pub key : ℕ
  pub repeats : Bool
  pub within : List ℕ

-- a flow; its kinds stand in the order of the grammar, and the last is the footer
pub record Flow : Type 0 where
  pub name : List ℕ
  pub grammar : Sets
  pub kinds : List PublishedKind
  pub feed : Bool

-- the names of a flow's kinds
abbrev pub names : List PublishedKind → List (List ℕ)
names ks = map (λ (k : PublishedKind). k.name) ks

-- the kinds that the grammar lets follow, as a set: the i-th name is bit i
abbrev pub set_of : Sets → At → ℕ → List (List ℕ) → ℕ
set_of g at i [] = 0
set_of g at i (n ∷ ns) = cond (may g at n) (2 ^ i) 0 + set_of g at (suc i) ns

-- a kind's row: its followers are the grammar's
abbrev pub row_for : Sets → List (List ℕ) → PublishedKind → KindRow
row_for g ns k =
    record {
      name = k.name;
      next = set_of g (last k.name) 0 ns;
      rules = k.fields;
      key = k.key;
      repeats = k.repeats;
      head = place_of k.within 1 ns;
    }

-- the row of the file's start
abbrev pub start_row : Sets → List (List ℕ) → KindRow
start_row g ns = record { name = 0 ∷ 0 ∷ 0 ∷ []; next = set_of g start 0 ns; rules = []; key = 0; repeats = false; head = 0 }

-- the layout of a published flow
abbrev pub layout_for : Flow → Layout
layout_for f =
    record {
      rows = start_row f.grammar (names f.kinds) ∷ map (row_for f.grammar (names f.kinds)) f.kinds;
      feed = f.feed;
    }

-- document 01's spelling of types and marks
abbrev pub text : ℕ → Rule
text n = record { type = types.Text n; mark = bare }

abbrev pub int : ℕ → Rule
int n = record { type = types.Int n; mark = bare }

abbrev pub dec : ℕ → ℕ → Rule
dec p q = record { type = types.Dec p q; mark = bare }

abbrev pub date : Rule
date = record { type = types.Date; mark = bare }

abbrev pub datetime : Rule
datetime = record { type = types.Datetime; mark = bare }

abbrev pub bol : Rule
bol = record { type = types.Bol; mark = bare }

abbrev pub period : Rule
period = record { type = types.Period; mark = bare }

abbrev pub null : Rule
null = record { type = types.Null; mark = bare }

-- a field marked opt, and one marked = with its value
abbrev pub optional : Rule → Rule
optional r = record { type = r.type; mark = opt }

abbrev pub is : Rule → List ℕ → Rule
is r value = record { type = r.type; mark = fixed value }

-- a kind without a key, in no set and within one; one whose key runs through the file, one whose key starts anew at each record that
-- heads its set, and one whose key does so and may be equal to the one before
abbrev pub kind : List ℕ → List Rule → PublishedKind
kind n fields = record { name = n; fields = fields; key = 0; repeats = false; within = [] }

abbrev pub kind_within : List ℕ → List Rule → List ℕ → PublishedKind
kind_within n fields head = record { name = n; fields = fields; key = 0; repeats = false; within = head }

abbrev pub keyed : List ℕ → List Rule → ℕ → PublishedKind
keyed n fields key = record { name = n; fields = fields; key = key; repeats = false; within = [] }

abbrev pub keyed_within : List ℕ → List Rule → ℕ → List ℕ → PublishedKind
keyed_within n fields key head = record { name = n; fields = fields; key = key; repeats = false; within = head }

abbrev pub repeating_within : List ℕ → List Rule → ℕ → List ℕ → PublishedKind
repeating_within n fields key head = record { name = n; fields = fields; key = key; repeats = true; within = head }

-- the type of a kind's key field
abbrev pub key_type_for : PublishedKind → FieldType
key_type_for k = (get_or k.fields (k.key - 2) null).type
