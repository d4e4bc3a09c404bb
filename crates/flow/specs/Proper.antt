-- A proper flow: what demands 2 and 3, the step, the round trips and the index ask of a flow, whoever publishes it. Assumes nothing.
use Rattle.std.specs.Prelude.{ℕ, zero, suc, ◌-◌, ◌≤◌, ◌≡◌, Bool, true, not, ◌&&◌, ◌||◌, [], ◌∷◌, eqb, leb, length, get_or, drop}
use Rattle.text.specs.Characters.{all, is_text}
use Rattle.text.specs.Order.{same_bytes}
use Rattle.text.specs.Places.{each}
use Rattle.field.specs.Types.{is_null}
use Rattle.field.specs.Judge.{may_be_empty}
use Rattle.layout.specs.Layout.{Layout, row, row_names, among, may_follow, kind_named}
use Rattle.grammar.specs.Table.{agrees}
use Rattle.flow.specs.Letters.{ZPT}
use Rattle.flow.specs.Publication.{Flow, PublishedKind, names, layout_for, int, null, key_type_for}

-- a key is never empty: its field is there, is not null and not marked opt; and its set is headed by another kind
abbrev pub key_fits : PublishedKind → Bool
key_fits p =
    eqb p.key 0
    || (leb 2 p.key && (leb (p.key - 1) (length p.fields) && (not (may_be_empty (get_or p.fields (p.key - 2) null).mark)
    && (not (is_null (key_type_for p)) && not (same_bytes p.name p.within)))))

-- the last kind of a layout
abbrev pub last_row : Layout → ℕ
last_row l = length l.rows - 1

-- the last kind of a layout is ZPT with two ints of at most 10 digits and no key, and every kind's name is of text characters
pub record ProperFooter (l : Layout) : Type 0 where
  pub found : kind_named l ZPT ≡ last_row l
  pub some : 1 ≤ last_row l
  pub name : (row l (last_row l)).name ≡ ZPT
  pub rules : (row l (last_row l)).rules ≡ int 10 ∷ int 10 ∷ []
  pub key : (row l (last_row l)).key ≡ 0
  pub names : all (all is_text) (row_names (drop 1 l.rows)) ≡ true

-- kind h is kind k, or heads a set that k stands in, so many sets deep at most
unfoldable pub heads : Layout → ℕ → ℕ → ℕ → Bool
heads l zero h k = eqb k h
heads l (suc n) h k = eqb k h || heads l n h (row l k).head

-- a kind that may follow another stands in a set that the other, or one that heads the other's set, heads; or in none
unfoldable pub nests : Layout → Bool
nests l = each (λ p r. each (λ j q. not (among j r.next) || heads l 8 q.head p) 0 l.rows) 0 l.rows

pub record Proper (fl : Flow) : Type 0 where
  -- its table agrees with its grammar
  pub agree : agrees (names fl.kinds) (may_follow (layout_for fl)) fl.grammar ≡ true
  -- it has a kind, and at most 32 of them
  pub some : 1 ≤ length (names fl.kinds)
  pub few : length (names fl.kinds) ≤ 32
  -- the last is a right footer, and nothing follows it
  pub footer : ProperFooter (layout_for fl)
  pub closed : (row (layout_for fl) (length (names fl.kinds))).next ≡ 0
  -- keys are never empty
  pub keys : all key_fits fl.kinds ≡ true
  -- sets nest
  pub nested : nests (layout_for fl) ≡ true
