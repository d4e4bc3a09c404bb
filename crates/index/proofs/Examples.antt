-- Which kinds may have children, computed over the flows and editions that we hold; that what a kind stands within is what the published
-- nested sets say; and the entries of a file in edition 711. Assumes nothing.
use Prim.Native.Nat.{ℕ, suc}
use mathlib.Core.Path.{◌≡◌, refl}
use mathlib.Core.Bool.{cond}
use mathlib.Core.List.{List, [], ◌∷◌, map}
use lib.ListN.{length}
use Rattle.text.specs.Characters.{bytes}
use Rattle.record.specs.Records.{joined, onto, records, fields, field, extent}
use Rattle.place.specs.Places.{field_start, place_at}
use Rattle.flow.specs.Publication.{Flow, names}
use Rattle.flow.specs.Letters.{GS7, SUP, SB1, SB2, SUB}
use Rattle.flow.specs.Flows.{flows_and_editions, flow_number}
use Rattle.flow.specs.Editions.{asked}
use Rattle.judge.specs.File.{judged_for}
use Rattle.index.specs.declared.Entry.{Entry}
use Rattle.index.specs.Entries.{Kinds, kinds_by, kinds_for, some_is, may_head, heads_in, last_of, parent_of, children_from, parent_entry, entry, entries_from, indexed_by, list_by, entries_for, refused, indexed, listed}
use Rattle.index.specs.Standing.{leader, in_set, nested, published}

-- the names of the kinds that may have children, the first name being that of kind k
pub head_names : Kinds → ℕ → List (List ℕ) → List (List ℕ)
head_names ks k [] = []
head_names ks k (n ∷ ns) = cond (may_head ks k) (n ∷ head_names ks (suc k) ns) (head_names ks (suc k) ns)

-- P0012 none, P0181 GS7 and SUP, P0133 SB1, P0134 SB2, P0138 none, P0164 SUB, P0133 in 711 SB1
pub heads_are : map (λ (fl : Flow). head_names (kinds_for fl) 1 (names fl.kinds)) flows_and_editions ≡ [] ∷ (GS7 ∷ SUP ∷ []) ∷ (SB1 ∷ []) ∷ (SB2 ∷ []) ∷ [] ∷ (SUB ∷ []) ∷ (SB1 ∷ []) ∷ []
unfolding head_names kinds_by some_is may_head
heads_are = refl

pub sets_agree : map nested flows_and_editions ≡ map published flows_and_editions
unfolding in_set leader
sets_agree = refl

-- a file in edition 711: an SB1 without CM1, and one with two. The records start at 0, 42, 64, 86, 101, 114
unfoldable pub new_file : List ℕ
new_file =
    joined
    (map bytes
    ("ZHD|P0133001|Z|SVAA|Z|POOL|20240105120000"
    ∷ "SB1|M|AAAA|20231231|M"
    ∷ "SB1|M|BBBB|20231231|M"
    ∷ "CM1|_A|1|1.0|1"
    ∷ "CM1||2|2.5|3"
    ∷ "ZPT|6|185873438"
    ∷ []))

-- its entries by words that name the edition
pub entries_711 : entries_for (asked (bytes "P0133001 711")) new_file ≡ entry 2 42 1 0 ∷ entry 3 64 2 2 ∷ []
unfolding new_file joined onto records fields field extent flow_number asked field_start place_at kinds_by some_is may_head heads_in last_of parent_of children_from parent_entry entries_from
entries_711 = refl

-- of an edition that there is not: 21 for any file, and the list is left as it was
pub no_edition : (f : List ℕ) (old : List Entry)
    → (indexed (asked (bytes "P0133001 712")) f (length old) ≡ refused 21 0 0 0) × (listed (asked (bytes "P0133001 712")) f old ≡ old)
unfolding flow_number asked judged_for indexed_by list_by indexed listed
no_edition f old = (refl, refl)
