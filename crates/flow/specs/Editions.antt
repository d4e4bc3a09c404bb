-- The words by which a caller asks for a flow, and what they ask for (document 01, refusal 1; document 02, C-16). Assumes nothing.
use Rattle.std.specs.Prelude.{ℕ, Bool, cond, ◌&&◌, ◌||◌, List, eqb, length, get_or, take, drop, Result, Ok, Err}
use Rattle.text.specs.Characters.{bytes}
use Rattle.text.specs.Order.{same_bytes}
use Rattle.text.specs.Rules.{must}
use Rattle.place.specs.Places.{whole}
use Rattle.place.specs.declared.Refusal.{Refusal}
use Rattle.flow.specs.Letters.{P0133001, E533, E711}
use Rattle.flow.specs.Publication.{Flow}
use Rattle.flow.specs.Flows.{held, flow_at, flow_named, p0133_in_711}

-- the edition that is used where none is named
unfoldable pub usual : List ℕ
usual = bytes "533"

-- what a caller asks for: a flow, or none, with the refusal that says why
pub data Asked : Type 0 where
  a_flow : Flow → Asked
  no_flow : Refusal → Asked

-- a caller's words are a flow's name of eight characters, or these, a space and an edition; the name is the first eight
abbrev pub name_in : List ℕ → List ℕ
name_in words = take 8 words

-- behind the name the words end, or a space stands
abbrev pub ends_or_space : List ℕ → Bool
ends_or_space words = eqb (length words) 8 || eqb (get_or words 8 0) 0x20

-- the edition is what stands behind the space, and the usual one where none is named
abbrev pub edition_in : List ℕ → List ℕ
edition_in words = cond (eqb (length words) 8) usual (drop 9 words)

-- the editions are 533 and 711
abbrev pub is_edition : List ℕ → Bool
is_edition edition = same_bytes E533 edition || same_bytes E711 edition

-- the flow of a name in an edition: flows other than P0133001 have the same layout in each
abbrev pub flow_in : List ℕ → List ℕ → Flow
flow_in edition name = cond (same_bytes E711 edition && same_bytes P0133001 name) p0133_in_711 (flow_named name)

-- the number of flow number n in an edition: 3 is P0133001, and 7 that in 711
abbrev pub number_in : List ℕ → ℕ → ℕ
number_in edition n = cond (same_bytes E711 edition && eqb n 3) 7 n

-- 1 where we hold no such flow, right after it 21 where there is no such edition, of whichever flow; both at record 0, byte 0
unfoldable pub asked : List ℕ → Asked
asked words =
    must (held (name_in words) && ends_or_space words) (no_flow (whole 1))
    (must (is_edition (edition_in words)) (no_flow (whole 21))
    (a_flow (flow_in (edition_in words) (name_in words))))

-- what the code's answer says: a flow is told by its number
abbrev pub told : Result ℕ Refusal → Asked
told (Ok n) = a_flow (flow_at n)
told (Err r) = no_flow r
