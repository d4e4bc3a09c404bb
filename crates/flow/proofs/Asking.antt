-- What some words ask for, test by test; and whatever they ask for is proper. Assumes nothing.
use Prim.Native.Nat.{ℕ, zero, suc, ◌+◌, ◌-◌, ◌≤◌, ◌<◌}
use mathlib.Core.Path.{◌≡◌, refl, sym, ap, ◌∙◌, subst}
use mathlib.Core.Bool.{Bool, true, false, cond, not, ◌&&◌, or-true, and-false, false≢true}
use mathlib.Core.List.{List, [], ◌∷◌, ◌++◌, map, append_assoc}
use native.Mathlib.Omega.{arith}
use lib.Dec.{T, eqb}
use native.Mathlib.Nat.{add-zero}
use lib.ListN.{length, get_or, take, drop, length-append, length-drop}
use lib.Seq.{take_at, take_all, drop_at, drop-drop, get_or-append-add}
use Rattle.std.proofs.lemmas.List.{get_or-drop}
use borrow.Author.Tests.{eq-eqb, ne_eqb, eqb-true}
use Rattle.text.specs.Characters.{all}
use Rattle.text.specs.Order.{same_bytes}
use Rattle.text.specs.Rules.{must}
use Rattle.text.proofs.Places.{place_name}
use Rattle.text.proofs.Lists.{same→≡, same_refl}
use Rattle.text.proofs.Tests.{and_left, and_right, holds, is_true}
use Rattle.place.specs.Places.{whole}
use Rattle.place.specs.declared.Refusal.{Refusal}
use Rattle.flow.specs.Letters.{P0133001, E533, E711}
use Rattle.flow.specs.Publication.{Flow}
use Rattle.flow.specs.Flows.{flows, flow_number, flow_at, flow_named, held, p0133_in_711}
use Rattle.flow.specs.Editions.{Asked, a_flow, no_flow, usual, name_in, ends_or_space, edition_in, is_edition, flow_in, number_in, asked}
use Rattle.flow.specs.Proper.{Proper}
use Rattle.flow.proofs.Proper.{held_proper, ProperAsked}

-- the names of the flows
abbrev known : List (List ℕ)
known = map (λ (f : Flow). f.name) flows

-- each has eight characters, so fewer are no flow's name
eight : List ℕ → Bool
eight name = eqb (length name) 8

all_eight : T (all eight known)
unfolding eight
all_eight = tt

eight_at : (names : List (List ℕ)) → T (all eight names) → (i : ℕ) → i < length names → length (get_or names i []) ≡ 8
unfolding eight
eight_at [] t i h = absurd (omega arith)
eight_at (n ∷ ns) t zero h = eqb-true (length n) 8 (is_true _ (and_left (eight n) (all eight ns) t))
eight_at (n ∷ ns) t (suc i) h = eight_at ns (and_right (eight n) (all eight ns) t) i (omega arith)

no_longer : (n : ℕ) (xs : List ℕ) → length (take n xs) ≤ length xs
no_longer zero xs = omega arith
no_longer (suc n) [] = omega arith
no_longer (suc n) (x ∷ xs) = omega (arith, no_longer n xs)

short_none : (name : List ℕ) → length name < 8 → flow_number name ≡ 0
unfolding flow_number
short_none name h = go (flow_number name) refl
  where
    go : (n : ℕ) → flow_number name ≡ n → flow_number name ≡ 0
    go zero e = e
    go (suc i) e =
        let there = place_name name known i e in
        absurd (omega (arith, h, eight_at known all_eight i there.0, ap length there.1))

-- flow number 3 is P0133001 and no other
third : (name : List ℕ) → same_bytes P0133001 name ≡ eqb (flow_number name) 3
unfolding flow_number
third name = go (same_bytes P0133001 name) refl
  where
    go : (b : Bool) → same_bytes P0133001 name ≡ b → b ≡ eqb (flow_number name) 3
    go true e = sym (eq-eqb _ _ (ap flow_number (sym (same→≡ P0133001 name (subst T (sym e) tt)))))
    go false e =
        sym (ne_eqb _ _ (λ q. false≢true (sym e ∙ ap (same_bytes P0133001) (sym (place_name name known 2 q).1) ∙ same_refl P0133001)))

chosen : (b : Bool) (n : ℕ) → cond b p0133_in_711 (flow_at n) ≡ flow_at (cond b 7 n)
chosen true n = refl
chosen false n = refl

-- so the flow of a name in an edition is told by its number
flow_in_lem : (edition name : List ℕ) → flow_in edition name ≡ flow_at (number_in edition (flow_number name))
flow_in_lem edition name =
    ap (λ (b : Bool). cond (same_bytes E711 edition && b) p0133_in_711 (flow_named name)) (third name) ∙ chosen (same_bytes E711 edition && eqb (flow_number name) 3) (flow_number name)

-- what is said of an edition of flow number n
abbrev pub in_edition : ℕ → List ℕ → Asked
in_edition n edition = must (is_edition edition) (no_flow (whole 21)) (a_flow (flow_at (number_in edition n)))

module _ (n : ℕ) (edition : List ℕ) where
  pub newer_third : same_bytes E711 edition ≡ true → n ≡ 3 → a_flow (flow_at 7) ≡ in_edition n edition
  newer_third e is = rw (e, or-true (same_bytes E533 edition), eq-eqb n 3 is)

  pub newer_other : same_bytes E711 edition ≡ true → (n ≡ 3 → ⊥) → a_flow (flow_at n) ≡ in_edition n edition
  newer_other e h = rw (e, or-true (same_bytes E533 edition), ne_eqb n 3 h)

  pub older : same_bytes E711 edition ≡ false → same_bytes E533 edition ≡ true → a_flow (flow_at n) ≡ in_edition n edition
  older e f = rw (e, f)

  pub no_edition : same_bytes E711 edition ≡ false → same_bytes E533 edition ≡ false → no_flow (whole 21) ≡ in_edition n edition
  no_edition e f = rw (e, f)

-- the words, test by test
module _ (words : List ℕ) where
  pub asked_unknown : flow_number (name_in words) ≡ 0 → asked words ≡ no_flow (whole 1)
  unfolding asked
  asked_unknown e = rw e

  pub asked_short : length words < 8 → asked words ≡ no_flow (whole 1)
  asked_short h = asked_unknown (short_none (name_in words) (omega (arith, no_longer 8 words)))

  module _ (n : ℕ) (is : n ≡ flow_number (name_in words)) (some : n ≡ 0 → ⊥) where
    is_held : held (name_in words) ≡ true
    is_held = rw (← is, ne_eqb n 0 some)

    pub asked_odd : (length words ≡ 8 → ⊥) → (get_or (drop 8 words) 0 0 ≡ 0x20 → ⊥) → asked words ≡ no_flow (whole 1)
    unfolding asked
    asked_odd h s =
        let other : get_or words 8 0 ≡ 0x20 → ⊥ = λ e. s (get_or-drop 8 words 0 0 ∙ e) in
        rw (is_held, ne_eqb (length words) 8 h, ne_eqb (get_or words 8 0) 0x20 other)

    named : (edition : List ℕ) → must (is_edition edition) (no_flow (whole 21)) (a_flow (flow_in edition (name_in words))) ≡ in_edition n edition
    named edition =
        ap (λ (f : Flow). must (is_edition edition) (no_flow (whole 21)) (a_flow f))
        (flow_in_lem edition (name_in words) ∙ ap (λ (m : ℕ). flow_at (number_in edition m)) (sym is))

    pub asked_usual : length words ≡ 8 → asked words ≡ in_edition n usual
    unfolding asked
    asked_usual h = rw (is_held, eq-eqb (length words) 8 h) (named usual)

    -- the edition is what stands behind the space, up to the end
    pub asked_edition : (length words ≡ 8 → ⊥) → get_or (drop 8 words) 0 0 ≡ 0x20
        → asked words ≡ in_edition n (take (length (drop 8 words) - 1) (drop 1 (drop 8 words)))
    unfolding asked
    asked_edition h s =
        let space : get_or words 8 0 ≡ 0x20 = sym (get_or-drop 8 words 0 0) ∙ s in
        let behind : drop 1 (drop 8 words) ≡ drop 9 words = drop-drop 1 8 words in
        let all : length (drop 9 words) ≤ length (drop 8 words) - 1 = simp length-drop (omega arith) in
        rw (is_held, ne_eqb (length words) 8 h, eq-eqb (get_or words 8 0) 0x20 space)
        (named (drop 9 words)
        ∙ ap (in_edition n) (sym (take_all (length (drop 8 words) - 1) (drop 9 words) all) ∙ ap (take (length (drop 8 words) - 1)) (sym behind)))

  ordered : (b c : Bool) (r q : Refusal) (f : Flow) → Proper f → ProperAsked (must b (no_flow r) (must c (no_flow q) (a_flow f)))
  ordered true true r q f p = p
  ordered true false r q f p = tt
  ordered false c r q f p = tt

  -- what is asked for is proper
  pub asked_proper : ProperAsked (asked words)
  unfolding asked
  asked_proper =
      ordered (held (name_in words) && ends_or_space words) (is_edition (edition_in words)) (whole 1) (whole 21) (flow_in (edition_in words) (name_in words))
      (subst Proper (sym (flow_in_lem (edition_in words) (name_in words))) (held_proper (number_in (edition_in words) (flow_number (name_in words)))))

-- a refusal of the words is of the whole: it points at no record, no field and no byte
whole_of : (b c : Bool) (f : Flow) (r : Refusal) → must b (no_flow (whole 1)) (must c (no_flow (whole 21)) (a_flow f)) ≡ no_flow r
    → (number : ℕ) × (r ≡ whole number)
whole_of true true f r e = absurd (let z : ◌≡◌ {A = ℕ} 0 1 = cc in omega arith)
whole_of true false f r e = (21, cc)
whole_of false c f r e = (1, cc)

pub asked_whole : (words : List ℕ) (r : Refusal) → asked words ≡ no_flow r → (number : ℕ) × (r ≡ whole number)
unfolding asked
asked_whole words r e =
    whole_of (held (name_in words) && ends_or_space words) (is_edition (edition_in words)) (flow_in (edition_in words) (name_in words)) r e

-- a name alone asks for what it asks for with the usual edition named
pub none_named : (name : List ℕ) → length name ≡ 8 → asked name ≡ asked (name ++ 0x20 ∷ usual)
unfolding asked
none_named name eight =
    let words = name ++ 0x20 ∷ usual in
    let long : length words ≡ 8 + suc (length usual) = length-append name (0x20 ∷ usual) ∙ ap (λ (n : ℕ). n + suc (length usual)) eight in
    let is : name_in words ≡ name = take_at name (0x20 ∷ usual) 8 eight in
    let own : name_in name ≡ name = take_all 8 name (omega arith) in
    let space : get_or words 8 0 ≡ 0x20 =
    ap (λ (n : ℕ). get_or words n 0) (sym eight ∙ sym (add-zero (length name))) ∙ get_or-append-add name (0x20 ∷ usual) 0 0 in
    let rest : drop 9 words ≡ usual =
    ap (drop 9) (sym (append_assoc name (0x20 ∷ []) usual)) ∙ drop_at (name ++ 0x20 ∷ []) usual 9 (length-append name (0x20 ∷ []) ∙ ap (λ (n : ℕ). n + 1) eight) in
    let more : eqb (length words) 8 ≡ false = ne_eqb (length words) 8 (λ e. omega (arith, long, e)) in
    rw (own, eq-eqb (length name) 8 eight, is, more, space, rest)

-- flows other than P0133001 have the same layout in each edition
pub one_layout : (edition name : List ℕ) → same_bytes P0133001 name ≡ false → flow_in edition name ≡ flow_named name
one_layout edition name e = rw (e, and-false (same_bytes E711 edition))

-- flow number n of the six has the n-th name
name_at : (i : ℕ) → i < length known → (flow_at (suc i)).name ≡ get_or known i []
name_at zero h = refl
name_at (suc zero) h = refl
name_at (suc (suc zero)) h = refl
name_at (suc (suc (suc zero))) h = refl
name_at (suc (suc (suc (suc zero)))) h = refl
name_at (suc (suc (suc (suc (suc zero))))) h = refl
name_at (suc (suc (suc (suc (suc (suc i)))))) h = absurd (omega arith)

-- the flow of a name that we hold has that name
named_so : (name : List ℕ) (n : ℕ) → flow_number name ≡ n → held name ≡ true → (flow_at n).name ≡ name
unfolding flow_number
named_so name zero e h = absurd (false≢true (sym (ap (λ (m : ℕ). not (eqb m 0)) e) ∙ h))
named_so name (suc i) e h =
    let there = place_name name known i e in
    name_at i there.0 ∙ there.1

-- so it has in each edition
in_edition_lem : (newer third : Bool) (name : List ℕ) → (third ≡ true → P0133001 ≡ name) → (flow_named name).name ≡ name
    → (cond (newer && third) p0133_in_711 (flow_named name)).name ≡ name
in_edition_lem true true name is e = is refl
in_edition_lem true false name is e = e
in_edition_lem false third name is e = e

-- a flow that is asked for passed both tests
passed_tests : (b c : Bool) (other fl : Flow) → must b (no_flow (whole 1)) (must c (no_flow (whole 21)) (a_flow other)) ≡ a_flow fl → (b ≡ true) × (other ≡ fl)
passed_tests true true other fl e = (refl, cc)
passed_tests true false other fl e = absurd (let z : ◌≡◌ {A = ℕ} 0 1 = cc in omega arith)
passed_tests false c other fl e = absurd (let z : ◌≡◌ {A = ℕ} 0 1 = cc in omega arith)

-- a flow that words ask for: that of the name and the edition in them, and we hold the name
pub flow_asked : (words : List ℕ) (fl : Flow) → asked words ≡ a_flow fl → (held (name_in words) ≡ true) × (flow_in (edition_in words) (name_in words) ≡ fl)
unfolding asked
flow_asked words fl e =
    let x = passed_tests (held (name_in words) && ends_or_space words) (is_edition (edition_in words)) (flow_in (edition_in words) (name_in words)) fl e in
    (is_true (held (name_in words)) (and_left (held (name_in words)) (ends_or_space words) (holds x.0)), x.1)

-- the flow that words ask for has the name that they begin with
pub asked_name : (words : List ℕ) (fl : Flow) → asked words ≡ a_flow fl → fl.name ≡ name_in words
asked_name words fl e =
    let name = name_in words in
    let x = flow_asked words fl e in
    ap (λ (f : Flow). f.name) (sym x.1)
    ∙ in_edition_lem (same_bytes E711 (edition_in words)) (same_bytes P0133001 name) name (λ t. same→≡ P0133001 name (holds t)) (named_so name (flow_number name) refl x.0)
