-- Which field of an SB1 is the id, by the number of the flow; the subject of an SB1; the flow that an edition asks for. Assumes nothing.
use Prim.Native.Nat.{ℕ, ◌<◌, ◌≤◌}
use mathlib.Core.Path.{◌≡◌, refl, sym, ap, ◌∙◌}
use mathlib.Core.Bool.{Bool, true, false, cond}
use mathlib.Core.List.{List, ◌∷◌, ◌++◌}
use native.Mathlib.Decide.{ℕ_discrete}
use native.Mathlib.Omega.{arith}
use lib.ListN.{length, get_or}
use borrow.Author.Tests.{ne_eqb}
use Rattle.text.specs.Order.{same_bytes}
use Rattle.text.proofs.Lists.{same→≡}
use Rattle.text.proofs.Tests.{holds}
use Rattle.record.specs.Records.{field, bar}
use Rattle.place.specs.Places.{whole}
use Rattle.place.specs.declared.Refusal.{Refusal}
use Rattle.flow.specs.Letters.{P0133001, E533, E711}
use Rattle.flow.specs.Publication.{Flow}
use Rattle.flow.specs.Flows.{flow_at, flow_number}
use Rattle.flow.specs.Editions.{no_flow, asked}
use Rattle.flow.proofs.Held.{flow_first}
use Rattle.resubmission.specs.Rows.{first_free, id_field, date_field, is_sb1, is_subject}
use Rattle.resubmission.specs.InForce.{words_in}

-- only P0133001 has an SB1: it is number 3, and in edition 711 number 7
pub no_id : (m : ℕ) → (m ≡ 3 → ⊥) → (m ≡ 7 → ⊥) → id_field (flow_at m) ≡ 0
unfolding id_field first_free
no_id m a b = by (ℕ_discrete m 2) (ℕ_discrete m 4) (ℕ_discrete m 5) (ℕ_discrete m 6)
  where
    by : Dec (m ≡ 2) → Dec (m ≡ 4) → Dec (m ≡ 5) → Dec (m ≡ 6) → id_field (flow_at m) ≡ 0
    by (yes e) four five six = rw e
    by (no two) (yes e) five six = rw e
    by (no two) (no four) (yes e) six = rw e
    by (no two) (no four) (no five) (yes e) = rw e
    by (no two) (no four) (no five) (no six) = rw (flow_first m two a four five six b)

-- a field's number is small
pub id_small : (m : ℕ) → id_field (flow_at m) < 5
unfolding id_field first_free
id_small m = by (ℕ_discrete m 3) (ℕ_discrete m 7)
  where
    by : Dec (m ≡ 3) → Dec (m ≡ 7) → id_field (flow_at m) < 5
    by (yes e) seven = rw e (omega arith)
    by (no three) (yes e) = rw e (omega arith)
    by (no three) (no seven) = rw (no_id m three seven) (omega arith)

-- an SB1 by its id and date
module _ (flow : Flow) (id date r : List ℕ) (before : Bool) (is : is_sb1 r ≡ true) where
  pub another_id : same_bytes id (field bar (id_field flow) r) ≡ false → false ≡ cond (is_sb1 r) (is_subject flow id date r) before
  another_id e = rw (is, e)

  pub that_id : same_bytes id (field bar (id_field flow) r) ≡ true → same_bytes date (field bar (date_field flow) r) ≡ cond (is_sb1 r) (is_subject flow id date r) before
  that_id e = rw (is, e)

-- the words for an edition that is none of these
module _ (e : List ℕ) where
  with_space : same_bytes E533 e ≡ false → same_bytes E711 e ≡ false → no_flow (whole 21) ≡ asked (P0133001 ++ 0x20 ∷ e)
  unfolding asked flow_number
  with_space a b = rw (ne_eqb (length (P0133001 ++ 0x20 ∷ e)) 8 (λ h. omega (arith, h)), a, b)

  pub no_edition : (length e ≡ 0 → ⊥) → same_bytes E533 e ≡ false → same_bytes E711 e ≡ false → no_flow (whole 21) ≡ asked (words_in e)
  no_edition some a b = let spelt : P0133001 ++ 0x20 ∷ e ≡ words_in e = rw (ne_eqb _ _ some) in with_space a b ∙ ap asked spelt

-- by its bytes
pub not_named : (e : List ℕ) (r : Refusal) → r ≡ whole 21 → 1 ≤ length e
    → (length e ≡ 3 → get_or e 0 0 ≡ 53 → get_or e 1 0 ≡ 51 → get_or e 2 0 ≡ 51 → ⊥)
    → (length e ≡ 3 → get_or e 0 0 ≡ 55 → get_or e 1 0 ≡ 49 → get_or e 2 0 ≡ 49 → ⊥) → no_flow r ≡ asked (words_in e)
not_named e r is some older newer =
    ap no_flow is ∙ no_edition e (λ z. omega (arith, z, some)) (differs E533 (λ q. older (ap length q) (at q 0) (at q 1) (at q 2))) (differs E711 (λ q. newer (ap length q) (at q 0) (at q 1) (at q 2)))
  where
    at : {x : List ℕ} → e ≡ x → (k : ℕ) → get_or e k 0 ≡ get_or x k 0
    at q k = ap (λ (l : List ℕ). get_or l k 0) q

    differs : (x : List ℕ) → (e ≡ x → ⊥) → same_bytes x e ≡ false
    differs x other = by (same_bytes x e) refl
      where
        by : (t : Bool) → same_bytes x e ≡ t → t ≡ false
        by true q = absurd (other (sym (same→≡ x e (holds q))))
        by false q = refl
