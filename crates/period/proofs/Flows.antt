-- The answer for what is asked, by what the code has found: the words' first eight characters tell the flow. Assumes nothing.
use Prim.Native.Nat.{ℕ}
use mathlib.Core.Path.{◌≡◌, refl, sym, ap, ◌∙◌}
use mathlib.Core.Bool.{Bool, true, false}
use mathlib.Core.List.{List}
use Rattle.text.specs.Order.{same_bytes}
use Rattle.place.specs.Places.{whole}
use Rattle.place.specs.declared.Refusal.{Refusal}
use Rattle.flow.specs.Letters.{P0012001}
use Rattle.flow.specs.Publication.{Flow, layout_for}
use Rattle.flow.specs.Flows.{flow_number, p0012}
use Rattle.flow.specs.Editions.{Asked, a_flow, no_flow, name_in, edition_in, flow_in, asked}
use Rattle.flow.proofs.Asking.{one_layout, flow_asked, asked_name}
use Rattle.period.specs.Answer.{in_range, has_for, has_period, paper}
use Rattle.std.specs.Prelude.{Result, Err}

-- words that begin with P0012001 ask for it, in whichever edition
pub asks_p0012 : (words : List ℕ) (fl : Flow) → asked words ≡ a_flow fl → name_in words ≡ P0012001 → fl ≡ p0012
unfolding flow_number
asks_p0012 words fl e is =
    sym (flow_asked words fl e).1 ∙ ap (flow_in (edition_in words)) is ∙ one_layout (edition_in words) P0012001 refl

-- the public answer
module _ (words f : List ℕ) (p : ℕ) where
  pub no_flow_lem : (r : Refusal) → no_flow r ≡ asked words → paper (Err r) ≡ has_period (asked words) f p
  unfolding has_period has_for
  no_flow_lem r e = ap (λ (x : Asked). paper (has_for x f p)) e

  module _ (fl : Flow) (e : a_flow fl ≡ asked words) (b : Bool) (is : b ≡ same_bytes P0012001 (name_in words)) where
    said : (a : Result Bool Refusal) → a ≡ has_for (a_flow fl) f p → paper a ≡ has_period (asked words) f p
    unfolding has_period
    said a q = ap paper q ∙ ap (λ (x : Asked). paper (has_for x f p)) e

    told : same_bytes P0012001 fl.name ≡ b
    told = ap (same_bytes P0012001) (asked_name words fl (sym e)) ∙ sym is

    pub another_flow : b ≡ false → paper (Err (whole 22)) ≡ has_period (asked words) f p
    unfolding has_for
    another_flow t = said (Err (whole 22)) (rw (told, t))

    pub that_flow : b ≡ true → (a : Result Bool Refusal) → a ≡ in_range (layout_for fl) f p → paper a ≡ has_period (asked words) f p
    unfolding has_for
    that_flow t a q = said a (q ∙ rw (told, t))
