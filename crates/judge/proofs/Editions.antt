-- The two editions of P0133001 (document 02, C-16): no SB1 record meets both, and a file with an SB1 is never accepted under both. Assumes nothing.
use Prim.Native.Nat.{ℕ, ◌+◌}
use mathlib.Core.Path.{◌≡◌, refl, sym, ap, subst, ◌∙◌}
use mathlib.Core.List.{List, [], ◌∷◌, ◌++◌, append_assoc}
use native.Mathlib.Omega.{arith}
use lib.ListN.{length}
use Rattle.text.specs.Characters.{bytes}
use Rattle.record.specs.Records.{records}
use Rattle.flow.specs.Letters.{SB1}
use Rattle.flow.specs.Publication.{Flow}
use Rattle.flow.specs.Flows.{flow_number, sb1, sb1_in_711, p0133, p0133_in_711}
use Rattle.flow.specs.Editions.{Asked, a_flow, no_flow, asked}
use Rattle.flow.proofs.Held.{sb1_counts}
use Rattle.judge.specs.File.{judged, accepted}
use Rattle.judge.specs.Right.{kind_in, NoneOfKind, published_as, Typed, RightFor, Right}
use Rattle.judge.proofs.Demand2.{demand2}

-- no record meets the rules of both, which ask for another number of fields
pub sb1_apart : (r : List ℕ) → Typed sb1.fields r → Typed sb1_in_711.fields r → ⊥
sb1_apart r old new =
    let one_more_lem : length sb1.fields + 1 ≡ length sb1_in_711.fields + 1 = sym old.field_count ∙ new.field_count in
    sb1_counts (omega (arith, one_more_lem))

-- records none of which is of a kind, told one by one
none_by : (k : List ℕ) (rs before after : List (List ℕ)) → rs ≡ before ++ after
    → ((b : List (List ℕ)) (r : List ℕ) (a : List (List ℕ)) → rs ≡ b ++ r ∷ a → kind_in r ≡ k → ⊥) → NoneOfKind k after
none_by k rs before [] e none = tt
none_by k rs before (r ∷ after) e none = (none before r after e, none_by k rs (before ++ r ∷ []) after (e ∙ sym (append_assoc before (r ∷ []) after)) none)

-- a file that is right in both editions has no SB1
pub never_both : (f : List ℕ) (n m : ℕ) → RightFor p0133 f n → RightFor p0133_in_711 f m → NoneOfKind SB1 (records f)
never_both f n m old new =
    none_by SB1 (records f) [] (records f) refl
    (λ b r a e is.
    sb1_apart r (subst (λ (k : List ℕ). Typed (published_as p0133.kinds k).fields r) is (old.typed b r a e))
    (subst (λ (k : List ℕ). Typed (published_as p0133_in_711.kinds k).fields r) is (new.typed b r a e)))

-- the flow that is asked for
abbrev flow_or : Flow → Asked → Flow
flow_or other (a_flow fl) = fl
flow_or other (no_flow r) = other

right_in : (fl : Flow) (a : Asked) → a ≡ a_flow fl → (f : List ℕ) (n : ℕ) → Right a f n → RightFor fl f n
right_in fl a e f n r = subst (λ (x : Flow). RightFor x f n) (ap (flow_or fl) (sym r.is_held ∙ e)) r.file

-- so a file with an SB1 is never accepted under both
pub accepted_in_both : (f : List ℕ) (n m : ℕ) → judged (asked (bytes "P0133001 533")) f ≡ accepted n
    → judged (asked (bytes "P0133001 711")) f ≡ accepted m → NoneOfKind SB1 (records f)
unfolding asked flow_number
accepted_in_both f n m old new =
    never_both f n m (right_in p0133 (asked (bytes "P0133001 533")) refl f n ((demand2 f n (bytes "P0133001 533")).0 old))
    (right_in p0133_in_711 (asked (bytes "P0133001 711")) refl f m ((demand2 f m (bytes "P0133001 711")).0 new))
