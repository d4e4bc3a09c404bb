-- Two answers that say the same in the papers' terms are the same answer, so only one meets the promise of `value_of`. Assumes nothing.
use Prim.Native.Nat.{ℕ}
use mathlib.Core.Path.{◌≡◌, refl, sym, ap, subst, ◌∙◌}
use mathlib.Core.List.{List}
use Rattle.text.proofs.Inverse.{same_said}
use Rattle.place.specs.Places.{refusal}
use Rattle.place.specs.declared.Refusal.{Refusal}
use Rattle.judge.specs.File.{placed_by}
use Rattle.layout.specs.Layout.{Layout}
use Rattle.flow.specs.Publication.{Flow, layout_for}
use Rattle.flow.specs.Editions.{Asked, a_flow, no_flow}
use Rattle.value.specs.Value.{Reply, refused, empty, number, truth, text, paper, TextWithin, of_accepted, value_at, value_by, value_in, valued}
use Rattle.value.specs.declared.Value.{Value}
use Rattle.value.specs.declared.Value.TheVariants.{Empty, Number, Truth, Text}
use Rattle.std.specs.Prelude.{Result, Ok, Err}
use Rattle.value.proofs.Places.{text_within}

-- the answer that says this
abbrev said : Reply → Result Value Refusal
said (refused n r k place) = Err (refusal n r k place)
said empty = Ok Empty
said (number z) = Ok (Number z)
said (truth b) = Ok (Truth b)
said (text from to bytes) = Ok (Text from to)

said_paper : (f : List ℕ) (v : Result Value Refusal) → said (paper f v) ≡ v
said_paper f (Err r) = refl
said_paper f (Ok Empty) = refl
said_paper f (Ok (Number z)) = refl
said_paper f (Ok (Truth b)) = refl
said_paper f (Ok (Text from to)) = refl

pub paper_one : (f : List ℕ) (v w : Result Value Refusal) → paper f v ≡ paper f w → v ≡ w
paper_one f v w e = same_said (paper f) said (said_paper f) v w e

-- what is promised is the answer of the definition, and no other
pub promised : (a : Asked) (f : List ℕ) (n k : ℕ) (v : Result Value Refusal) → paper f v ≡ valued a f n k → v ≡ value_in a f n k
unfolding valued
promised a f n k v e = paper_one f v (value_in a f n k) e

pub one_value : (a : Asked) (f : List ℕ) (n k : ℕ) (v w : Result Value Refusal) → paper f v ≡ valued a f n k → paper f w ≡ valued a f n k → v ≡ w
one_value a f n k v w e q = paper_one f v w (e ∙ sym q)

-- by a layout: the reader's refusal, or the value of an accepted file
module _ (l : Layout) (f : List ℕ) (n k : ℕ) (j : Result ℕ Refusal) (e : j ≡ placed_by l f) where
  by_reader : of_accepted j (value_at l f n k) ≡ value_by l f n k
  unfolding value_by
  by_reader = ap (λ (w : Result ℕ Refusal). of_accepted w (value_at l f n k)) e

  pub reader_refused : {r : Refusal} → j ≡ Err r → Err r ≡ value_by l f n k
  reader_refused q = ap (λ (w : Result ℕ Refusal). of_accepted w (value_at l f n k)) (sym q) ∙ by_reader

  pub reader_accepted : {m : ℕ} → j ≡ Ok m → {v : Result Value Refusal} → v ≡ value_at l f n k → v ≡ value_by l f n k
  reader_accepted q is = is ∙ ap (λ (w : Result ℕ Refusal). of_accepted w (value_at l f n k)) (sym q) ∙ by_reader

-- for what is asked
module _ (a : Asked) (f : List ℕ) (n k : ℕ) where
  -- both promises, of the definition's answer
  pub right : {v : Result Value Refusal} → v ≡ value_in a f n k → (paper f v ≡ valued a f n k) × TextWithin f v
  unfolding valued
  right e = (ap (paper f) e, subst (TextWithin f) (sym e) (text_within a f n k))

  pub no_flow_lem : (r : Refusal) → no_flow r ≡ a → Err r ≡ value_in a f n k
  unfolding value_in
  no_flow_lem r e = ap (λ (x : Asked). value_in x f n k) e

  pub by_flow : (fl : Flow) → a_flow fl ≡ a → (l : Layout) → l ≡ layout_for fl → {v : Result Value Refusal} → v ≡ value_by l f n k → v ≡ value_in a f n k
  unfolding value_in
  by_flow fl e l is w = w ∙ ap (λ (x : Layout). value_by x f n k) is ∙ ap (λ (x : Asked). value_in x f n k) e
