-- A text's place holds its bytes, within the file. Assumes nothing.
use Prim.Native.Nat.{ℕ, ◌+◌, ◌≤◌}
use mathlib.Core.Path.{◌≡◌, refl, ap}
use mathlib.Core.Bool.{Bool, true, false, cond}
use mathlib.Core.List.{List}
use lib.Dec.{eqb, leb}
use lib.ListN.{length}
use borrow.Author.Tests.{leb-true}
use Rattle.text.specs.Rules.{must}
use Rattle.text.specs.Characters.{from_to}
use Rattle.number.proofs.Digits.{and_left, and_right}
use Rattle.record.specs.Records.{records, fields, field, IsPart, bar}
use Rattle.place.specs.Places.{record_at, place_at, refusal_at}
use Rattle.place.proofs.Points.{field_at_place}
use Rattle.field.specs.declared.Content.{Content}
use Rattle.field.specs.declared.Content.TheVariants as contents
use Rattle.layout.specs.Layout.{Layout}
use Rattle.flow.specs.Publication.{layout_for}
use Rattle.flow.specs.Editions.{Asked, a_flow, no_flow}
use Rattle.judge.specs.File.{placed_by}
use Rattle.value.specs.Value.{is_there, end_of, text_at, numbered, as_value, answer_in, field_value, of_accepted, value_at, value_by, value_in, paper, text, TextWithin}
use Rattle.value.specs.declared.Value.{Value}
use Rattle.std.specs.Prelude.{Result, Ok, Err}
use Rattle.place.specs.declared.Refusal.{Refusal}

-- a number from 1 on
counted : (n k : ℕ) → from_to 1 n k ≡ true → (1 ≤ k) × (k ≤ n)
counted n k e = (leb-true 1 k (and_left (leb 1 k) (leb k n) e), leb-true k n (and_right (leb 1 k) (leb k n) e))

-- the place of a field that is there holds the field's bytes, within the file
pub text_lies : (f : List ℕ) (n k : ℕ) → is_there f n k ≡ true
    → IsPart f (place_at bar f n k) (place_at bar f n k + length (field bar k (record_at f n))) (field bar k (record_at f n))
unfolding is_there
text_lies f n k e =
    let many = length (fields bar (record_at f n)) in
    let i = counted (length (records f)) n (and_left (from_to 1 (length (records f)) n) (from_to 1 many k) e) in
    let j = counted many k (and_right (from_to 1 (length (records f)) n) (from_to 1 many k) e) in
    field_at_place bar f n k i.0 i.1 j.0 j.1

-- so a text's value is the field's bytes
pub text_bytes : (f : List ℕ) (n k : ℕ) → is_there f n k ≡ true
    → paper f (text_at f n k) ≡ text (place_at bar f n k) (place_at bar f n k + length (field bar k (record_at f n))) (field bar k (record_at f n))
text_bytes f n k e = ap (text (place_at bar f n k) (place_at bar f n k + length (field bar k (record_at f n)))) (text_lies f n k e).is

-- and every text that is answered lies within the file
within_answer : (f : List ℕ) (n k : ℕ) → TextWithin f (text_at f n k) → (a : Result Content ℕ) → TextWithin f (as_value n k (place_at bar f n k) (end_of f n k) a)
within_answer f n k h (Err number) = tt
within_answer f n k h (Ok contents.Empty) = tt
within_answer f n k h (Ok (contents.Number z)) = tt
within_answer f n k h (Ok (contents.Truth b)) = tt
within_answer f n k h (Ok contents.Text) = h

within_either : (f : List ℕ) (b : Bool) (v w : Result Value Refusal) → TextWithin f v → TextWithin f w → TextWithin f (cond b v w)
within_either f true v w h g = h
within_either f false v w h g = g

within_there : (f : List ℕ) (n k : ℕ) (v : Result Value Refusal) (b : Bool) → (b ≡ true → TextWithin f v) → TextWithin f (must b (Err (refusal_at bar f 18 n k)) v)
within_there f n k v true h = h refl
within_there f n k v false h = tt

within_at : (l : Layout) (f : List ℕ) (n k : ℕ) → TextWithin f (value_at l f n k)
unfolding value_at field_value
within_at l f n k =
    within_there f n k (field_value l f n k) (is_there f n k)
    (λ e.
    let p = text_lies f n k e in
    let h : TextWithin f (text_at f n k) = (p.ordered, p.within) in
    within_either f (eqb k 1) (text_at f n k) _ h (within_answer f n k h (numbered (answer_in l (record_at f n) k))))

within_accepted : (f : List ℕ) (w : Result ℕ Refusal) (v : Result Value Refusal) → TextWithin f v → TextWithin f (of_accepted w v)
within_accepted f (Ok n) v h = h
within_accepted f (Err r) v h = tt

-- by any layout
pub within_by : (l : Layout) (f : List ℕ) (n k : ℕ) → TextWithin f (value_by l f n k)
unfolding value_by
within_by l f n k = within_accepted f (placed_by l f) (value_at l f n k) (within_at l f n k)

-- and for whatever is asked
pub text_within : (a : Asked) (f : List ℕ) (n k : ℕ) → TextWithin f (value_in a f n k)
unfolding value_in
text_within (a_flow fl) f n k = within_by (layout_for fl) f n k
text_within (no_flow r) f n k = tt
