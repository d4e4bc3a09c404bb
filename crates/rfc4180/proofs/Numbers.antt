-- The walk by the numbers of its states: what it does for each number. Assumes nothing.
use Prim.Native.Nat.{ℕ}
use mathlib.Core.Path.{◌≡◌, refl, ap, ◌∙◌}
use mathlib.Core.Bool.{Bool, true, false, cond}
use lib.Dec.{eqb}
use borrow.Author.Tests.{eqb-true}
use Rattle.rfc4180.specs.Rfc.{comma, quote, return, feed, textdata}
use Rattle.rfc4180.specs.Walk.{parting, going, opening, inside, behind, next_of, number_of, next_number}
use Rattle.rfc4180.specs.declared.State.{State}
use Rattle.rfc4180.specs.declared.State.TheVariants.{AtLine, AtField, Plain, InQuotes, AfterQuote, AfterReturn, Stopped}

-- the number that each byte leads to: after a byte that ends a field, in a field, at its first byte, in quotes, behind a quotation mark
abbrev pub parting_number : ℕ → ℕ
parting_number b = cond (eqb b comma) 1 (cond (eqb b return) 5 6)

abbrev pub going_number : ℕ → ℕ
going_number b = cond (textdata b) 2 (parting_number b)

abbrev pub opening_number : ℕ → ℕ
opening_number b = cond (eqb b quote) 3 (going_number b)

abbrev pub inside_number : ℕ → ℕ
inside_number b = cond (eqb b quote) 4 (cond (eqb b comma) 3 (cond (textdata b) 3 6))

abbrev pub behind_number : ℕ → ℕ
behind_number b = cond (eqb b quote) 3 (parting_number b)

-- the same of the states
of_cond : (t : Bool) (a b : State) → number_of (cond t a b) ≡ cond t (number_of a) (number_of b)
of_cond true a b = refl
of_cond false a b = refl

module _ (b : ℕ) where
  parts : number_of (parting b) ≡ parting_number b
  parts = of_cond (eqb b comma) AtField (cond (eqb b return) AfterReturn Stopped) ∙ ap (cond (eqb b comma) 1) (of_cond (eqb b return) AfterReturn Stopped)

  goes : number_of (going b) ≡ going_number b
  goes = of_cond (textdata b) Plain (parting b) ∙ ap (cond (textdata b) 2) parts

  opens : number_of (opening b) ≡ opening_number b
  opens = of_cond (eqb b quote) InQuotes (going b) ∙ ap (cond (eqb b quote) 3) goes

  stays : number_of (inside b) ≡ inside_number b
  stays =
      of_cond (eqb b quote) AfterQuote (cond (eqb b comma) InQuotes (cond (textdata b) InQuotes Stopped))
      ∙ ap (cond (eqb b quote) 4)
      (of_cond (eqb b comma) InQuotes (cond (textdata b) InQuotes Stopped) ∙ ap (cond (eqb b comma) 3) (of_cond (textdata b) InQuotes Stopped))

  closes : number_of (behind b) ≡ behind_number b
  closes = of_cond (eqb b quote) InQuotes (parting b) ∙ ap (cond (eqb b quote) 3) parts

-- by the number of a state and a byte: each number but 2 to 6 reads the first byte of a field
abbrev pub table : ℕ → ℕ → ℕ
table n b =
    cond (eqb n 3) (inside_number b)
    (cond (eqb n 2) (going_number b)
    (cond (eqb n 4) (behind_number b)
    (cond (eqb n 5) (cond (eqb b feed) 0 6)
    (cond (eqb n 6) 6 (opening_number b)))))

table_go : (n b : ℕ) (t u v w x y : Bool) → eqb n 0 ≡ t → eqb n 2 ≡ u → eqb n 3 ≡ v → eqb n 4 ≡ w → eqb n 5 ≡ x → eqb n 6 ≡ y → next_number n b ≡ table n b
unfolding next_of
table_go n b true u v w x y e f g h i j = rw (eqb-true n 0 e) (opens b)
table_go n b false true v w x y e f g h i j = rw (eqb-true n 2 f) (goes b)
table_go n b false false true w x y e f g h i j = rw (eqb-true n 3 g) (stays b)
table_go n b false false false true x y e f g h i j = rw (eqb-true n 4 h) (closes b)
table_go n b false false false false true y e f g h i j = rw (eqb-true n 5 i) (of_cond (eqb b feed) AtLine Stopped)
table_go n b false false false false false true e f g h i j = rw (eqb-true n 6 j)
table_go n b false false false false false false e f g h i j = rw (e, f, g, h, i, j) (opens b)

pub next_is : (n b : ℕ) → next_number n b ≡ table n b
next_is n b = table_go n b (eqb n 0) (eqb n 2) (eqb n 3) (eqb n 4) (eqb n 5) (eqb n 6) refl refl refl refl refl refl
