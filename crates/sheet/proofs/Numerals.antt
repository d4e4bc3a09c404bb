-- Laws of the loops over a number's digits, from the last to the first. Assumes nothing.
use Prim.Native.Nat.{ℕ, suc, ◌+◌, ◌-◌, ◌^◌, ◌≤◌, ◌<◌, ◌/◌, ◌%◌}
use mathlib.Core.Path.{◌≡◌, sym, ap, ◌∙◌}
use mathlib.Core.List.{List, [], ◌∷◌, ◌++◌, append-nil}
use native.Mathlib.Omega.{arith}
use lib.ListN.{length, length-append, set}
use lib.Seq.{append_snoc}
use Rattle.number.specs.Numbers.{decimal}
use Rattle.number.proofs.Spelling.{decimal_one, decimal_more, decimal_short}
use Rattle.sheet.specs.Code.{put}
use Rattle.sheet.proofs.Putting.{put_none, put_before, put_length}

module _ (rest : ℕ) where
  -- a digit less is a tenth
  pub count_more : 10 ≤ rest → length (decimal rest) ≡ length (decimal (rest / 10)) + 1
  count_more h = ap length (decimal_more rest h) ∙ length-append (decimal (rest / 10)) ((rest % 10 + 48) ∷ [])

  pub count_one : rest < 10 → length (decimal rest) ≡ 1
  count_one h = ap length (decimal_one rest h)

-- a number of 64 bits has at most 20 digits
pub count_most : (v : ℕ) → v < 2 ^ 64 → length (decimal v) ≤ 20
count_most v h = decimal_short v 19 (omega arith)

-- some digits are put, and those of rest are to come before them, from i back
pub record PutSoFar (old new : List ℕ) (end v rest i : ℕ) : Type 0 where
  pub digits : List ℕ
  pub are : decimal v ≡ decimal rest ++ digits
  pub place : i + length digits ≡ end
  pub room : length (decimal rest) ≤ i
  pub is : new ≡ put old i digits

module _ (old : List ℕ) (end v : ℕ) (fits : length (decimal v) ≤ end) (within : end ≤ length old) where
  pub put_start : PutSoFar old old end v v end
  put_start =
      record { digits = []; are = sym (append-nil (decimal v)); place = omega arith; room = fits; is = put_none old end }

  module _ (new : List ℕ) (rest i : ℕ) (p : PutSoFar old new end v rest i) where
    pub so_long : length new ≡ length old
    so_long = ap length p.is ∙ put_length old i p.digits (omega (arith, p.place))

    -- one digit more, in front
    stored : (b : ℕ) → 1 ≤ i → set new (i - 1) b ≡ put old (i - 1) (b ∷ p.digits)
    stored b h =
        let back : suc (i - 1) ≡ i = omega arith in
        ap (λ (x : List ℕ). set x (i - 1) b) (p.is ∙ ap (λ (k : ℕ). put old k p.digits) (sym back))
        ∙ put_before old (i - 1) b p.digits (omega (arith, p.place))

    pub put_more : 10 ≤ rest → PutSoFar old (set new (i - 1) (rest % 10 + 48)) end v (rest / 10) (i - 1)
    put_more h =
        let less = count_more rest h in
        record {
          digits = (rest % 10 + 48) ∷ p.digits;
          are = p.are ∙ ap (λ (d : List ℕ). d ++ p.digits) (decimal_more rest h) ∙ append_snoc (decimal (rest / 10)) (rest % 10 + 48) p.digits;
          place = omega (arith, p.place, p.room);
          room = omega (arith, p.room);
          is = stored (rest % 10 + 48) (omega (arith, p.room));
        }

    pub put_last : rest < 10 → set new (i - 1) (rest + 48) ≡ put old (end - length (decimal v)) (decimal v)
    put_last h =
        let whole : decimal v ≡ (rest + 48) ∷ p.digits = p.are ∙ ap (λ (d : List ℕ). d ++ p.digits) (decimal_one rest h) in
        let one = count_one rest h in
        let start : i - 1 ≡ end - length (decimal v) = omega (arith, ap length whole, p.place, p.room) in
        stored (rest + 48) (omega (arith, p.room)) ∙ (λ j. put old (start j) (sym whole j))
