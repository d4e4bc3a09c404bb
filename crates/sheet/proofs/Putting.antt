-- Laws of bytes put among lent ones. Assumes nothing.
use Prim.Native.Nat.{ℕ, suc, ◌+◌, ◌≤◌, ◌<◌}
use mathlib.Core.Path.{◌≡◌, sym, ap, ap₂, ◌∙◌}
use mathlib.Core.List.{List, [], ◌∷◌, ◌++◌, append_assoc, append-nil}
use native.Mathlib.Nat.{add-zero}
use native.Mathlib.Numerals.{add-one}
use native.Mathlib.Omega.{arith}
use lib.ListN.{length, take, drop, set, length-append, length-drop, take-append-drop}
use lib.Seq.{length-take-le, take_at, drop_at, drop-drop, append_snoc, set_split, set-append_left, take-set-lt, take-suc-set}
use Rattle.sheet.specs.Code.{put}

module _ (old : List ℕ) where
  -- put nothing
  pub put_none : (at : ℕ) → old ≡ put old at []
  put_none at = sym (rw (add-zero at, append-nil (take at old)) (take-append-drop at old))

  -- one byte
  pub put_one : (at b : ℕ) → at < length old → set old at b ≡ put old at (b ∷ [])
  put_one at b h = set_split old at b h ∙ rw (add-one at) (sym (append_snoc (take at old) b (drop (suc at) old)))

  module _ (at : ℕ) (x : List ℕ) (fits : at + length x ≤ length old) where
    front_length : length (take at old ++ x) ≡ at + length x
    front_length = omega (arith, length-append (take at old) x, length-take-le at old (omega arith))

    pub put_length : length (put old at x) ≡ length old
    put_length = omega (arith, length-append (take at old ++ x) (drop (at + length x) old), front_length, length-drop (at + length x) old)

    -- bytes put behind those that were put
    pub put_behind : (y : List ℕ) → put (put old at x) (at + length x) y ≡ put old at (x ++ y)
    put_behind y =
        let n = at + length x in
        let first : take n (put old at x) ≡ take at old ++ x = take_at (take at old ++ x) (drop n old) n front_length in
        let end : n + length y ≡ at + length (x ++ y) = omega (arith, length-append x y) in
        let rest : drop (n + length y) (put old at x) ≡ drop (at + length (x ++ y)) old =
        sym (drop-drop (length y) n (put old at x)) ∙ ap (drop (length y)) (drop_at (take at old ++ x) (drop n old) n front_length)
        ∙ drop-drop (length y) n old ∙ ap (λ (k : ℕ). drop k old) end in
        ap₂ (λ (a b : List ℕ). a ++ y ++ b) first rest ∙ ap (λ (a : List ℕ). a ++ drop (at + length (x ++ y)) old) (append_assoc (take at old) x y)

  -- one byte put before those that were put
  pub put_before : (i b : ℕ) (x : List ℕ) → suc i + length x ≤ length old → set (put old (suc i) x) i b ≡ put old i (b ∷ x)
  put_before i b x h =
      let long : length (take (suc i) old) ≡ suc i = length-take-le (suc i) old (omega arith) in
      let end : suc i + length x ≡ i + suc (length x) = omega arith in
      set-append_left (take (suc i) old ++ x) (drop (suc i + length x) old) i b (omega (arith, long, length-append (take (suc i) old) x))
      ∙ ap (λ (a : List ℕ). a ++ drop (suc i + length x) old)
      (set-append_left (take (suc i) old) x i b (omega (arith, long))
      ∙ ap (λ (a : List ℕ). a ++ x) (sym (take-set-lt (suc i) old i b (omega arith)) ∙ take-suc-set old i b (omega arith))
      ∙ append_snoc (take i old) b x)
      ∙ ap (λ (k : ℕ). take i old ++ b ∷ x ++ drop k old) end

-- bytes put so far from a place on, and more behind them
module _ (old new : List ℕ) (at : ℕ) (x : List ℕ) (fits : at + length x ≤ length old) (is : new ≡ put old at x) where
  pub grown_length : length new ≡ length old
  grown_length = ap length is ∙ put_length old at x fits

  pub grown : (e : ℕ) (y : List ℕ) → e ≡ at + length x → put new e y ≡ put old at (x ++ y)
  grown e y q = (λ i. put (is i) (q i) y) ∙ put_behind old at x fits y

  pub grown_byte : (e b : ℕ) → e ≡ at + length x → e < length old → set new e b ≡ put old at (x ++ b ∷ [])
  grown_byte e b q h = put_one new e b (omega (arith, grown_length)) ∙ grown e (b ∷ []) q
