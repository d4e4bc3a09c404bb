-- Bytes put among lent ones, step by step: what is left to put gives what the whole gives. Assumes nothing.
use Prim.Native.Nat.{ℕ, ◌+◌, ◌≤◌, ◌<◌}
use mathlib.Core.Path.{◌≡◌, refl, sym, ap, ◌∙◌}
use mathlib.Core.List.{List, [], ◌∷◌, ◌++◌}
use native.Mathlib.Omega.{arith}
use lib.ListN.{length, set, length-append}
use Rattle.sheet.specs.Code.{put}
use Rattle.sheet.proofs.Putting.{put_none, put_one, put_length, put_behind}

-- from the bytes out, rest put at e gives what whole put at a place of the old bytes gives
pub record Goes (old : List ℕ) (at : ℕ) (whole out : List ℕ) (e : ℕ) (rest : List ℕ) : Type 0 where
  pub is : put out e rest ≡ put old at whole
  pub ends : e + length rest ≡ at + length whole
  pub fits : at + length whole ≤ length old
  pub long : length out ≡ length old

pub goes_start : (old : List ℕ) (at : ℕ) (whole : List ℕ) → at + length whole ≤ length old → Goes old at whole old at whole
goes_start old at whole h = record { is = refl; ends = refl; fits = h; long = refl }

module _ {old : List ℕ} {at : ℕ} {whole out : List ℕ} {e : ℕ} where
  -- what is left, by another name
  pub goes_as : {rest rest' : List ℕ} → Goes old at whole out e rest → rest ≡ rest' → Goes old at whole out e rest'
  goes_as g q = record { is = ap (put out e) (sym q) ∙ g.is; ends = omega (arith, ap length q, g.ends); fits = g.fits; long = g.long }

  -- from the same place, by another name
  pub goes_at : {rest : List ℕ} {e' : ℕ} → Goes old at whole out e rest → e ≡ e' → Goes old at whole out e' rest
  goes_at g q = rw q at g

  -- a part put
  pub goes_on : (x y : List ℕ) → Goes old at whole out e (x ++ y) → Goes old at whole (put out e x) (e + length x) y
  goes_on x y g =
      let room : e + length x ≤ length out = omega (arith, g.ends, g.fits, g.long, length-append x y) in
      record {
        is = put_behind out e x room y ∙ g.is;
        ends = omega (arith, g.ends, length-append x y);
        fits = g.fits;
        long = put_length out e x room ∙ g.long;
      }

  pub goes_part : (x y new : List ℕ) (e' : ℕ) → Goes old at whole out e (x ++ y) → new ≡ put out e x → e' ≡ e + length x → Goes old at whole new e' y
  goes_part x y new e' g p q =
      let h = goes_on x y g in
      record {
        is = (λ i. put (p i) (q i) y) ∙ h.is;
        ends = omega (arith, h.ends);
        fits = g.fits;
        long = ap length p ∙ h.long;
      }

  -- room for what is put next
  pub goes_room : (x y : List ℕ) → Goes old at whole out e (x ++ y) → e + length x ≤ length out
  goes_room x y g = omega (arith, g.ends, g.fits, g.long, length-append x y)

  pub goes_below : (b : ℕ) (y : List ℕ) → Goes old at whole out e (b ∷ y) → e < length out
  goes_below b y g = omega (arith, g.ends, g.fits, g.long)

  -- one byte put
  pub goes_byte : (b : ℕ) (y : List ℕ) → Goes old at whole out e (b ∷ y) → Goes old at whole (set out e b) (e + 1) y
  goes_byte b y g = goes_part (b ∷ []) y (set out e b) (e + 1) g (put_one out e b (goes_below b y g)) refl

  -- nothing left
  pub goes_done : Goes old at whole out e [] → (out ≡ put old at whole) × (e ≡ at + length whole)
  goes_done g = (put_none out e ∙ g.is, omega (arith, g.ends))

  -- one part left
  pub goes_last : (x new : List ℕ) (e' : ℕ) → Goes old at whole out e x → new ≡ put out e x → e' ≡ e + length x → (new ≡ put old at whole) × (e' ≡ at + length whole)
  goes_last x new e' g p q = (p ∙ g.is, omega (arith, g.ends))

  -- the same bytes lent
  pub put_last_length : {rest x new : List ℕ} → Goes old at whole out e rest → rest ≡ x → new ≡ put out e x → length new ≡ length old
  put_last_length {x = x} g q p = ap length p ∙ put_length out e x (omega (arith, g.ends, g.fits, g.long, ap length q)) ∙ g.long

module _ {old : List ℕ} {at : ℕ} {whole out : List ℕ} {e : ℕ} where
  -- two bytes put
  pub goes_two : {a b : ℕ} (y : List ℕ) → Goes old at whole out e (a ∷ b ∷ y) → Goes old at whole (set (set out e a) (e + 1) b) (e + 2) y
  goes_two {a} {b} y g =
      let h = goes_byte b y (goes_byte a (b ∷ y) g) in
      let two : e + 1 + 1 ≡ e + 2 = omega arith in
      rw two at h
