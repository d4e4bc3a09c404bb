-- A room filled byte by byte, and looked at byte by byte. Assumes nothing.
use Rattle.std.proofs.Common.{◌≡◌, ℕ, ◌+◌, ◌<◌, ◌≤◌, Bool, true, false, ◌&&◌, map, sym, ap, eqb, List, length, get_or, drop, set, refl, ◌∙◌, add-one, arith, drop_of_length-le, drop-cons, get_or-set_other, get_or-set_same, eqb-true}
use borrow.Author.Tests.{eqb-false}
use lib.ListN.{length-map}
use Rattle.std.proofs.lemmas.List.{get_or-map}
use Rattle.nightly.specs.Room.{pattern, patterned}

-- the cell x at i, of which b says whether it holds the pattern, then those behind it
module _ {X : Type 0} (number : X → ℕ) (room : List X) (i : ℕ) (x : X) (inside : i < length room) (is : x ≡ get_or room i x) where
  pub looked : (b : Bool) → b ≡ eqb (number x) (pattern i) →
      patterned i (drop i (map number room)) ≡ b && patterned (i + 1) (drop (i + 1) (map number room))
  looked b e =
      let h : i < length (map number room) = simp length-map inside in
      let here : number x ≡ get_or (map number room) i 0 = ap number is ∙ sym (get_or-map number room i x 0 inside) in
      rw (add-one, drop-cons (map number room) i 0 h, ← here, ← e)

-- past the end there is nothing left that does not hold it
pub kept_end : (room : List ℕ) (i : ℕ) → length room ≤ i → patterned i (drop i room) ≡ true
kept_end room i h = rw (drop_of_length-le room h)

-- the bytes before i hold the pattern
abbrev pub Front : List ℕ → ℕ → Type 0
Front room i = (j : ℕ) → j < i → get_or room j 0 ≡ pattern j

pub front_next : (room : List ℕ) (i b : ℕ) → i < length room → b ≡ pattern i → Front room i → Front (set room i b) (i + 1)
front_next room i b h e front j k = go (eqb j i) refl
  where
    go : (t : Bool) → eqb j i ≡ t → get_or (set room i b) j 0 ≡ pattern j
    go true q = rw (eqb-true j i q) (get_or-set_same room i b 0 h ∙ e)
    go false q =
        let other = eqb-false j i q in
        get_or-set_other room i j b 0 (λ z. omega arith) ∙ front j (omega arith)
