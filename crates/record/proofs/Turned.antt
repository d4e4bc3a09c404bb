-- Laws of bytes with one value turned to another.
use Prim.Native.Nat.{ℕ, zero, suc, ◌≤◌, ◌<◌}
use mathlib.Core.Path.{◌≡◌, refl, sym, ap, ap₂, ◌∙◌}
use mathlib.Core.List.{List, [], ◌∷◌, ◌++◌, map}
use mathlib.Core.Bool.{Bool, true, false, cond}
use native.Mathlib.Omega.{arith}
use lib.Dec.{eqb}
use lib.ListN.{length, get_or, length-map, get_or-eq_default}
use borrow.Author.Tests.{eqb-true, eq-eqb, ne_eqb}
use Rattle.record.specs.Records.{onto, records, fields, turned_byte, turned, joined, holds, Bytes}
use Rattle.record.proofs.Cutting.{neither}

module _ (from to : ℕ) where
  -- turned bytes are as many, and each is the turned byte
  pub turned_length : (s : List ℕ) → length (turned from to s) ≡ length s
  unfolding turned
  turned_length s = length-map s (turned_byte from to)

  turned_at : (s : List ℕ) (i : ℕ) → i < length s → get_or (turned from to s) i 0 ≡ turned_byte from to (get_or s i 0)
  unfolding turned
  turned_at [] i h = absurd (omega arith)
  turned_at (b ∷ s) zero h = refl
  turned_at (b ∷ s) (suc i) h = turned_at s i (omega arith)

  pub turned_past : (s : List ℕ) (i : ℕ) → length s ≤ i → get_or (turned from to s) i 0 ≡ 0
  turned_past s i h = get_or-eq_default (turned from to s) 0 (omega (arith, turned_length s))

  -- a byte of the one value is turned to the other, and any other byte stays
  module _ (s : List ℕ) (i : ℕ) (h : i < length s) where
    pub turned_here : get_or s i 0 ≡ from → get_or (turned from to s) i 0 ≡ to
    turned_here e = turned_at s i h ∙ simp (eq-eqb _ _ e)

    pub turned_other : (get_or s i 0 ≡ from → ⊥) → get_or (turned from to s) i 0 ≡ get_or s i 0
    turned_other e = turned_at s i h ∙ simp (ne_eqb _ _ e)

  pub turned_append : (a b : List ℕ) → turned from to (a ++ b) ≡ turned from to a ++ turned from to b
  unfolding turned
  turned_append [] b = refl
  turned_append (x ∷ a) b = ap (λ (s : List ℕ). turned_byte from to x ∷ s) (turned_append a b)

  -- turned there and back, where the other value did not stand before
  back_go : (b : ℕ) (t : Bool) → eqb b from ≡ t → eqb b to ≡ false → cond (eqb (cond t to b) to) from (cond t to b) ≡ b
  back_go b true e f = rw (eq-eqb to to refl) (sym (eqb-true b from e))
  back_go b false e f = rw f

  pub turned_back : (s : List ℕ) → holds to s ≡ false → turned to from (turned from to s) ≡ s
  unfolding turned holds
  turned_back [] h = refl
  turned_back (b ∷ s) h =
      let p = neither (eqb b to) (holds to s) h in
      ap₂ ◌∷◌ (back_go b (eqb b from) refl p.0) (turned_back s p.1)

  -- what was turned does not stand any more
  gone_go : (b : ℕ) (t : Bool) → (from ≡ to → ⊥) → eqb b from ≡ t → eqb (cond t to b) from ≡ false
  gone_go b true h e = ne_eqb to from (λ p. h (sym p))
  gone_go b false h e = e

  pub turned_gone : (s : List ℕ) → (from ≡ to → ⊥) → holds from (turned from to s) ≡ false
  unfolding turned holds
  turned_gone [] h = refl
  turned_gone (b ∷ s) h = rw (gone_go b (eqb b from) h refl) (turned_gone s h)

  -- bytes stay bytes
  byte_go : (b : ℕ) (t : Bool) → to < 256 → b < 256 → cond t to b < 256
  byte_go b true h k = h
  byte_go b false h k = k

  pub turned_bytes : (s : List ℕ) → to < 256 → Bytes s → Bytes (turned from to s)
  unfolding turned
  turned_bytes [] h k i = omega arith
  turned_bytes (b ∷ s) h k zero = byte_go b (eqb b from) h (k 0)
  turned_bytes (b ∷ s) h k (suc i) = turned_bytes s h (λ j. k (suc j)) i

  -- where the other value does not stand, the turned bytes have the same fields, parted by it
  fields_go : (b : ℕ) (fs : List (List ℕ)) (t : Bool) → eqb b to ≡ false
      → cond (eqb (cond t to b) to) ([] ∷ fs) (onto (cond t to b) fs) ≡ cond t ([] ∷ fs) (onto b fs)
  fields_go b fs true h = rw (eq-eqb to to refl)
  fields_go b fs false h = rw h

  pub fields_turned : (r : List ℕ) → holds to r ≡ false → fields to (turned from to r) ≡ fields from r
  unfolding fields turned holds
  fields_turned [] h = refl
  fields_turned (b ∷ s) h =
      let p = neither (eqb b to) (holds to s) h in
      rw (fields_turned s p.1) (fields_go b (fields from s) (eqb b from) p.0)

  -- where line feeds are not turned, joined lines are turned line by line
  module _ (h : from ≡ 0x0A → ⊥) where
    pub turned_joined : (rs : List (List ℕ)) → turned from to (joined rs) ≡ joined (map (turned from to) rs)
    unfolding turned joined
    turned_joined [] = refl
    turned_joined (r ∷ rs) =
        let feed : turned_byte from to 0x0A ≡ 0x0A = rw (ne_eqb 0x0A from (λ p. h (sym p))) in
        turned_append r (0x0A ∷ joined rs) ∙ ap₂ (λ (b : ℕ) (s : List ℕ). turned from to r ++ b ∷ s) feed (turned_joined rs)

    -- and where nothing is turned to line feeds, the records of turned bytes are the turned records
    module _ (k : to ≡ 0x0A → ⊥) where
      feed_go : (b : ℕ) (t : Bool) → eqb b from ≡ t → eqb (cond t to b) 0x0A ≡ eqb b 0x0A
      feed_go b true e = ne_eqb to 0x0A k ∙ sym (ne_eqb b 0x0A (λ p. h (sym (eqb-true b from e) ∙ p)))
      feed_go b false e = refl

      map_go : (b : ℕ) (ps : List (List ℕ)) (t : Bool)
          → cond t ([] ∷ map (turned from to) ps) (onto (turned_byte from to b) (map (turned from to) ps)) ≡ map (turned from to) (cond t ([] ∷ ps) (onto b ps))
      unfolding onto turned
      map_go b ps true = refl
      map_go b [] false = refl
      map_go b (p ∷ ps) false = refl

      pub records_turned : (s : List ℕ) → records (turned from to s) ≡ map (turned from to) (records s)
      unfolding records turned
      records_turned [] = refl
      records_turned (b ∷ s) = rw (feed_go b (eqb b from) refl, records_turned s) (map_go b (records s) (eqb b 0x0A))

      pub records_turned_length : (s : List ℕ) → length (records (turned from to s)) ≡ length (records s)
      records_turned_length s = ap length (records_turned s) ∙ length-map (records s) (turned from to)

-- a value turned to itself changes nothing
same_go : (v b : ℕ) (t : Bool) → eqb b v ≡ t → cond t v b ≡ b
same_go v b true e = sym (eqb-true b v e)
same_go v b false e = refl

pub turned_same : (v : ℕ) (s : List ℕ) → turned v v s ≡ s
unfolding turned
turned_same v [] = refl
turned_same v (b ∷ s) = rw (same_go v b (eqb b v) refl, turned_same v s)
