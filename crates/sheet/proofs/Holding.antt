-- Laws of bytes that stand among others, and in parts. Assumes nothing.
use Prim.Native.Nat.{ℕ}
use mathlib.Core.Path.{◌≡◌, refl, sym, ap, ◌∙◌}
use mathlib.Core.Bool.{Bool, true, false, cond, ◌||◌, true≢false}
use mathlib.Core.List.{List, [], ◌∷◌, ◌++◌}
use lib.Dec.{eqb}
use borrow.Author.Tests.{eqb-true, ne_eqb}
use Rattle.text.specs.Characters.{all}
use Rattle.record.specs.Records.{onto, records, fields, joined, holds, some_holds}
use Rattle.record.proofs.Cutting.{neither}
use Rattle.number.proofs.Digits.{and_left, and_right}

module _ (b : ℕ) where
  pub none_append : (x y : List ℕ) → holds b x ≡ false → holds b y ≡ false → holds b (x ++ y) ≡ false
  unfolding holds
  none_append [] y p q = q
  none_append (a ∷ x) y p q =
      let h = neither (eqb a b) (holds b x) p in
      rw h.0 (none_append x y h.1 q)

  pub none_snoc : (ps : List (List ℕ)) (p : List ℕ) → some_holds b ps ≡ false → holds b p ≡ false → some_holds b (ps ++ p ∷ []) ≡ false
  unfolding some_holds
  none_snoc [] p h k = rw k
  none_snoc (q ∷ ps) p h k =
      let n = neither (holds b q) (some_holds b ps) h in
      rw n.0 (none_snoc ps p n.1 k)

  -- joined lines hold what the lines hold, and line feeds
  pub none_joined : (rs : List (List ℕ)) → eqb 0x0A b ≡ false → some_holds b rs ≡ false → holds b (joined rs) ≡ false
  unfolding some_holds joined holds
  none_joined [] e h = refl
  none_joined (r ∷ rs) e h =
      let n = neither (holds b r) (some_holds b rs) h in
      none_append r (0x0A ∷ joined rs) n.0 (rw e (none_joined rs e n.1))

  -- where each byte passes a test, one that does not pass it is not among them
  other : (p : ℕ → Bool) (a : ℕ) → p a ≡ true → p b ≡ false → eqb a b ≡ false
  other p a e f = ne_eqb a b (λ q. true≢false (sym e ∙ ap p q ∙ f))

  pub none_passing : (p : ℕ → Bool) (s : List ℕ) → all p s ≡ true → p b ≡ false → holds b s ≡ false
  unfolding holds
  none_passing p [] e f = refl
  none_passing p (a ∷ s) e f =
      rw (other p a (and_left (p a) (all p s) e) f) (none_passing p s (and_right (p a) (all p s) e) f)

  -- a byte that is not the separator stands among some bytes where it stands in one of their parts
  or_assoc : (x y z : Bool) → (x || y || z) ≡ (x || (y || z))
  or_assoc true y z = refl
  or_assoc false y z = refl

  or_none : (x : Bool) → (x || false || false) ≡ (x || false)
  or_none true = refl
  or_none false = refl

  cut_go : (sep a : ℕ) (ps : List (List ℕ)) (t : Bool) → (b ≡ sep → ⊥) → eqb a sep ≡ t
      → some_holds b (cond t ([] ∷ ps) (onto a ps)) ≡ (eqb a b || some_holds b ps)
  unfolding some_holds holds onto
  cut_go sep a ps true h e = rw (ne_eqb a b (λ q. h (sym q ∙ eqb-true a sep e)))
  cut_go sep a [] false h e = or_none (eqb a b)
  cut_go sep a (p ∷ ps) false h e = or_assoc (eqb a b) (holds b p) (some_holds b ps)

  pub fields_hold : (sep : ℕ) (s : List ℕ) → (b ≡ sep → ⊥) → some_holds b (fields sep s) ≡ holds b s
  unfolding some_holds holds fields
  fields_hold sep [] h = refl
  fields_hold sep (a ∷ s) h =
      cut_go sep a (fields sep s) (eqb a sep) h refl ∙ ap (λ (x : Bool). eqb a b || x) (fields_hold sep s h)

  pub records_hold : (s : List ℕ) → (b ≡ 0x0A → ⊥) → some_holds b (records s) ≡ holds b s
  unfolding some_holds holds records
  records_hold [] h = refl
  records_hold (a ∷ s) h =
      cut_go 0x0A a (records s) (eqb a 0x0A) h refl ∙ ap (λ (x : Bool). eqb a b || x) (records_hold s h)
