-- The slots after a record say the last keys with that record counted in. Assumes nothing.
use Prim.Native.Nat.{ℕ, zero, suc, ◌+◌, ◌*◌, ◌≤◌}
use mathlib.Core.Path.{◌≡◌, refl, sym, ap, ◌∙◌}
use mathlib.Core.Bool.{Bool, true, false, cond}
use mathlib.Core.List.{List, []}
use native.Mathlib.Omega.{arith}
use lib.Dec.{eqb, ltb}
use lib.ListN.{length, get_or, take, drop, set, length-set, replicate}
use lib.Seq.{get_or-set_same, get_or-set_other}
use borrow.Author.Tests.{eqb-true, eqb-false, lt-ltb, le-ltb}
use Rattle.layout.specs.Layout.{Layout, row}
use Rattle.fault.specs.Record.{kind_of, key_in}
use Rattle.judge.specs.Record.{key_with}
use Rattle.fault.specs.Code.{key_in_slots}

-- the slots after a record of kind k, the n-th, whose key starts at a and is len bytes long
abbrev pub put_in : List ℕ → ℕ → ℕ → ℕ → ℕ → List ℕ
put_in slots k n a len = set (set (set slots (3 * k) n) (3 * k + 1) a) (3 * k + 2) len

module _ (slots : List ℕ) (j n a len : ℕ) (size : length slots ≡ 99) (small : j ≤ 32) where
  abbrev s₁ : List ℕ
  s₁ = set slots (3 * j) n

  abbrev s₂ : List ℕ
  s₂ = set s₁ (3 * j + 1) a

  size₁ : length s₁ ≡ 99
  size₁ = simp length-set size

  size₂ : length s₂ ≡ 99
  size₂ = simp length-set size

  pub put_size : length (put_in slots j n a len) ≡ 99
  put_size = simp length-set size

  pub stamp_same : get_or (put_in slots j n a len) (3 * j) 0 ≡ n
  stamp_same =
      get_or-set_other s₂ (3 * j + 2) (3 * j) len 0 (λ q. omega arith)
      ∙ get_or-set_other s₁ (3 * j + 1) (3 * j) a 0 (λ q. omega arith)
      ∙ get_or-set_same slots (3 * j) n 0 (omega arith)

  pub start_same : get_or (put_in slots j n a len) (3 * j + 1) 0 ≡ a
  start_same =
      get_or-set_other s₂ (3 * j + 2) (3 * j + 1) len 0 (λ q. omega arith)
      ∙ get_or-set_same s₁ (3 * j + 1) a 0 (omega (arith, size₁))

  pub length_same : get_or (put_in slots j n a len) (3 * j + 2) 0 ≡ len
  length_same = get_or-set_same s₂ (3 * j + 2) len 0 (omega (arith, size₂))

  -- a slot of another kind
  other : (i : ℕ) → (i ≡ 3 * j → ⊥) → (i ≡ 3 * j + 1 → ⊥) → (i ≡ 3 * j + 2 → ⊥) → get_or (put_in slots j n a len) i 0 ≡ get_or slots i 0
  other i x y z =
      get_or-set_other s₂ (3 * j + 2) i len 0 z ∙ get_or-set_other s₁ (3 * j + 1) i a 0 y ∙ get_or-set_other slots (3 * j) i n 0 x

  pub stamp_other : (k : ℕ) → (j ≡ k → ⊥) → get_or (put_in slots j n a len) (3 * k) 0 ≡ get_or slots (3 * k) 0
  stamp_other k x = other (3 * k) (λ q. x (omega arith)) (λ q. x (omega arith)) (λ q. x (omega arith))

  pub start_other : (k : ℕ) → (j ≡ k → ⊥) → get_or (put_in slots j n a len) (3 * k + 1) 0 ≡ get_or slots (3 * k + 1) 0
  start_other k x = other (3 * k + 1) (λ q. x (omega arith)) (λ q. x (omega arith)) (λ q. x (omega arith))

  pub length_other : (k : ℕ) → (j ≡ k → ⊥) → get_or (put_in slots j n a len) (3 * k + 2) 0 ≡ get_or slots (3 * k + 2) 0
  length_other k x = other (3 * k + 2) (λ q. x (omega arith)) (λ q. x (omega arith)) (λ q. x (omega arith))

-- no key counts where the head's record is as late as the kind's
key_anew : (b : Bool) (x : List ℕ) → b ≡ false → cond b x [] ≡ []
key_anew b x e = rw e

key_since : (b : Bool) (x : List ℕ) → b ≡ true → cond b x [] ≡ x
key_since b x e = rw e

module _ (sep : ℕ) (l : Layout) (file slots r : List ℕ) (j m n a len : ℕ) (size : length slots ≡ 99) (small : j ≤ 32)
    (is : j ≡ kind_of sep l r) (later : n ≡ m + 1) (stamped : (k : ℕ) → get_or slots (3 * k) 0 ≤ m)
    (place : take len (drop a file) ≡ key_in sep l j r) where
  abbrev new : List ℕ
  new = put_in slots j n a len

  stamp_go : (k : ℕ) (b : Bool) → eqb j k ≡ b → get_or new (3 * k) 0 ≤ n
  stamp_go k true q =
      let w : j ≡ k = eqb-true j k q in
      omega (arith, ap (λ (x : ℕ). get_or new (3 * x) 0) w, stamp_same slots j n a len size small)
  stamp_go k false q = omega (arith, stamp_other slots j n a len size small k (eqb-false j k q), stamped k)

  -- no stamp is past the count
  pub stamps_next : (k : ℕ) → get_or new (3 * k) 0 ≤ n
  stamps_next k = stamp_go k (eqb j k) refl

  module _ (k : ℕ) where
    abbrev H : ℕ
    H = (row l k).head

    key_go : (b d : Bool) → eqb j H ≡ b → eqb j k ≡ d → key_in_slots l file new k ≡ cond b [] (cond d (key_in sep l k r) (key_in_slots l file slots k))
    key_go true d q w =
        let u : j ≡ H = eqb-true j H q in
        key_anew (ltb (get_or new (3 * H) 0) (get_or new (3 * k) 0)) _
        (le-ltb (get_or new (3 * H) 0) (get_or new (3 * k) 0) (omega (arith, stamps_next k, stamp_same slots j n a len size small, ap (λ (x : ℕ). get_or new (3 * x) 0) u)))
    key_go false true q w =
        let same : j ≡ k = eqb-true j k w in
        let pH = stamp_other slots j n a len size small H (eqb-false j H q) in
        let pK = ap (λ (x : ℕ). get_or new (3 * x) 0) (sym same) ∙ stamp_same slots j n a len size small in
        let pS = ap (λ (x : ℕ). get_or new (3 * x + 1) 0) (sym same) ∙ start_same slots j n a len size small in
        let pL = ap (λ (x : ℕ). get_or new (3 * x + 2) 0) (sym same) ∙ length_same slots j n a len size small in
        key_since (ltb (get_or new (3 * H) 0) (get_or new (3 * k) 0)) _
        (lt-ltb (get_or new (3 * H) 0) (get_or new (3 * k) 0) (omega (arith, stamped H, pH, pK)))
        ∙ (λ i. take (pL i) (drop (pS i) file)) ∙ place ∙ ap (λ (x : ℕ). key_in sep l x r) same
    key_go false false q w =
        let pH = stamp_other slots j n a len size small H (eqb-false j H q) in
        let pK = stamp_other slots j n a len size small k (eqb-false j k w) in
        let pS = start_other slots j n a len size small k (eqb-false j k w) in
        let pL = length_other slots j n a len size small k (eqb-false j k w) in
        λ i. cond (ltb (pH i) (pK i)) (take (pL i) (drop (pS i) file)) []

    -- the slots say the key that stood before, with the record counted in
    pub keys_next : key_in_slots l file new k ≡ key_with sep l k (key_in_slots l file slots k) r
    unfolding key_with
    keys_next =
        key_go (eqb j H) (eqb j k) refl refl
        ∙ ap (λ (x : ℕ). cond (eqb x H) [] (cond (eqb x k) (key_in sep l k r) (key_in_slots l file slots k))) is

-- slots that are all 0 say no key
pub none_at : (n i : ℕ) → ◌≡◌ {A = ℕ} (get_or (replicate n 0) i 0) 0
none_at zero i = refl
none_at (suc n) zero = refl
none_at (suc n) (suc i) = none_at n i
