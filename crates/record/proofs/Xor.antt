-- What `lib.Bits` lacks of exclusive or: it is associative, and so one operand can be cancelled.
use Prim.Native.Nat.{ℕ, zero, suc, ◌+◌, ◌*◌, ◌/◌, ◌%◌, ◌<◌}
use mathlib.Core.Path.{◌≡◌, refl, sym, ap, ap₂, ◌∙◌}
use native.Mathlib.Omega.{arith}
use mathlib.Core.List.{List, [], ◌∷◌, ◌++◌, foldl, foldl-append}
use lib.Arith.{bin_ind, digits_mod}
use lib.Bits.{bit_xor, differ, xor_step, xor_shr, xor_zero_r, xor_self, xor_comm}

-- of bits
bits : (x y z : ℕ) → x < 2 → y < 2 → z < 2 → differ (differ x y) z ≡ differ x (differ y z)
bits zero y z hx hy hz = refl
bits (suc zero) zero z hx hy hz = refl
bits (suc zero) (suc zero) zero hx hy hz = refl
bits (suc zero) (suc zero) (suc zero) hx hy hz = refl
bits (suc zero) (suc zero) (suc (suc z)) hx hy hz = absurd (omega arith)
bits (suc zero) (suc (suc y)) z hx hy hz = absurd (omega arith)
bits (suc (suc x)) y z hx hy hz = absurd (omega arith)

bit : (x y : ℕ) → x < 2 → y < 2 → differ x y < 2
bit zero y hx hy = hy
bit (suc zero) zero hx hy = hx
bit (suc zero) (suc zero) hx hy = omega arith
bit (suc zero) (suc (suc y)) hx hy = absurd (omega arith)
bit (suc (suc x)) y hx hy = absurd (omega arith)

halved : (a b : ℕ) → bit_xor a b / 2 ≡ bit_xor (a / 2) (b / 2)
halved a b = xor_shr a b 1

low : (a b : ℕ) → bit_xor a b % 2 ≡ differ (a % 2) (b % 2)
low a b = ap (λ (k : ℕ). k % 2) (xor_step a b) ∙ digits_mod (bit_xor (a / 2) (b / 2)) (bit (a % 2) (b % 2) (omega arith) (omega arith))

pub xor_assoc : (a b c : ℕ) → bit_xor (bit_xor a b) c ≡ bit_xor a (bit_xor b c)
xor_assoc a =
    bin_ind (λ (n : ℕ). (b c : ℕ) → bit_xor (bit_xor n b) c ≡ bit_xor n (bit_xor b c)) (λ b c. refl)
    (λ n ih b c. xor_step (bit_xor n b) c
    ∙ ap₂ (λ (p q : ℕ). bit_xor p (c / 2) * 2 + differ q (c % 2)) (halved n b) (low n b)
    ∙ ap₂ (λ (p q : ℕ). p * 2 + q) (ih (b / 2) (c / 2)) (bits (n % 2) (b % 2) (c % 2) (omega arith) (omega arith) (omega arith))
    ∙ ap₂ (λ (p q : ℕ). bit_xor (n / 2) p * 2 + differ (n % 2) q) (sym (halved b c)) (sym (low b c))
    ∙ sym (xor_step n (bit_xor b c))) a

pub xor_undo : (x a : ℕ) → bit_xor x (bit_xor x a) ≡ a
xor_undo x a = sym (xor_assoc x x a) ∙ ap (λ (k : ℕ). bit_xor k a) (xor_self x)

pub xor_cancel : (x a b : ℕ) → bit_xor x a ≡ bit_xor x b → a ≡ b
xor_cancel x a b e = sym (xor_undo x a) ∙ ap (bit_xor x) e ∙ xor_undo x b

-- a running exclusive or, from its start and from 0
pub xor_from : (s : ℕ) (ws : List ℕ) → foldl bit_xor s ws ≡ bit_xor s (foldl bit_xor 0 ws)
xor_from s [] = sym (xor_zero_r s)
xor_from s (w ∷ ws) = xor_from (bit_xor s w) ws ∙ xor_assoc s w (foldl bit_xor 0 ws) ∙ ap (bit_xor s) (sym (xor_from w ws))

-- two lists of words of one length that differ in one word have different sums
pub xor_tells : (s : ℕ) (p q : List ℕ) (v w : ℕ) → foldl bit_xor s (p ++ v ∷ q) ≡ foldl bit_xor s (p ++ w ∷ q) → v ≡ w
xor_tells s p q v w e =
    let P = foldl bit_xor s p in
    let Q = foldl bit_xor 0 q in
    let split : (x : ℕ) → foldl bit_xor s (p ++ x ∷ q) ≡ bit_xor Q (bit_xor P x) =
    (λ x. foldl-append bit_xor s p (x ∷ q) ∙ xor_from (bit_xor P x) q ∙ xor_comm (bit_xor P x) Q) in
    xor_cancel P v w (xor_cancel Q (bit_xor P v) (bit_xor P w) (sym (split v) ∙ e ∙ split w))
