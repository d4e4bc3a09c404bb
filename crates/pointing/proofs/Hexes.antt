-- Hex digits with small letters, made capitals. Assumes nothing.
use Prim.Native.Nat.{ℕ, zero, suc, ◌/◌, ◌%◌, ◌≤◌, ◌<◌}
use mathlib.Core.Path.{◌≡◌, refl, sym, ap, ◌∙◌}
use mathlib.Core.List.{List, [], ◌∷◌, ◌++◌, map, map-append}
use native.Mathlib.Omega.{arith}
use lib.ListN.{length, take, length-take, length-map}
use Rattle.std.specs.Char.{to_ascii_uppercase}
use Rattle.std.proofs.lemmas.Bool.Decides.{nat_tests}
use Rattle.std.proofs.lemmas.List.{take-map}
use Rattle.io.specs.Counts.{IsPrefixLen}
use Rattle.io.specs.Digits.{hex_digit_ascii, last_digits, IsDigitCount}
use Rattle.pointing.specs.Hex.{hex_digit, hex_digits, IsHex}

-- one digit
capital_digit : (d : ℕ) → d < 16 → to_ascii_uppercase (hex_digit_ascii d) ≡ hex_digit d
capital_digit d h = grind (arith, nat_tests)

-- each digit
capital_digits : (k n : ℕ) → map to_ascii_uppercase (last_digits 16 k n) ≡ hex_digits k n
capital_digits zero n = refl
capital_digits (suc k) n =
    map-append to_ascii_uppercase (last_digits 16 k (n / 16)) (hex_digit_ascii (n % 16) ∷ [])
    ∙ (λ i. capital_digits k (n / 16) i ++ capital_digit (n % 16) (omega arith) i ∷ [])

-- the digits at the front of some bytes that are all made capitals
pub capital_hex : (n k : ℕ) (low : List ℕ) → k ≤ length low → IsDigitCount 16 1 n k → take k low ≡ last_digits 16 k n
    → IsPrefixLen k (map to_ascii_uppercase low) × IsHex n (take k (map to_ascii_uppercase low))
capital_hex n k low within few e =
    let long : k ≤ length (map to_ascii_uppercase low) = omega (arith, length-map low to_ascii_uppercase) in
    let size : length (take k (map to_ascii_uppercase low)) ≡ k = omega (arith, length-take k (map to_ascii_uppercase low)) in (
      (long, sym size),
      record {
        some = rw size few.0;
        hold = rw size few.1;
        few = rw size few.2;
        are = rw size (take-map to_ascii_uppercase k low ∙ ap (map to_ascii_uppercase) e ∙ capital_digits k n);
      },
    )
