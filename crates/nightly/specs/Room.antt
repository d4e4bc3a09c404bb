-- The room that is lent for a result, and the pattern that it holds before. Assumes nothing.
use Rattle.std.specs.Prelude.{◌≡◌, ℕ, suc, ◌+◌, ◌*◌, ◌%◌, ◌<◌, Bool, true, ◌&&◌, List, [], ◌∷◌, length, ◌==◌, slice_index}

-- the pattern's byte at a place
abbrev pub pattern : ℕ → ℕ
pattern place = (place % 256 * 167 + 13) % 256

-- bytes that stand from a place on hold the pattern
abbrev pub patterned : ℕ → List ℕ → Bool
patterned at [] = true
patterned at (b ∷ s) = b == pattern at && patterned (suc at) s

-- a room filled with the pattern, and as long as it was
pub record Filled (before after : List ℕ) : Type 0 where
  pub long : length after ≡ length before
  pub each : (i : ℕ) → i < length before → slice_index after i ≡ pattern i
