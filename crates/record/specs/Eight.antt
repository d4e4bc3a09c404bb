-- Bytes in one number, for the search by eights.
use Rattle.std.specs.Prelude.{ℕ, ◌+◌, ◌*◌, List, [], ◌∷◌}

-- bytes as one number, first byte lowest
abbrev pub low : List ℕ → ℕ
low [] = 0
low (b ∷ s) = low s * 0x100 + b
