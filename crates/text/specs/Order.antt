-- When two texts are the same, and which stands first (document 01, "Keys"). Assumes nothing.
use Rattle.std.specs.Prelude.{ℕ, Bool, true, false, cond, ◌&&◌, List, [], ◌∷◌, ltb, eqb}
use Rattle.std.specs.declared.cmp.Ordering.{Ordering}
use Rattle.std.specs.declared.cmp.Ordering.TheVariants.{Less, Equal, Greater}

-- the same bytes, and as many
abbrev pub same_bytes : List ℕ → List ℕ → Bool
same_bytes [] [] = true
same_bytes [] (y ∷ ys) = false
same_bytes (x ∷ xs) [] = false
same_bytes (x ∷ xs) (y ∷ ys) = eqb x y && same_bytes xs ys

-- how a number stands to another
unfoldable pub number_order : ℕ → ℕ → Ordering
number_order x y = cond (ltb x y) Less (cond (ltb y x) Greater Equal)

-- the first order that is not Equal decides
abbrev pub else : Ordering → Ordering → Ordering
else Less later = Less
else Equal later = later
else Greater later = Greater

-- texts go by byte, a shorter text before one that continues it
unfoldable pub text_order : List ℕ → List ℕ → Ordering
text_order [] [] = Equal
text_order [] (y ∷ ys) = Less
text_order (x ∷ xs) [] = Greater
text_order (x ∷ xs) (y ∷ ys) = else (number_order x y) (text_order xs ys)
