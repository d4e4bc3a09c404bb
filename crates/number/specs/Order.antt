-- How two numbers stand to each other, by their bytes and by their values. Assumes nothing.
use Rattle.std.specs.Prelude.{ℕ, cond, List, ℤ, pos, negsuc, length}
use Rattle.text.specs.Order.{number_order, text_order, else}
use Rattle.std.specs.declared.cmp.Ordering.{Ordering}
use Rattle.std.specs.declared.cmp.Ordering.TheVariants.{Less, Greater}
use Rattle.number.specs.Numbers.{minus, unsigned}

-- of two numbers without sign and leading zero the one of more digits is above, then the first digit that differs decides
unfoldable pub digits_order : List ℕ → List ℕ → Ordering
digits_order a b = else (number_order (length a) (length b)) (text_order a b)

-- a number below zero stands below the others, and two such the other way round
unfoldable pub whole_order : List ℕ → List ℕ → Ordering
whole_order a b =
    cond (minus a)
    (cond (minus b) (digits_order (unsigned b) (unsigned a)) Less)
    (cond (minus b) Greater (digits_order a b))

-- how two values stand to each other
unfoldable pub value_order : ℤ → ℤ → Ordering
value_order (pos m) (pos n) = number_order m n
value_order (pos m) (negsuc n) = Greater
value_order (negsuc m) (pos n) = Less
value_order (negsuc m) (negsuc n) = number_order n m
