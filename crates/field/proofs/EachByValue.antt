-- Keys of every type whose values are numbers go by value, and each value has one spelling. Assumes nothing.
use mathlib.Core.Path.{◌≡◌, refl, sym, ◌∙◌, ap, ap₂}
use mathlib.Core.Bool.{Bool, true, false, not, cond, ◌&&◌, ◌||◌, and_assoc, false≢true}
use mathlib.Core.List.{List, [], ◌∷◌, ◌++◌}
use Prim.Native.Nat.{ℕ, suc, ◌+◌, ◌-◌, ◌*◌, ◌≤◌, ◌<◌}
use native.Mathlib.Nat.{le_trans}
use native.Mathlib.Omega.{arith}
use lib.Dec.{eqb, leb, ltb}
use lib.IntN.{ℤ, pos}
use lib.ListN.{length, get_or, take, drop, length-append, length-drop}
use lib.Seq.{split_at}
use borrow.Author.Tests.{eqb-true, eqb-false, ltb-true, not-true}
use Rattle.text.specs.Characters.{all, is_digit, from_to}
use Rattle.text.specs.Order.{number_order, text_order, else}
use Rattle.std.specs.Prelude.{Ok}
use Rattle.std.specs.declared.cmp.Ordering.{Ordering}
use Rattle.text.proofs.Orders.{number_below, number_above}
use Rattle.number.specs.Numbers.{number, number_from, minus, unsigned, plain, is_zero, whole, places, pointed, int_value, dec_form, dec_value}
use Rattle.field.specs.Types.{form, range, value_of, bol_form, period_range}
use Rattle.field.specs.Judge.{paper}
use Rattle.number.specs.Order.{digits_order, whole_order, value_order}
use Rattle.field.specs.Keys.{key_order}
use Rattle.field.specs.declared.FieldType.{FieldType}
use Rattle.field.specs.declared.FieldType.TheVariants as types
use Rattle.field.specs.declared.Content.TheVariants.{Number}
use Rattle.number.proofs.Digits.{and_left, and_right, all_append, digit_low, grows, plain_digits, number_append}
use Rattle.number.proofs.ByValue.{Stand, below, equal, above, stand, number_same, else_else, as_long, as_many, fewer, bare_is, signed_by_value, by_value, dates_by_value}
use Rattle.number.proofs.Spelling.{whole_same, value_same}

-- two texts that begin with as many bytes: these decide, else what follows
text_append : (a b x y : List ℕ) → length a ≡ length b → text_order (a ++ x) (b ++ y) ≡ else (text_order a b) (text_order x y)
unfolding text_order
text_append [] [] x y h = refl
text_append [] (d ∷ b) x y h = absurd (omega arith)
text_append (c ∷ a) [] x y h = absurd (omega arith)
text_append (c ∷ a) (d ∷ b) x y h =
    ap (λ (o : Ordering). else (number_order c d) o) (text_append a b x y (omega arith))
    ∙ sym (else_else (number_order c d) (text_order a b) (text_order x y))

-- after a point in each, what follows decides
point_same : (c d : List ℕ) → text_order (46 ∷ c) (46 ∷ d) ≡ text_order c d
unfolding text_order
point_same c d = rw (number_same 46 46 refl)

-- two decs of as many places, without their signs: by length, then by byte, is by value
module _ (a b c d : List ℕ) (pa : plain a ≡ true) (pb : plain b ≡ true) (dc : all is_digit c ≡ true) (dd : all is_digit d ≡ true)
    (h : length c ≡ length d) where
  wholes_first : number_order (number (a ++ c)) (number (b ++ d)) ≡ else (number_order (number a) (number b)) (text_order c d)
  wholes_first = rw (number_append 0 a c, number_append 0 b d) (sym (as_long (number a) (number b) c d h dc dd))

  long_a : length (a ++ 46 ∷ c) ≡ length a + suc (length c)
  long_a = length-append a (46 ∷ c)

  long_b : length (b ++ 46 ∷ d) ≡ length b + suc (length d)
  long_b = length-append b (46 ∷ d)

  pointed_go : Stand (length a) (length b)
      → else (number_order (length (a ++ 46 ∷ c)) (length (b ++ 46 ∷ d))) (text_order (a ++ 46 ∷ c) (b ++ 46 ∷ d))
      ≡ else (number_order (number a) (number b)) (text_order c d)
  pointed_go (below k) =
      let m : length (a ++ 46 ∷ c) < length (b ++ 46 ∷ d) = omega (arith, long_a, long_b) in
      rw (number_below _ _ m, number_below _ _ (fewer a b pa pb k))
  pointed_go (above k) =
      let m : length (b ++ 46 ∷ d) < length (a ++ 46 ∷ c) = omega (arith, long_a, long_b) in
      rw (number_above _ _ m, number_above _ _ (fewer b a pb pa k))
  pointed_go (equal k) =
      let m : length (a ++ 46 ∷ c) ≡ length (b ++ 46 ∷ d) = omega (arith, long_a, long_b) in
      rw (number_same _ _ m)
      (text_append a b (46 ∷ c) (46 ∷ d) k ∙ ap₂ else (as_many a b k (plain_digits a pa) (plain_digits b pb)) (point_same c d))

  pointed_by_value : digits_order (a ++ 46 ∷ c) (b ++ 46 ∷ d) ≡ number_order (number (a ++ c)) (number (b ++ d))
  unfolding digits_order
  pointed_by_value = pointed_go (stand (length a) (length b)) ∙ sym wholes_first

-- digits that are not all zeros spell no 0
not_zero : (v : ℕ) (d : List ℕ) → all is_digit d ≡ true → all is_zero d ≡ false → 0 < number_from v d
not_zero v [] p z = absurd (false≢true (sym z))
not_zero v (x ∷ d) p z = go (eqb x 48) refl z (λ k. not_zero (v * 10 + (x - 48)) d (and_right (is_digit x) (all is_digit d) p) k)
  where
    apart : (x : ℕ) → 48 ≤ x → (x ≡ 48 → ⊥) → 1 ≤ v * 10 + (x - 48)
    apart x h ne = omega arith

    go : (t : Bool) → eqb x 48 ≡ t → (t && all is_zero d) ≡ false → (all is_zero d ≡ false → 0 < number_from (v * 10 + (x - 48)) d)
        → 0 < number_from (v * 10 + (x - 48)) d
    go true e k later = later k
    go false e k later =
        le_trans (apart x (digit_low x (and_left (is_digit x) (all is_digit d) p)) (eqb-false x 48 e)) (grows (v * 10 + (x - 48)) d)

all_both : (p : ℕ → Bool) (a b : List ℕ) → all p (a ++ b) ≡ (all p a && all p b)
all_both p [] b = refl
all_both p (x ∷ a) b = ap (λ (t : Bool). p x && t) (all_both p a b) ∙ sym (and_assoc (p x) (all p a) (all p b))

-- the parts of a dec's form
module _ (q : ℕ) (s : List ℕ) (e : dec_form q s ≡ true) where
  three : (pointed q s && plain (whole q s) && all is_digit (places q s)) ≡ true
  unfolding dec_form
  three = and_left (pointed q s && plain (whole q s) && all is_digit (places q s)) (not (minus s && (all is_zero (whole q s) && all is_zero (places q s)))) e

  dec_places : all is_digit (places q s) ≡ true
  dec_places = and_right (pointed q s && plain (whole q s)) (all is_digit (places q s)) three

  dec_whole : plain (whole q s) ≡ true
  dec_whole = and_right (pointed q s) (plain (whole q s)) (and_left (pointed q s && plain (whole q s)) (all is_digit (places q s)) three)

  dec_pointed : pointed q s ≡ true
  dec_pointed = and_left (pointed q s) (plain (whole q s)) (and_left (pointed q s && plain (whole q s)) (all is_digit (places q s)) three)

  dec_long : q < length (unsigned s)
  dec_long = ltb-true q (length (unsigned s)) (and_left (ltb q (length (unsigned s))) (eqb (get_or (unsigned s) (length (unsigned s) - q - 1) 0) 46) dec_pointed)

  places_long : length (places q s) ≡ q
  places_long = omega (arith, dec_long, length-drop (length (unsigned s) - q) (unsigned s))

  -- the whole part, a point, the places
  dec_cut : unsigned s ≡ whole q s ++ 46 ∷ places q s
  dec_cut =
      let u = unsigned s in
      let j = length u - q - 1 in
      let point : get_or u j 0 ≡ 46 = eqb-true (get_or u j 0) 46 (and_right (ltb q (length u)) (eqb (get_or u j 0) 46) dec_pointed) in
      let within : j < length u = omega (arith, dec_long) in
      let next : suc j ≡ length u - q = omega (arith, dec_long) in
      split_at u j 0 within ∙ ap₂ (λ (x k : ℕ). take j u ++ x ∷ drop k u) point next

  dec_some : minus s ≡ true → 0 < number (whole q s ++ places q s)
  unfolding dec_form
  dec_some m =
      let signs = and_right (pointed q s && plain (whole q s) && all is_digit (places q s)) (not (minus s && (all is_zero (whole q s) && all is_zero (places q s)))) e in
      not_zero 0 (whole q s ++ places q s) (all_append is_digit (whole q s) (places q s) (plain_digits (whole q s) dec_whole) dec_places)
      (all_both is_zero (whole q s) (places q s) ∙ not-true (all is_zero (whole q s) && all is_zero (places q s)) (rw m at signs))

-- two decs of as many places stand as their values do
half : (q : ℕ) (a b : List ℕ) → dec_form q a ≡ true → dec_form q b ≡ true
    → digits_order (unsigned a) (unsigned b) ≡ number_order (number (whole q a ++ places q a)) (number (whole q b ++ places q b))
half q a b p r =
    ap₂ digits_order (dec_cut q a p) (dec_cut q b r)
    ∙ pointed_by_value (whole q a) (whole q b) (places q a) (places q b) (dec_whole q a p) (dec_whole q b r) (dec_places q a p) (dec_places q b r)
    (places_long q a p ∙ sym (places_long q b r))

pub decs_by_value : (q : ℕ) (a b : List ℕ) → dec_form q a ≡ true → dec_form q b ≡ true → whole_order a b ≡ value_order (dec_value q a) (dec_value q b)
unfolding dec_value
decs_by_value q a b p r =
    signed_by_value a b (number (whole q a ++ places q a)) (number (whole q b ++ places q b))
    (half q a b p r) (half q b a r p) (dec_some q a p) (dec_some q b r)

-- a period has no minus
period_value : (s : List ℕ) → period_range s ≡ true → int_value s ≡ pos (number s)
unfolding period_range int_value
period_value s e =
    let m = not-true (minus s) (and_right (leb (length (unsigned s)) 2) (not (minus s)) (and_left (leb (length (unsigned s)) 2 && not (minus s)) (from_to 1 50 (number s)) e)) in
    rw (m, bare_is s m)

-- keys of one type and of right form and range, whose values are numbers, stand as their values do
pub keys_by_value : (t : FieldType) (a b : List ℕ) (x y : ℤ) → form t a ≡ true → range t a ≡ true → form t b ≡ true → range t b ≡ true
    → value_of t a ≡ Number x → value_of t b ≡ Number y → key_order t a b ≡ value_order x y
unfolding form range value_of key_order
keys_by_value (types.Text n) a b x y f r g k v w = let z : ◌≡◌ {A = ℕ} 0 1 = cc in absurd (omega arith)
keys_by_value (types.Int n) a b x y f r g k v w = by_value a b f g ∙ ap₂ value_order (cc) (cc)
keys_by_value (types.Dec p q) a b x y f r g k v w = decs_by_value q a b f g ∙ ap₂ value_order (cc) (cc)
keys_by_value types.Date a b x y f r g k v w = dates_by_value 8 a b f g ∙ ap₂ value_order (cc) (cc)
keys_by_value types.Datetime a b x y f r g k v w = dates_by_value 14 a b f g ∙ ap₂ value_order (cc) (cc)
keys_by_value types.Bol a b x y f r g k v w = let z : ◌≡◌ {A = ℕ} 0 1 = cc in absurd (omega arith)
keys_by_value types.Period a b x y f r g k v w =
    by_value a b f g ∙ ap₂ value_order (period_value a r ∙ cc) (period_value b k ∙ cc)
keys_by_value types.Null a b x y f r g k v w = let z : ◌≡◌ {A = ℕ} 0 1 = cc in absurd (omega arith)

-- T and F are the only spellings of yes and no
bol_is : (s : List ℕ) → bol_form s ≡ true → s ≡ cond (eqb (get_or s 0 0) 84) 84 70 ∷ []
unfolding bol_form
bol_is [] e = absurd (false≢true e)
bol_is (x ∷ []) e = ap (λ (b : ℕ). b ∷ []) (go (eqb x 84) refl e)
  where
    go : (t : Bool) → eqb x 84 ≡ t → (t || eqb x 70) ≡ true → x ≡ cond t 84 70
    go true e k = eqb-true x 84 e
    go false e k = eqb-true x 70 k
bol_is (x ∷ y ∷ s) e =
    let one = eqb-true (length (x ∷ y ∷ s)) 1 (and_left (eqb (length (x ∷ y ∷ s)) 1) (eqb x 84 || eqb x 70) e) in
    absurd (long s one)
  where
    long : (s : List ℕ) → length (x ∷ y ∷ s) ≡ 1 → ⊥
    long s e = omega arith

none : (s : List ℕ) → eqb (length s) 0 ≡ true → s ≡ []
none [] e = refl
none (x ∷ s) e = let h = eqb-true (length (x ∷ s)) 0 e in absurd (some s h)
  where
    some : (s : List ℕ) → length (x ∷ s) ≡ 0 → ⊥
    some s e = omega arith

-- where the order of two numbers is that of one value, they are the same bytes
same_bytes_lem : (a b : List ℕ) (x y : ℤ) → whole_order a b ≡ value_order x y → x ≡ y → a ≡ b
same_bytes_lem a b x y e v =
    whole_same a b (minus a) (minus b) refl refl (e ∙ ap (λ (z : ℤ). value_order z y) v ∙ value_same y)

-- two fields of one type, of right form and range and of one value, are the same bytes: so a fixed value may be compared either way
pub one_spelling_each : (t : FieldType) (a b : List ℕ) → form t a ≡ true → range t a ≡ true → form t b ≡ true → range t b ≡ true
    → paper a (Ok (value_of t a)) ≡ paper b (Ok (value_of t b)) → a ≡ b
unfolding form range value_of
one_spelling_each (types.Text n) a b f r g k v = cc
one_spelling_each (types.Int n) a b f r g k v = same_bytes_lem a b (int_value a) (int_value b) (by_value a b f g) (cc)
one_spelling_each (types.Dec p q) a b f r g k v = same_bytes_lem a b (dec_value q a) (dec_value q b) (decs_by_value q a b f g) (cc)
one_spelling_each types.Date a b f r g k v = same_bytes_lem a b (pos (number a)) (pos (number b)) (dates_by_value 8 a b f g) (cc)
one_spelling_each types.Datetime a b f r g k v = same_bytes_lem a b (pos (number a)) (pos (number b)) (dates_by_value 14 a b f g) (cc)
one_spelling_each types.Bol a b f r g k v =
    let same : eqb (get_or a 0 0) 84 ≡ eqb (get_or b 0 0) 84 = cc in
    bol_is a f ∙ ap (λ (t : Bool). cond t 84 70 ∷ []) same ∙ sym (bol_is b g)
one_spelling_each types.Period a b f r g k v =
    same_bytes_lem a b (int_value a) (int_value b) (by_value a b f g)
    (period_value a r ∙ (cc) ∙ sym (period_value b k))
one_spelling_each types.Null a b f r g k v = none a f ∙ sym (none b g)
