-- The rules of a kind by their index, and the type of one rule. Assumes nothing.
use Prim.Native.Nat.{ℕ, ◌+◌, ◌*◌, ◌≤◌, ◌<◌}
use mathlib.Core.Path.{◌≡◌, refl, sym, ap, ◌∙◌}
use mathlib.Core.List.{List, [], ◌∷◌}
use native.Mathlib.Omega.{arith}
use lib.ListN.{length, get_or, drop, get_or-eq_default}
use Rattle.layout.specs.Layout.{Rule, row}
use Rattle.layout.specs.Numbers.{word, type_of, rule_of, rules_from, layout_of, RulesOf}
use Rattle.layout.proofs.Each.{each_length, each_at, each_drop, each_done}

-- n rules from place p on
module _ (t bytes : List ℕ) (p n : ℕ) where
  abbrev at : ℕ → Rule
  at f = rule_of t bytes (p + 3 * f)

  pub from_length : length (rules_from t bytes p n) ≡ n
  unfolding rules_from
  from_length = each_length at 0 n

  -- rule f
  pub from_at : (d : Rule) (f : ℕ) → f < n → get_or (rules_from t bytes p n) f d ≡ rule_of t bytes (p + 3 * f)
  unfolding rules_from
  from_at d f h = each_at at d n f h

  -- what is left from rule f on begins with it
  pub from_drop : (f : ℕ) → f < n → drop f (rules_from t bytes p n) ≡ rule_of t bytes (p + 3 * f) ∷ drop (f + 1) (rules_from t bytes p n)
  unfolding rules_from
  from_drop f h = each_drop at n f h

  pub from_done : (f : ℕ) → n ≤ f → drop f (rules_from t bytes p n) ≡ []
  unfolding rules_from
  from_done f h = each_done at n f h

-- the same of the rules of kind k, where they stand at p, n of them
module _ (t bytes : List ℕ) (k p n : ℕ) (r : RulesOf t bytes k p n) where
  abbrev rules : List Rule
  rules = (row (layout_of t bytes) k).rules

  pub rules_length : length (row (layout_of t bytes) k).rules ≡ n
  rules_length = sym (ap length r.are) ∙ from_length t bytes p n

  pub rule_at : (d : Rule) (f : ℕ) → f < n → get_or (row (layout_of t bytes) k).rules f d ≡ rule_of t bytes (p + 3 * f)
  rule_at d f h = sym (ap (λ (x : List Rule). get_or x f d) r.are) ∙ from_at t bytes p n d f h

  pub rule_past : (d : Rule) (f : ℕ) → n ≤ f → get_or (row (layout_of t bytes) k).rules f d ≡ d
  rule_past d f h = get_or-eq_default (row (layout_of t bytes) k).rules d {n = f} (omega (arith, rules_length))

-- the type of the rule at p
module _ (t bytes : List ℕ) (p : ℕ) where
  pub type_is : type_of (word t p) ≡ (rule_of t bytes p).type
  unfolding rule_of
  type_is = refl
