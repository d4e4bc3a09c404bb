-- Each flow that we hold, in each edition, is proper: by one computed test over all of them. Assumes nothing.
use Prim.Native.Nat.{ℕ, ◌-◌}
use mathlib.Core.Path.{◌≡◌, refl, sym, ap, ◌∙◌, subst}
use mathlib.Core.Bool.{Bool, true}
use mathlib.Core.List.{List, [], ◌∷◌, map}
use lib.Dec.{T, eqb, leb}
use lib.ListN.{length, get_or, drop, get_or-map}
use borrow.Author.Tests.{eqb-true, leb-true}
use Rattle.text.specs.Characters.{all, is_text, is_digit}
use Rattle.text.specs.Order.{same_bytes}
use Rattle.text.proofs.Places.{all_at}
use Rattle.text.proofs.Lists.{same→≡}
use Rattle.text.proofs.Tests.{and_left, is_true}
use Rattle.layout.specs.Layout.{Rule, row, row_names, find, among, may_follow, kind_named}
use Rattle.grammar.specs.Table.{agrees}
use Rattle.flow.specs.Letters.{ZPT}
use Rattle.flow.specs.Publication.{Flow, names, layout_for, int}
use Rattle.flow.specs.Flows.{flows_and_editions, flow_at, p0012}
use Rattle.flow.specs.Editions.{Asked, a_flow, no_flow}
use Rattle.flow.specs.Proper.{key_fits, last_row, heads, nests, Proper}

-- every test of a proper flow but the rules of its footer
abbrev tests : Flow → List Bool
tests fl =
    let l = layout_for fl in
    agrees (names fl.kinds) (may_follow l) fl.grammar
    ∷ leb 1 (length (names fl.kinds))
    ∷ leb (length (names fl.kinds)) 32
    ∷ eqb (row l (length (names fl.kinds))).next 0
    ∷ all key_fits fl.kinds
    ∷ nests l
    ∷ eqb (kind_named l ZPT) (last_row l)
    ∷ leb 1 (last_row l)
    ∷ same_bytes (row l (last_row l)).name ZPT
    ∷ eqb (row l (last_row l)).key 0
    ∷ all (all is_text) (row_names (drop 1 l.rows))
    ∷ []

itself : Bool → Bool
itself b = b

all_tests : Flow → Bool
all_tests fl = all itself (tests fl)

-- all pass
all_pass : T (all all_tests flows_and_editions)
unfolding all_tests itself agrees among find is_text is_digit heads nests
all_pass = tt

-- and the rules of each footer are two ints of 10 digits
abbrev footer_rules : Flow → List Rule
footer_rules fl = (row (layout_for fl) (last_row (layout_for fl))).rules

footers_same : map footer_rules flows_and_editions ≡ map (λ (fl : Flow). int 10 ∷ int 10 ∷ []) flows_and_editions
footers_same = refl

-- flow number n, which every number reads as one of
module _ (n : ℕ) where
  abbrev fl : Flow
  fl = flow_at n

  passes : (i : ℕ) → get_or (tests fl) i true ≡ true
  unfolding all_tests itself
  passes i =
      let first = and_left (all_tests p0012) (all all_tests (drop 1 flows_and_editions)) all_pass in
      is_true _ (all_at itself true (tests fl) (all_at all_tests p0012 flows_and_editions all_pass first (n - 1)) (tt {0}) i)

  rules_same : footer_rules fl ≡ int 10 ∷ int 10 ∷ []
  rules_same =
      sym (get_or-map footer_rules flows_and_editions (n - 1) p0012) ∙ ap (λ (rs : List (List Rule)). get_or rs (n - 1) (footer_rules p0012)) footers_same
      ∙ get_or-map (λ (x : Flow). int 10 ∷ int 10 ∷ []) flows_and_editions (n - 1) p0012

  pub held_proper : Proper (flow_at n)
  held_proper =
      record {
        agree = passes 0;
        some = leb-true _ _ (passes 1);
        few = leb-true _ _ (passes 2);
        closed = eqb-true _ _ (passes 3);
        keys = passes 4;
        nested = passes 5;
        footer =
            record {
              found = eqb-true _ _ (passes 6);
              some = leb-true _ _ (passes 7);
              name = same→≡ _ _ (subst T (sym (passes 8)) tt);
              rules = rules_same;
              key = eqb-true _ _ (passes 9);
              names = passes 10;
            };
      }

-- what is asked for is a proper flow, or refused
abbrev pub ProperAsked : Asked → Type 0
ProperAsked (a_flow f) = Proper f
ProperAsked (no_flow r) = Unit
