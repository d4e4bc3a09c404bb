-- A flow's kinds as its layout numbers them: the rows are what is published, and the walk by the rows is the walk by records. Assumes nothing.
use Prim.Native.Nat.{ℕ, zero, suc, ◌+◌, ◌-◌, ◌≤◌, ◌/◌, ◌%◌, ◌^◌}
use mathlib.Core.Path.{◌≡◌, refl, sym, ap, ◌∙◌}
use mathlib.Core.Bool.{Bool, true, false, cond, not, ◌&&◌, false≢true}
use mathlib.Core.List.{List, [], ◌∷◌, ◌++◌, map, append-nil}
use native.Mathlib.Nat.{zero-div}
use native.Mathlib.Omega.{arith}
use lib.Dec.{eqb}
use lib.ListN.{length, get_or}
use lib.Seq.{append_snoc}
use borrow.Author.Tests.{eqb-true, eqb-false, not-true, eq-eqb, ne_eqb}
use Rattle.record.specs.Records.{bar}
use Rattle.text.specs.Order.{same_bytes}
use Rattle.text.specs.Places.{place_of}
use Rattle.text.specs.Rules.{must}
use Rattle.text.specs.Characters.{from_to}
use Rattle.text.proofs.Places.{place_name}
use Rattle.layout.specs.Layout.{KindRow, Layout, row, blank, find, kind_named, among, may_follow, is_footer}
use Rattle.grammar.specs.Sets.{Sets, Under}
use Rattle.grammar.specs.Walk.{Walked, stopped, through, Goes}
use Rattle.grammar.specs.Table.{row_of, agrees, table_walk}
use Rattle.grammar.proofs.Walks.{never_both, under_completes}
use Rattle.grammar.proofs.TableWalks.{table_goes_iff, table_complete_iff}
use Rattle.flow.proofs.Agree.{names_are, footer_is}
use Rattle.flow.specs.Publication.{Flow, PublishedKind, names, row_for, layout_for}
use Rattle.fault.specs.Record.{kind_of}
use Rattle.judge.specs.Record.{last_kind}
use Rattle.judge.specs.Right.{kind_in, published_as}
use Rattle.judge.proofs.Files.{last_snoc}
use Rattle.judge.proofs.RightEach.{Each, each_none, each_cons, each_first, each_rest}

module _ (g : Sets) (ns : List (List ℕ)) (name : List ℕ) where
  abbrev R : PublishedKind → KindRow
  R = row_for g ns

  -- the row that is found is that of the published kind
  abbrev Found : ℕ → ℕ → List KindRow → PublishedKind → Type 0
  Found i j rows p = (m : ℕ) × (j ≡ i + m) × (get_or rows m blank ≡ R p)

  found_go : (i j : ℕ) (k : PublishedKind) (ks : List PublishedKind) (b : Bool)
      → (find name (suc (suc i)) (map R ks) ≡ suc j → Found (suc i) j (map R ks) (published_as ks name))
      → cond b (suc i) (find name (suc (suc i)) (map R ks)) ≡ suc j → Found i j (R k ∷ map R ks) (cond b k (published_as ks name))
  found_go i j k ks true later e = (0, omega arith, refl)
  found_go i j k ks false later e =
      let q : Found (suc i) j (map R ks) (published_as ks name) = later e in
      (suc q.0, omega (arith, q.1), q.2)

  found : (i j : ℕ) (ks : List PublishedKind) → find name (suc i) (map R ks) ≡ suc j → Found i j (map R ks) (published_as ks name)
  unfolding find
  found i j [] e = absurd (omega arith)
  found i j (k ∷ ks) e = found_go i j k ks (same_bytes k.name name) (found (suc i) j ks) e

-- a kind's number and its row
module _ (fl : Flow) where
  pub kind_row : (name : List ℕ) → kind_named (layout_for fl) name ≡ row_of (names fl.kinds) name
  unfolding find
  kind_row name = ap (place_of name 1) (names_are fl)

  known_go : (name : List ℕ) (n : ℕ) → kind_named (layout_for fl) name ≡ n → (n ≡ 0 → ⊥)
      → row (layout_for fl) n ≡ row_for fl.grammar (names fl.kinds) (published_as fl.kinds name)
  known_go name zero e h = absurd (h refl)
  known_go name (suc j) e h =
      let q = found fl.grammar (names fl.kinds) name 0 j fl.kinds e in
      let z : j ≡ q.0 = omega (arith, q.1) in
      ap (λ (m : ℕ). row (layout_for fl) (suc m)) z ∙ q.2

  -- what the layout says of a known kind is what is published
  pub known_row : (name : List ℕ) → (kind_named (layout_for fl) name ≡ 0 → ⊥)
      → row (layout_for fl) (kind_named (layout_for fl) name) ≡ row_for fl.grammar (names fl.kinds) (published_as fl.kinds name)
  known_row name h = known_go name (kind_named (layout_for fl) name) refl h

  -- two names with one number that is not 0 are the same
  one_go : (a b : List ℕ) (n : ℕ) → row_of (names fl.kinds) a ≡ n → row_of (names fl.kinds) b ≡ n → (n ≡ 0 → ⊥) → a ≡ b
  one_go a b zero p q h = absurd (h refl)
  one_go a b (suc j) p q h = sym (place_name a (names fl.kinds) j p).1 ∙ (place_name b (names fl.kinds) j q).1

  pub one_name : (a b : List ℕ) → kind_named (layout_for fl) a ≡ row_of (names fl.kinds) b → (kind_named (layout_for fl) a ≡ 0 → ⊥) → a ≡ b
  one_name a b e h = one_go a b (kind_named (layout_for fl) a) (sym (kind_row a)) (sym e) h

  pub one_kind : (a b : List ℕ) → kind_named (layout_for fl) a ≡ kind_named (layout_for fl) b → (kind_named (layout_for fl) a ≡ 0 → ⊥) → a ≡ b
  one_kind a b e h = one_name a b (e ∙ kind_row b) h

-- a record stands where its kind may come
pub record Placed (l : Layout) (before : List (List ℕ)) (r : List ℕ) : Type 0 where
  pub known : kind_of bar l r ≡ 0 → ⊥
  pub follows : may_follow l (last_kind bar l before) (kind_of bar l r) ≡ true

-- no kind is in the empty set
none_in : (b : Bool) (n : ℕ) → (b && eqb (0 / n % 2) 1) ≡ true → ⊥
none_in true n e = let z = eqb-true (0 / n % 2) 1 e in omega (arith, zero-div n)
none_in false n e = false≢true e

none_follows : (k : ℕ) → among k 0 ≡ true → ⊥
unfolding among
none_follows k e = none_in (from_to 1 32 k) (2 ^ (k - 1)) e

must_through : (b : Bool) (i s : ℕ) (w : Walked ℕ) → must b (stopped i) w ≡ through s → (b ≡ true) × (w ≡ through s)
must_through true i s w e = (refl, e)
must_through false i s w e = absurd (never_both e)

goes_to : (w : Walked ℕ) → Goes w → (s : ℕ) × (w ≡ through s)
goes_to (stopped i) t = absurd t
goes_to (through s) t = (s, refl)

module _ (fl : Flow) where
  abbrev l : Layout
  l = layout_for fl

  abbrev ns : List (List ℕ)
  ns = names fl.kinds

  -- the walk by rows, from a kind on
  abbrev walked : ℕ → ℕ → List (List ℕ) → Walked ℕ
  walked last i rs = table_walk ns (may_follow l) last i (map kind_in rs)

  step_is : (last i : ℕ) (x : List ℕ) (xs : List (List ℕ))
      → walked last i (x ∷ xs) ≡ must (not (eqb (kind_of bar l x) 0)) (stopped i) (must (may_follow l last (kind_of bar l x)) (stopped i) (walked (kind_of bar l x) (suc i) xs))
  step_is last i x xs =
      ap (λ (k : ℕ). must (not (eqb k 0)) (stopped i) (must (may_follow l last k) (stopped i) (walked k (suc i) xs))) (sym (kind_row fl (kind_in x)))

  -- records that are placed are walked through
  walk_through : (before rs : List (List ℕ)) (i : ℕ) → Each (Placed l) before rs → walked (last_kind bar l before) i rs ≡ through (last_kind bar l (before ++ rs))
  walk_through before [] i h = rw append-nil
  walk_through before (x ∷ xs) i h =
      let p : Placed l before x = each_first (Placed l) before x xs h in
      step_is (last_kind bar l before) i x xs
      ∙ rw (ne_eqb _ _ p.known, p.follows)
      (ap (λ (k : ℕ). walked k (suc i) xs) (sym (last_snoc bar l before x))
      ∙ walk_through (before ++ x ∷ []) xs (suc i) (each_rest (Placed l) before x xs h)
      ∙ ap (λ (t : List (List ℕ)). through (last_kind bar l t)) (append_snoc before x xs))

  -- and records that are walked through are placed
  through_walk : (before rs : List (List ℕ)) (i s : ℕ) → walked (last_kind bar l before) i rs ≡ through s → Each (Placed l) before rs
  through_walk before [] i s e = each_none (Placed l) before
  through_walk before (x ∷ xs) i s e =
      let a = must_through (not (eqb (kind_of bar l x) 0)) i s (must (may_follow l (last_kind bar l before) (kind_of bar l x)) (stopped i) (walked (kind_of bar l x) (suc i) xs))
      (sym (step_is (last_kind bar l before) i x xs) ∙ e) in
      let b = must_through (may_follow l (last_kind bar l before) (kind_of bar l x)) i s (walked (kind_of bar l x) (suc i) xs) a.1 in
      each_cons (Placed l) before x xs (record { known = eqb-false _ _ (not-true _ a.0); follows = b.0 })
      (through_walk (before ++ x ∷ []) xs (suc i) s (ap (λ (k : ℕ). walked k (suc i) xs) (last_snoc bar l before x) ∙ b.1))

  module _ (ok : agrees ns (may_follow l) fl.grammar ≡ true) (some : 1 ≤ length ns) (rs : List (List ℕ)) where
    -- the footer is the last of the kinds
    footer_last : (k : ℕ) → is_footer l k ≡ true → k ≡ length ns
    footer_last k e = eqb-true _ _ (sym (footer_is fl some k) ∙ e)

    -- records whose kinds are placed, the last of them the footer, stand under the grammar
    pub placed_under : Each (Placed l) [] rs → is_footer l (last_kind bar l rs) ≡ true → Under fl.grammar (map kind_in rs)
    unfolding last_kind
    placed_under h e = (table_complete_iff ns (may_follow l) fl.grammar ok (map kind_in rs) (last_kind bar l rs) (walk_through [] rs 0 h)).0 (footer_last (last_kind bar l rs) e)

    walked_to : Under fl.grammar (map kind_in rs) → (s : ℕ) × (table_walk ns (may_follow l) 0 0 (map kind_in rs) ≡ through s)
    walked_to u =
        goes_to _ ((table_goes_iff ns (may_follow l) fl.grammar ok (map kind_in rs)).1 (under_completes fl.grammar (map kind_in rs) u))

    -- and the other way round
    pub under_placed : Under fl.grammar (map kind_in rs) → Each (Placed l) [] rs
    unfolding last_kind
    under_placed u = through_walk [] rs 0 (walked_to u).0 (walked_to u).1

    pub under_footer : Under fl.grammar (map kind_in rs) → is_footer l (last_kind bar l rs) ≡ true
    unfolding last_kind
    under_footer u =
        footer_is fl some (last_kind bar l rs)
        ∙ eq-eqb _ _ ((table_complete_iff ns (may_follow l) fl.grammar ok (map kind_in rs) (last_kind bar l rs) (walk_through [] rs 0 (under_placed u))).1 u)

    -- where nothing may follow the footer, it is the last record
    pub footer_ends : (row l (length ns)).next ≡ 0 → Under fl.grammar (map kind_in rs) → (before : List (List ℕ)) (r : List ℕ) (after : List (List ℕ))
        → rs ≡ before ++ r ∷ after → is_footer l (kind_of bar l r) ≡ true → after ≡ []
    footer_ends z u before r [] e q = refl
    footer_ends z u before r (x ∷ after) e q =
        let p = under_placed u (before ++ r ∷ []) x after (e ∙ sym (append_snoc before r (x ∷ after))) in
        let w : kind_of bar l r ≡ length ns = footer_last (kind_of bar l r) q in
        absurd (none_follows (kind_of bar l x) (sym (ap (λ (k : ℕ). may_follow l k (kind_of bar l x)) (last_snoc bar l before r ∙ w) ∙ ap (λ (s : ℕ). among (kind_of bar l x) s) z) ∙ p.follows))
