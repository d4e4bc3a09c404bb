-- Of some kinds, those that meet a condition: there is one such list, and what stands in it. Assumes nothing.
use Prim.Native.Nat.{ℕ, suc, ◌+◌, ◌<◌}
use mathlib.Core.Path.{◌≡◌, refl, sym, ap, ◌∙◌, subst}
use mathlib.Core.Bool.{Bool, true, false, cond}
use mathlib.Core.Logic.{◌↔◌, ⊎_elim}
use mathlib.Core.List.{List, [], ◌∷◌}
use native.Mathlib.Nat.{add-zero, add-suc, suc-add}
use native.Mathlib.Omega.{arith}
use lib.Dec.{T}
use lib.ListN.{length, get_or}
use Rattle.text.specs.Order.{same_bytes}
use Rattle.text.proofs.Lists.{same→≡}
use Rattle.layout.specs.Layout.{KindRow, Layout, row_names, may_follow}
use Rattle.grammar.specs.Walk.{among}
use Rattle.text.proofs.Tests.{or_cases, or_left, or_right}
use Rattle.flow.specs.ByTable.{followers_from}
use Rattle.flow.specs.Step.{Chosen, none, takes, passes}

module _ (P : List ℕ → Type 0) where
  -- two such lists are the same
  pub chosen_one : {ks a b : List (List ℕ)} → Chosen P ks a → Chosen P ks b → a ≡ b
  chosen_one none none = refl
  chosen_one (takes {k} p c) (takes q d) = ap (λ (x : List (List ℕ)). k ∷ x) (chosen_one c d)
  chosen_one (takes p c) (passes q d) = absurd (q p)
  chosen_one (passes p c) (takes q d) = absurd (p q)
  chosen_one (passes p c) (passes q d) = chosen_one c d

  -- a kind in the list meets the condition
  pub chosen_meets : {ks out : List (List ℕ)} → Chosen P ks out → (j : List ℕ) → T (among j out) → P j
  chosen_meets none j t = absurd t
  chosen_meets (takes {k} {ks} {out} p c) j t =
      ⊎_elim (λ (s : T (same_bytes k j)). subst P (same→≡ k j s) p) (λ (s : T (among j out)). chosen_meets c j s)
      (or_cases (same_bytes k j) (among j out) t)
  chosen_meets (passes p c) j t = chosen_meets c j t

  -- one of the kinds that meets it is in the list
  pub chosen_all : {ks out : List (List ℕ)} → Chosen P ks out → (j : List ℕ) → T (among j ks) → P j → T (among j out)
  chosen_all none j t p = t
  chosen_all (takes {k} {ks} {out} q c) j t p =
      ⊎_elim (λ (s : T (same_bytes k j)). or_left (same_bytes k j) (among j out) s)
      (λ (s : T (among j ks)). or_right (same_bytes k j) (among j out) (chosen_all c j s p))
      (or_cases (same_bytes k j) (among j ks) t)
  chosen_all (passes {k} {ks} {out} q c) j t p =
      ⊎_elim (λ (s : T (same_bytes k j)). absurd (q (subst P (sym (same→≡ k j s)) p))) (λ (s : T (among j ks)). chosen_all c j s p)
      (or_cases (same_bytes k j) (among j ks) t)

  -- rows whose test says if their name meets it
  module _ (l : Layout) (last : ℕ) where
    abbrev Says : ℕ → List KindRow → Type 0
    Says q rs = (m : ℕ) → m < length rs → T (may_follow l last (q + m)) ↔ P (get_or (row_names rs) m [])

    first_says : (q : ℕ) (r : KindRow) (rs : List KindRow) → Says q (r ∷ rs) → T (may_follow l last q) ↔ P r.name
    first_says q r rs s = subst (λ (x : ℕ). T (may_follow l last x) ↔ P r.name) (add-zero q) (s 0 (omega arith))

    later_say : (q : ℕ) (r : KindRow) (rs : List KindRow) → Says q (r ∷ rs) → Says (suc q) rs
    later_say q r rs s m h =
        subst (λ (x : ℕ). T (may_follow l last x) ↔ P (get_or (row_names rs) m [])) (add-suc q m ∙ sym (suc-add q m)) (s (suc m) (omega arith))

    go : (b : Bool) (k : List ℕ) (ks out : List (List ℕ)) → T b ↔ P k → Chosen P ks out → Chosen P (k ∷ ks) (cond b (k ∷ out) out)
    go true k ks out s c = takes (s.0 tt) c
    go false k ks out s c = passes (λ p. s.1 p) c

    pub chosen_from : (q : ℕ) (rs : List KindRow) → Says q rs → Chosen P (row_names rs) (followers_from l last q rs)
    unfolding followers_from
    chosen_from q [] s = none
    chosen_from q (r ∷ rs) s =
        go (may_follow l last q) r.name (row_names rs) (followers_from l last (suc q) rs) (first_says q r rs s)
        (chosen_from (suc q) rs (later_say q r rs s))
