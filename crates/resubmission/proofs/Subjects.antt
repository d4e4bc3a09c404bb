-- Under the subject in plain terms: the last SB1 has its id and date, and no SB1 stands behind it. Assumes nothing.
use Prim.Native.Nat.{ℕ}
use mathlib.Core.Path.{◌≡◌, refl, sym, ap, ◌∙◌}
use mathlib.Core.Logic.{◌⊎◌, inl, inr}
use mathlib.Core.Bool.{Bool, true, false, cond, ◌&&◌, false≢true}
use mathlib.Core.List.{List, [], ◌∷◌, ◌++◌}
use Rattle.text.specs.Order.{same_bytes}
use Rattle.text.proofs.Lists.{same→≡, same_refl}
use Rattle.text.proofs.Tests.{holds}
use Rattle.record.specs.Records.{fields, field, bar}
use Rattle.flow.specs.Letters.{SB1}
use Rattle.flow.specs.Publication.{Flow}
use Rattle.judge.specs.Right.{kind_in, NoneOfKind}
use Rattle.resubmission.specs.Rows.{Pair, id_field, date_field, is_sb1, is_subject, last_sb1, under_subject}
use Rattle.resubmission.specs.Plain.{Under}

-- two tests that both hold, and three
pub both : (a b : Bool) → (a && b) ≡ true → (a ≡ true) × (b ≡ true)
both true true e = (refl, refl)
both true false e = absurd (false≢true e)
both false b e = absurd (false≢true e)

-- a text that is the same
pub same : (a b : List ℕ) → same_bytes a b ≡ true → b ≡ a
same a b e = sym (same→≡ a b (holds e))

pub is_same : (a b : List ℕ) → b ≡ a → same_bytes a b ≡ true
is_same a b e = ap (same_bytes a) e ∙ same_refl a

-- where some records have their last SB1: none has one, or one, and none behind it
record Last (s : List ℕ) (rs : List (List ℕ)) : Type 0 where
  earlier : List (List ℕ)
  subject : List ℕ
  since : List (List ℕ)
  splits : rs ≡ earlier ++ subject ∷ since
  kind : kind_in subject ≡ SB1
  last : NoneOfKind SB1 since
  is : last_sb1 s rs ≡ subject

abbrev Either : List ℕ → List (List ℕ) → Type 0
Either s rs = (NoneOfKind SB1 rs × (last_sb1 s rs ≡ s)) ⊎ Last s rs

no_sb1 : (r : List ℕ) → is_sb1 r ≡ false → kind_in r ≡ SB1 → ⊥
no_sb1 r e k = false≢true (sym e ∙ is_same SB1 (kind_in r) k)

last_by : (s r : List ℕ) (rs : List (List ℕ)) (t : Bool) → is_sb1 r ≡ t → Either (cond t r s) rs → Either s (r ∷ rs)
unfolding last_sb1
last_by s r rs true e (inl none) =
    inr (record { earlier = []; subject = r; since = rs; splits = refl; kind = same SB1 (kind_in r) e; last = none.0; is = rw e none.1 })
last_by s r rs false e (inl none) = inl ((no_sb1 r e, none.0), rw e none.1)
last_by s r rs t e (inr x) =
    inr
    (record {
      earlier = r ∷ x.earlier;
      subject = x.subject;
      since = x.since;
      splits = ap (λ (l : List (List ℕ)). r ∷ l) x.splits;
      kind = x.kind;
      last = x.last;
      is = ap (λ (b : Bool). last_sb1 (cond b r s) rs) e ∙ x.is;
    })

last_in : (s : List ℕ) (rs : List (List ℕ)) → Either s rs
unfolding last_sb1
last_in s [] = inl (tt, refl)
last_in s (r ∷ rs) = last_by s r rs (is_sb1 r) refl (last_in (cond (is_sb1 r) r s) rs)

module _ (flow : Flow) (p : Pair) (before : List (List ℕ)) where
  by_last : Either [] before → under_subject flow p before ≡ true → Under flow p before
  unfolding field fields
  by_last (inl none) e = absurd (false≢true (ap (is_subject flow p.id p.date) (sym none.1) ∙ e))
  by_last (inr x) e =
      let id = same_bytes p.id (field bar (id_field flow) x.subject) in
      let date = same_bytes p.date (field bar (date_field flow) x.subject) in
      let fields-are = both id date (both (is_sb1 x.subject) (id && date) (ap (is_subject flow p.id p.date) (sym x.is) ∙ e)).1 in
      record {
        earlier = x.earlier;
        subject = x.subject;
        since = x.since;
        splits = x.splits;
        kind = x.kind;
        id = same p.id _ fields-are.0;
        date = same p.date _ fields-are.1;
        last = x.last;
      }

  pub under_plainly : under_subject flow p before ≡ true → Under flow p before
  under_plainly = by_last (last_in [] before)

-- an SB1 is the last of some records where none stands behind it
none_since : (s : List ℕ) (rs : List (List ℕ)) → NoneOfKind SB1 rs → last_sb1 s rs ≡ s
unfolding last_sb1
none_since s [] none = refl
none_since s (r ∷ rs) none = ap (λ (b : Bool). last_sb1 (cond b r s) rs) (other (is_sb1 r) refl) ∙ none_since s rs none.1
  where
    other : (t : Bool) → is_sb1 r ≡ t → is_sb1 r ≡ false
    other true e = absurd (none.0 (same SB1 (kind_in r) e))
    other false e = e

last_append : (s : List ℕ) (rs more : List (List ℕ)) → last_sb1 s (rs ++ more) ≡ last_sb1 (last_sb1 s rs) more
unfolding last_sb1
last_append s [] more = refl
last_append s (r ∷ rs) more = last_append (cond (is_sb1 r) r s) rs more

pub is_under : (flow : Flow) (p : Pair) (before : List (List ℕ)) → Under flow p before → under_subject flow p before ≡ true
unfolding last_sb1
is_under flow p before x =
    let sb1 = is_same SB1 (kind_in x.subject) x.kind in
    let is : last_sb1 [] before ≡ x.subject =
    ap (last_sb1 []) x.splits
    ∙ last_append [] x.earlier (x.subject ∷ x.since)
    ∙ ap (λ (b : Bool). last_sb1 (cond b x.subject (last_sb1 [] x.earlier)) x.since) sb1
    ∙ none_since x.subject x.since x.last in
    ap (is_subject flow p.id p.date) is
    ∙ rw (sb1, is_same p.id (field bar (id_field flow) x.subject) x.id, is_same p.date (field bar (date_field flow) x.subject) x.date)
