-- Demand 2: a file is accepted with n records exactly where it is right for a proper flow and has n records. Assumes nothing.
use Prim.Native.Nat.{ℕ, ◌+◌}
use mathlib.Core.Path.{◌≡◌, refl, sym, ap, subst, ◌∙◌}
use mathlib.Core.Bool.{Bool, true, false, cond, not, ◌||◌, false≢true}
use mathlib.Core.Logic.{◌↔◌}
use mathlib.Core.List.{List, [], ◌∷◌, ◌++◌, append_assoc}
use native.Mathlib.Omega.{arith}
use lib.ListN.{length, drop, length-append}
use borrow.Author.Tests.{eqb-true, eq-eqb}
use Rattle.text.specs.Rules.{must}
use Rattle.text.proofs.Inverse.{same_said}
use Rattle.record.specs.Records.{records, fields, field, bar}
use Rattle.checksum.specs.Checksum.{checksum}
use Rattle.place.specs.Places.{refusal}
use Rattle.number.specs.Numbers.{spelled}
use Rattle.layout.specs.Layout.{Rule, Layout, is_footer}
use Rattle.flow.specs.Publication.{Flow, layout_for}
use Rattle.flow.specs.Editions.{Asked, a_flow, no_flow, asked}
use Rattle.flow.specs.Proper.{key_fits, Proper}
use Rattle.flow.proofs.Proper.{ProperAsked}
use Rattle.flow.proofs.Asking.{asked_proper}
use Rattle.fault.specs.Fields.{fine as nothing_wrong, fault as wrong, fields_fault}
use Rattle.fault.specs.Record.{kind_of, footer_fault}
use Rattle.judge.specs.Record.{sum_of}
use Rattle.judge.specs.File.{unplaced, ends_in_feed, judged_by, with_place, judged_for, Reply, accepted, refused, paper, judged}
use Rattle.judge.specs.Right.{kind_in, published_as, published_for, Typed, RightFor, Right}
use Rattle.judge.specs.declared.Unplaced.{Unplaced}
use Rattle.std.specs.Prelude.{Result, Ok, Err}
use Rattle.place.specs.declared.Refusal.{Refusal}
use Rattle.judge.proofs.RightEach.{Each}
use Rattle.judge.proofs.RightFields.{FineRecord, fine_each, is_typed, typed_is}
use Rattle.judge.proofs.Passes.{Passes, passes, passed, bars, all_fine, last_spells}
use Rattle.judge.proofs.RightKinds.{Placed, placed_under, under_placed, under_footer, footer_ends}
use Rattle.judge.proofs.RightKeys.{published_fits, rules_are, ascends_from, key_fine}

-- a line feed that is needed is there
needed : (a b : Bool) → (not a || b) ≡ true → a ≡ true → b ≡ true
needed true b e h = e
needed false b e h = absurd (false≢true h)

not_needed : (a b : Bool) → (a ≡ true → b ≡ true) → (not a || b) ≡ true
not_needed true b h = h refl
not_needed false b h = refl

-- a footer that tells the records before it has no fault
foot_right : (b c d : Bool) → (b ≡ true → (c ≡ true) × (d ≡ true)) → cond b (must c (wrong 12 2) (must d (wrong 13 3) nothing_wrong)) nothing_wrong ≡ nothing_wrong
foot_right true c d h = rw ((h refl).0, (h refl).1)
foot_right false c d h = refl

-- for a proper flow
module _ (fl : Flow) (proper : Proper fl) (f : List ℕ) (n : ℕ) where
  abbrev l : Layout
  l = layout_for fl

  abbrev rs : List (List ℕ)
  rs = records f

  key_fits_lem : (r : List ℕ) → key_fits (published_for fl r) ≡ true
  key_fits_lem r = published_fits fl.kinds (kind_in r) proper.keys

  regroup : (b : List (List ℕ)) (q : List ℕ) (mid : List (List ℕ)) (r : List ℕ) (a : List (List ℕ)) → (b ++ q ∷ mid) ++ r ∷ a ≡ b ++ q ∷ (mid ++ r ∷ a)
  regroup b q mid r a = append_assoc b (q ∷ mid) (r ∷ a)

  -- what is accepted is right
  module _ (p : Passes (layout_for fl) f n) where
    fine : Each (FineRecord l) [] rs
    fine = all_fine l f n p

    between : (b : List (List ℕ)) (q : List ℕ) (mid : List (List ℕ)) (r : List ℕ) (a : List (List ℕ)) → rs ≡ b ++ q ∷ (mid ++ r ∷ a)
        → Each (λ _ x. kind_of bar l x ≡ 0 → ⊥) [] mid
    between b q mid r a e c x d s =
        let whole : rs ≡ (b ++ q ∷ c) ++ x ∷ (d ++ r ∷ a) =
        e ∙ ap (λ (t : List (List ℕ)). b ++ q ∷ (t ++ r ∷ a)) s ∙ ap (λ (t : List (List ℕ)). b ++ q ∷ t) (append_assoc c (x ∷ d) (r ∷ a)) ∙ sym (regroup b q c x (d ++ r ∷ a)) in
        (fine (b ++ q ∷ c) x (d ++ r ∷ a) whole).known

    has_type : (b : List (List ℕ)) (r : List ℕ) (a : List (List ℕ)) → rs ≡ b ++ r ∷ a → Typed (published_for fl r).fields r
    has_type b r a e =
        let x = fine b r a e in
        is_typed (published_for fl r).fields r (x.counted ∙ ap (λ (rules : List Rule). length rules + 1) (rules_are fl r x.known))
        (sym (ap (λ (rules : List Rule). fields_fault rules (drop 1 (fields bar r)) 2) (rules_are fl r x.known)) ∙ x.typed)

    accepted_right : RightFor fl f n
    accepted_right =
        record {
          limit = p.limit;
          record_limit = λ b r a e. (fine b r a e).short;
          grammar = placed_under fl proper.agree proper.some rs (λ b r a e. record { known = (fine b r a e).known; follows = (fine b r a e).follows }) p.closes;
          typed = has_type;
          keys = λ b q mid r a e s x y.
              let x' = fine (b ++ q ∷ mid) r a (e ∙ sym (regroup b q mid r a)) in
              let t : Typed (published_for fl r).fields q = subst (λ (name : List ℕ). Typed (published_as fl.kinds name).fields q) s (has_type b q (mid ++ r ∷ a) e) in
              ascends_from fl r x'.known (key_fits_lem r) b q mid s t (between b q mid r a e) x y x'.ascends;
          count = λ b r e.
              let z : length b + 1 ≡ length rs = sym (ap length e ∙ length-append b (r ∷ [])) in
              ap (λ (c : ℕ). spelled c (field bar 2 r)) (sym z) ∙ (last_spells l f n p b r e).0;
          checksum = λ b r e. (last_spells l f n p b r e).1;
          last_feed = λ h. eqb-true _ _ (needed fl.feed (ends_in_feed f) p.feed h);
          counted = sym p.count;
        }

  -- what is right is accepted
  module _ (p : RightFor fl f n) where
    placed : Each (Placed l) [] rs
    placed = under_placed fl proper.agree proper.some rs p.grammar

    closed_right : (b : List (List ℕ)) (r : List ℕ) (a : List (List ℕ)) → rs ≡ b ++ r ∷ a → footer_fault bar l (length b) (sum_of bar b) (kind_of bar l r) r ≡ nothing_wrong
    unfolding footer_fault
    closed_right b r a e =
        foot_right (is_footer l (kind_of bar l r)) (spelled (length b + 1) (field bar 2 r)) (spelled (sum_of bar b) (field bar 3 r))
        (λ h.
        let whole : rs ≡ b ++ r ∷ [] = e ∙ ap (λ (t : List (List ℕ)). b ++ r ∷ t) (footer_ends fl proper.agree proper.some rs proper.closed p.grammar b r a e h) in
        let z : length rs ≡ length b + 1 = ap length whole ∙ length-append b (r ∷ []) in (
          ap (λ (c : ℕ). spelled c (field bar 2 r)) (sym z) ∙ p.count b r whole,
          ap (λ (t : List (List ℕ)). spelled (checksum t) (field bar 3 r)) (bars b) ∙ p.checksum b r whole,
        ))

    right_fine : Each (FineRecord l) [] rs
    right_fine b r a e =
        let w = placed b r a e in
        let t = p.typed b r a e in
        record {
          short = p.record_limit b r a e;
          known = w.known;
          follows = w.follows;
          counted = t.field_count ∙ ap (λ (rules : List Rule). length rules + 1) (sym (rules_are fl r w.known));
          typed = ap (λ (rules : List Rule). fields_fault rules (drop 1 (fields bar r)) 2) (rules_are fl r w.known) ∙ typed_is (published_for fl r).fields r t;
          ascends = key_fine fl r w.known (key_fits_lem r) b
              (λ c q mid s. p.keys c q mid r a (e ∙ ap (λ (u : List (List ℕ)). u ++ r ∷ a) s ∙ regroup c q mid r a));
          closes = closed_right b r a e;
        }

    right_passes : Passes l f n
    right_passes =
        record {
          limit = p.limit;
          last = length rs;
          checked = fine_each l [] rs right_fine;
          closes = under_footer fl proper.agree proper.some rs p.grammar;
          feed = not_needed fl.feed (ends_in_feed f) (λ h. eq-eqb _ _ (p.last_feed h));
          count = sym p.counted;
        }

  -- a file is accepted for the flow exactly where it is right for it
  pub right_for : (judged_by (layout_for fl) f ≡ Ok n) ↔ RightFor fl f n
  right_for = (λ e. accepted_right (passes (layout_for fl) f n e), λ p. passed (layout_for fl) f n (right_passes p))

-- the answer that says this
abbrev said : Reply → Result ℕ Refusal
said (accepted n) = Ok n
said (refused number r k place) = Err (refusal number r k place)

said_paper : (v : Result ℕ Refusal) → said (paper v) ≡ v
said_paper (Ok n) = refl
said_paper (Err r) = refl

-- two answers that say the same in the papers' terms are the same answer, so only one meets the promise of judge
pub one_reply : (v w : Result ℕ Refusal) → paper v ≡ paper w → v ≡ w
one_reply v w e = same_said paper said said_paper v w e

-- what the answer is where the papers' answer is an acceptance
pub accepted_answer : (a : Asked) (f : List ℕ) (n : ℕ) → judged a f ≡ accepted n → judged_for a f ≡ Ok n
unfolding judged
accepted_answer a f n e = one_reply (judged_for a f) (Ok n) e

-- the verdict before a refusal's place
abbrev verdict_of : Reply → Result ℕ Unplaced
verdict_of (accepted n) = Ok n
verdict_of (refused number r k place) = Err (unplaced number r k)

not_both : {number r k place n : ℕ} → refused number r k place ≡ accepted n → ⊥
not_both e = let z : ◌≡◌ {A = ℕ} 0 1 = cc in omega arith

pub unplaced_paper : (sep : ℕ) (s : List ℕ) (v : Result ℕ Unplaced) → verdict_of (paper (with_place sep s v)) ≡ v
unplaced_paper sep s (Ok n) = refl
unplaced_paper sep s (Err r) = refl

module _ (f : List ℕ) (n : ℕ) where
  -- a file is accepted for what is asked where that is a flow, and the file is accepted by its layout
  pub accepted_flow : (a : Asked) → judged a f ≡ accepted n → (fl : Flow) × (a ≡ a_flow fl) × (judged_by (layout_for fl) f ≡ Ok n)
  unfolding judged judged_for
  accepted_flow (a_flow fl) e = (fl, refl, sym (unplaced_paper bar f (judged_by (layout_for fl) f)) ∙ ap verdict_of e)
  accepted_flow (no_flow r) e = absurd (not_both e)

  pub flow_accepted : (fl : Flow) → judged_by (layout_for fl) f ≡ Ok n → judged (a_flow fl) f ≡ accepted n
  unfolding judged judged_for
  flow_accepted fl e = rw e

  -- demand 2, for whatever is asked that is proper
  pub right_asked : (a : Asked) → ProperAsked a → (judged a f ≡ accepted n) ↔ Right a f n
  right_asked a p = (
    λ e.
        let x = accepted_flow a e in
        record { flow = x.0; is_held = x.1; file = (right_for x.0 (subst ProperAsked x.1 p) f n).0 x.2 },
    λ r.
        ap (λ (x : Asked). judged x f) r.is_held
        ∙ flow_accepted r.flow ((right_for r.flow (subst ProperAsked r.is_held p) f n).1 r.file),
  )

  -- so for each flow and edition that we hold
  pub demand2 : (words : List ℕ) → (judged (asked words) f ≡ accepted n) ↔ Right (asked words) f n
  demand2 words = right_asked (asked words) (asked_proper words)
