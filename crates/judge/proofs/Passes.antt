-- What the judge has found of a file that it accepts, test by test. Assumes nothing.
use Prim.Native.Nat.{ℕ, ◌+◌, ◌≤◌}
use mathlib.Core.Path.{◌≡◌, refl, sym, ap, ◌∙◌}
use mathlib.Core.Bool.{Bool, true, false, cond, not, ◌||◌, false≢true}
use mathlib.Core.List.{List, [], ◌∷◌, ◌++◌, map}
use lib.Dec.{leb}
use lib.ListN.{length}
use borrow.Author.Tests.{leb-true, le-leb}
use Rattle.text.specs.Rules.{must}
use Rattle.record.specs.Records.{records, field, barred, bar}
use Rattle.checksum.specs.Checksum.{checksum}
use Rattle.record.proofs.Turned.{turned_same}
use Rattle.number.specs.Numbers.{spelled}
use Rattle.layout.specs.Layout.{Layout, is_footer}
use Rattle.fault.specs.Fields.{fine as nothing_wrong, fault as wrong}
use Rattle.fault.specs.Record.{kind_of, footer_fault}
use Rattle.judge.specs.Record.{last_kind, sum_of}
use Rattle.judge.specs.File.{unplaced, checked_from, ends_in_feed, ended, finish, judged_by}
use Rattle.judge.specs.declared.Unplaced.{Unplaced}
use Rattle.std.specs.Prelude.{Result, Ok, Err}
use Rattle.judge.proofs.Files.{last_snoc}
use Rattle.judge.proofs.RightEach.{Each}
use Rattle.judge.proofs.RightFields.{must_fine, no_refusal, FineRecord, each_fine}

-- an acceptance passes each test
pub must_accepted : (b : Bool) (x r f n : ℕ) (v : Result ℕ Unplaced) → must b (Err (unplaced x r f)) v ≡ Ok n → (b ≡ true) × (v ≡ Ok n)
must_accepted true x r f n v e = (refl, e)
must_accepted false x r f n v e = absurd (no_refusal e)

finish_accepted : (c v : Result ℕ Unplaced) (n : ℕ) → finish c v ≡ Ok n → ((m : ℕ) × (c ≡ Ok m)) × (v ≡ Ok n)
finish_accepted (Ok m) v n e = ((m, refl), e)
finish_accepted (Err r) v n e = absurd (no_refusal e)

same_count : {m n : ℕ} → ◌≡◌ {A = Result ℕ Unplaced} (Ok m) (Ok n) → m ≡ n
same_count e = cc

-- the tests of a file that a layout's judge accepts with n records
pub record Passes (l : Layout) (f : List ℕ) (n : ℕ) : Type 0 where
  pub limit : length f ≤ 1048576
  pub last : ℕ
  pub checked : checked_from bar l [] (records f) ≡ Ok last
  pub closes : is_footer l (last_kind bar l (records f)) ≡ true
  pub feed : (not l.feed || ends_in_feed f) ≡ true
  pub count : length (records f) ≡ n

module _ (l : Layout) (f : List ℕ) (n : ℕ) where
  abbrev end : Result ℕ Unplaced
  end = ended l (length (records f)) (last_kind bar l (records f)) (ends_in_feed f)

  pub passes : judged_by l f ≡ Ok n → Passes l f n
  unfolding judged_by ended
  passes e =
      let rs = records f in
      let a = must_accepted (leb (length f) 1048576) 2 0 0 n (finish (checked_from bar l [] rs) end) e in
      let b = finish_accepted (checked_from bar l [] rs) end n a.1 in
      let c = must_accepted (is_footer l (last_kind bar l rs)) 14 (length rs + 1) 0 n
      (must (not l.feed || ends_in_feed f) (Err (unplaced 15 (length rs) 0)) (Ok (length rs))) b.1 in
      let d = must_accepted (not l.feed || ends_in_feed f) 15 (length rs) 0 n (Ok (length rs)) c.1 in
      record { limit = leb-true _ _ a.0; last = b.0.0; checked = b.0.1; closes = c.0; feed = d.0; count = same_count d.1 }

  pub passed : Passes l f n → judged_by l f ≡ Ok n
  unfolding judged_by ended
  passed p = rw (le-leb (length f) 1048576 p.limit, p.checked, p.closes, p.feed) (ap Ok p.count)

-- bars turned to bars
pub bars : (rs : List (List ℕ)) → map (barred bar) rs ≡ rs
bars [] = refl
bars (r ∷ rs) = λ i. turned_same bar r i ∷ bars rs i

foot_tests : (b c d : Bool) → b ≡ true → cond b (must c (wrong 12 2) (must d (wrong 13 3) nothing_wrong)) nothing_wrong ≡ nothing_wrong → (c ≡ true) × (d ≡ true)
foot_tests true c d h e =
    let p = must_fine c 12 2 (must d (wrong 13 3) nothing_wrong) e in
    (p.0, (must_fine d 13 3 nothing_wrong p.1).0)
foot_tests false c d h e = absurd (false≢true h)

-- each record of such a file is without fault, and the last tells the records before it
module _ (l : Layout) (f : List ℕ) (n : ℕ) (p : Passes l f n) where
  pub all_fine : Each (FineRecord l) [] (records f)
  all_fine = each_fine l [] (records f) p.last p.checked

  module _ (before : List (List ℕ)) (r : List ℕ) (whole : records f ≡ before ++ r ∷ []) where
    pub last_closes : is_footer l (kind_of bar l r) ≡ true
    last_closes = ap (is_footer l) (sym (ap (last_kind bar l) whole ∙ last_snoc bar l before r)) ∙ p.closes

    pub last_spells : (spelled (length before + 1) (field bar 2 r) ≡ true) × (spelled (checksum before) (field bar 3 r) ≡ true)
    unfolding footer_fault
    last_spells =
        let t = foot_tests (is_footer l (kind_of bar l r)) (spelled (length before + 1) (field bar 2 r)) (spelled (sum_of bar before) (field bar 3 r))
        last_closes (all_fine before r [] whole).closes in
        (t.0, ap (λ (rs : List (List ℕ)). spelled (checksum rs) (field bar 3 r)) (sym (bars before)) ∙ t.1)
