-- Sheets there and back: the second half of demand 2, and that there is one answer. Assumes nothing.
use Prim.Native.Nat.{ℕ, suc, ◌+◌, ◌-◌, ◌≤◌, ◌<◌}
use mathlib.Core.Path.{◌≡◌, refl, sym, ap, ◌∙◌}
use mathlib.Core.Bool.{Bool, true, false, not, or-true}
use mathlib.Core.Logic.{◌↔◌}
use mathlib.Core.List.{List, [], ◌∷◌, ◌++◌, map, append_assoc}
use native.Mathlib.Omega.{arith}
use lib.Dec.{eqb, leb}
use lib.ListN.{length, get_or, take, drop, length-append}
use lib.Seq.{take_at, get_or-append-add}
use borrow.Author.Tests.{leb-true, le-leb, ne_eqb, not-true}
use Rattle.std.specs.Prelude.{Result, Ok, Err}
use Rattle.text.specs.Rules.{must}
use Rattle.text.proofs.Inverse.{same_said}
use Rattle.record.specs.Records.{records, turned, barred, joined, holds, some_holds, bar}
use Rattle.checksum.specs.Checksum.{checksum, checksum_of}
use Rattle.record.proofs.Turned.{turned_back, turned_gone, turned_joined, records_turned_length}
use Rattle.record.proofs.Cutting.{records_joined, records_free, joined_append}
use Rattle.checksum.proofs.Sums.{checksum_of_joined}
use Rattle.place.specs.Places.{refusal, refusal_at, whole}
use Rattle.place.specs.declared.Refusal.{Refusal}
use Rattle.flow.specs.Publication.{layout_for}
use Rattle.flow.specs.Editions.{Asked, a_flow, no_flow}
use Rattle.flow.proofs.Proper.{ProperAsked}
use Rattle.judge.specs.File.{ends_in_feed, with_place, judged_by, judged_for, judged}
use Rattle.judge.specs.File as judging
use Rattle.judge.specs.declared.Unplaced.{Unplaced}
use Rattle.judge.proofs.Passes.{passed}
use Rattle.judge.proofs.Demand2.{accepted_flow, flow_accepted, accepted_answer}
use Rattle.sheet.specs.Sheets.{tab, footer, made, but_last, sheet_of, with_feed}
use Rattle.sheet.specs.Write.{Transfer, transferred, lines_ended, as_judged, fitted, written_by, written, Reply, done, refused, paper, output, Handed, Wrote}
use Rattle.sheet.specs.Read.{read_to, Read}
use Rattle.sheet.specs.declared.Transferred.{Transferred}
use Rattle.sheet.proofs.Holding.{none_joined}
use Rattle.sheet.proofs.Footers.{foot_length}
use Rattle.sheet.proofs.MadeFiles.{made_length, records_made, sheet_turned, ends_so}
use Rattle.sheet.proofs.Starts.{but_last_snoc}
use Rattle.sheet.proofs.Handing.{fits}
use Rattle.sheet.proofs.Accepted.{PassesFor, accepted_passes, accepted_split, accepted_some}
use Rattle.sheet.proofs.AcceptedFiles.{none_front, lines_no_tab, feed_joined, feed_long, feed_passes}

-- the writer takes a sheet: the sheet's own rules hold, the judge accepts the made file, and there is room
pub record Takes (a : Asked) (sheet : List ℕ) (room n b : ℕ) : Type 0 where
  pub within : length sheet ≤ 1048000
  pub no_bar : holds bar sheet ≡ false
  pub ends : lines_ended sheet ≡ true
  pub accepts : judged a (made sheet) ≡ judging.accepted n
  pub fits : length (made sheet) ≤ room
  pub bytes : b ≡ length (made sheet)

no_done : {r : Refusal} {n b : ℕ} → Err r ≡ transferred n b → ⊥
no_done e = let z : ◌≡◌ {A = ℕ} 0 1 = cc in omega arith

must_done : (t : Bool) (r : Refusal) (n b : ℕ) (a : Transfer) → must t (Err r) a ≡ transferred n b → (t ≡ true) × (a ≡ transferred n b)
must_done true r n b a e = (refl, e)
must_done false r n b a e = absurd (no_done e)

judged_done : (sep : ℕ) (s : List ℕ) (v : Result ℕ Unplaced) (after : ℕ → Transfer) (n b : ℕ) → as_judged (with_place sep s v) after ≡ transferred n b
    → (m : ℕ) × (v ≡ Ok m) × (after m ≡ transferred n b)
judged_done sep s (Ok m) after n b e = (m, refl, e)
judged_done sep s (Err x) after n b e = absurd (no_done e)

same_transfer : {t u : Transferred} → ◌≡◌ {A = Transfer} (Ok t) (Ok u) → t ≡ u
same_transfer e = cc

same_records : {m n b c : ℕ} → transferred m c ≡ transferred n b → m ≡ n
same_records e = ap (λ (t : Transferred). t.records) (same_transfer e)

same_bytes_lem : {m n b c : ℕ} → transferred m c ≡ transferred n b → b ≡ c
same_bytes_lem e = sym (ap (λ (t : Transferred). t.bytes) (same_transfer e))

module _ (sheet : List ℕ) (room n b : ℕ) where
  takes : (a : Asked) → written a sheet room ≡ transferred n b → Takes a sheet room n b
  unfolding written written_by
  takes (no_flow r) e = absurd (no_done e)
  takes (a_flow fl) e =
      let said = judged_by (layout_for fl) (made sheet) in
      let after = as_judged (with_place tab sheet said) (fitted room (made sheet)) in
      let unended = refusal_at tab sheet 15 (length (records sheet)) 0 in
      let lined = must (lines_ended sheet) (Err unended) after in
      let q = must_done (leb (length sheet) 1048000) (whole 2) n b _ e in
      let r = must_done (not (holds bar sheet)) _ n b lined q.1 in
      let s = must_done (lines_ended sheet) unended n b after r.1 in
      let v = judged_done tab sheet said (fitted room (made sheet)) n b s.1 in
      let t = must_done (leb (length (made sheet)) room) (whole 17) n b (transferred v.0 (length (made sheet))) v.2 in
      record {
        within = leb-true _ _ q.0;
        no_bar = not-true _ r.0;
        ends = s.0;
        accepts = flow_accepted (made sheet) n fl (v.1 ∙ ap Ok (same_records t.1));
        fits = leb-true _ _ t.0;
        bytes = same_bytes_lem t.1;
      }

  taken : (a : Asked) → Takes a sheet room n b → written a sheet room ≡ transferred n b
  unfolding written written_by
  taken a t =
      let x = accepted_flow (made sheet) n a t.accepts in
      rw (x.1, le-leb (length sheet) 1048000 t.within, t.no_bar, t.ends, x.2, le-leb (length (made sheet)) room t.fits) (ap (transferred n) (sym t.bytes))

  -- the writer accepts a sheet exactly when the judge accepts the made file and the sheet's own rules hold, given room
  pub writer_takes : (a : Asked) → (written a sheet room ≡ transferred n b) ↔ Takes a sheet room n b
  writer_takes a = (takes a, taken a)

-- a sheet without bars whose lines are ended is the sheet of its made file
pub sheet_of_made : (sheet : List ℕ) → holds bar sheet ≡ false → lines_ended sheet ≡ true → sheet_of (made sheet) ≡ sheet
unfolding sheet_of
sheet_of_made sheet free ends =
    let bars = map (barred tab) (records sheet) in
    ap (λ (rs : List (List ℕ)). turned bar tab (joined (but_last rs))) (records_made sheet ends)
    ∙ ap (λ (rs : List (List ℕ)). turned bar tab (joined rs)) (but_last_snoc bars _)
    ∙ ap (turned bar tab) (sym (sheet_turned sheet ends)) ∙ turned_back tab bar sheet free

-- given room, a sheet that the writer takes is read back as the same sheet
pub sheet_back : (a : Asked) (sheet : List ℕ) (room n b : ℕ) → written a sheet room ≡ transferred n b
    → (sheet_of (made sheet) ≡ sheet) × ((back : ℕ) → length sheet ≤ back → read_to a (made sheet) back ≡ transferred n (length sheet))
unfolding read_to
sheet_back a sheet room n b e =
    let t = takes sheet room n b a e in
    let same = sheet_of_made sheet t.no_bar t.ends in
    (same, λ back h. rw (accepted_answer a (made sheet) n t.accepts, same) (fits back sheet n h))

-- lines joined are ended
ends_before : (r s : List ℕ) → lines_ended s ≡ true → lines_ended (r ++ 0x0A ∷ s) ≡ true
ends_before r [] e = rw (ends_so r) (or-true (eqb (length (r ++ 0x0A ∷ [])) 0))
ends_before r (b ∷ s) e =
    let here : suc (length s) - 1 ≡ length s = omega arith in
    let last : eqb (get_or (b ∷ s) (length s) 0) 0x0A ≡ true = rw (ne_eqb (suc (length s)) 0 (λ q. omega arith), here) at e in
    let there : length (r ++ 0x0A ∷ b ∷ s) - 1 ≡ length r + suc (length s) = omega (arith, length-append r (0x0A ∷ b ∷ s)) in
    let feed : ends_in_feed (r ++ 0x0A ∷ b ∷ s) ≡ true = rw (there, get_or-append-add r (0x0A ∷ b ∷ s) (suc (length s)) 0) last in
    rw feed (or-true (eqb (length (r ++ 0x0A ∷ b ∷ s)) 0))

joined_ends : (rs : List (List ℕ)) → lines_ended (joined rs) ≡ true
unfolding joined
joined_ends [] = refl
joined_ends (r ∷ rs) = ends_before r (joined rs) (joined_ends rs)

-- where it is short enough, the file that is made of its sheet is the same with its last line feed
module _ (a : Asked) (proper : ProperAsked a) (f : List ℕ) (n : ℕ) (accepts : judged a f ≡ judging.accepted n) (short : length f ≤ 1048000) where
  right : PassesFor a f n
  right = accepted_passes a proper f n accepts

  abbrev lines : List (List ℕ)
  lines = but_last (records f)

  split : records f ≡ lines ++ footer (length lines + 1) (checksum lines) ∷ []
  split = accepted_split a proper f n accepts

  some : 0 < length f
  some = accepted_some a proper f n accepts

  front : turned tab bar (sheet_of f) ≡ joined lines
  unfolding sheet_of
  front = turned_back bar tab (joined lines) (none_joined tab lines refl (lines_no_tab (layout_for right.flow) right.proper.footer f n right.passed))

  feed_free : some_holds 0x0A lines ≡ false
  feed_free = none_front 0x0A lines (footer (length lines + 1) (checksum lines)) (ap (some_holds 0x0A) (sym split) ∙ records_free f)

  count : length (records (sheet_of f)) ≡ length lines
  count =
      sym (records_turned_length tab bar (λ e. omega arith) (λ e. omega arith) (sheet_of f))
      ∙ ap (λ (s : List ℕ). length (records s)) front ∙ ap length (records_joined lines feed_free)

  total : checksum_of (turned tab bar (sheet_of f)) ≡ checksum lines
  total = ap checksum_of front ∙ checksum_of_joined lines feed_free

  made_is : made (sheet_of f) ≡ with_feed f
  unfolding made joined
  made_is =
      let foot = footer (length lines + 1) (checksum lines) in
      (λ i. front i ++ footer (count i + 1) (total i) ++ 0x0A ∷ [])
      ∙ append_assoc (joined lines) foot (0x0A ∷ []) ∙ sym (joined_append lines (foot ∷ []))
      ∙ ap joined (sym split) ∙ feed_joined f some

  still_accepts : judged a (made (sheet_of f)) ≡ judging.accepted n
  still_accepts =
      let l = layout_for right.flow in
      ap (judged a) made_is ∙ ap (λ (x : Asked). judged x (with_feed f)) right.is_flow
      ∙ flow_accepted (with_feed f) n right.flow (passed l (with_feed f) n (feed_passes l f n some (omega arith) right.passed))

  no_bar_lem : holds bar (sheet_of f) ≡ false
  unfolding sheet_of
  no_bar_lem = turned_gone bar tab (joined lines) (λ e. omega arith)

  ended_lines : lines_ended (sheet_of f) ≡ true
  unfolding sheet_of
  ended_lines = ap lines_ended (turned_joined bar tab (λ e. omega arith) lines) ∙ joined_ends (map (turned bar tab) lines)

  -- an accepted file of at most 1,048,000 bytes, read and written again, is the same file with a line feed added if the last was absent
  pub file_back : (made (sheet_of f) ≡ with_feed f)
      × ((room : ℕ) → length (with_feed f) ≤ room → written a (sheet_of f) room ≡ transferred n (length (with_feed f)))
  file_back =
      let size = ap length made_is in
      let foot = foot_length (length (records (sheet_of f)) + 1) (checksum_of (turned tab bar (sheet_of f))) in (
        made_is,
        λ room h.
            taken (sheet_of f) room n (length (with_feed f)) a
            record {
              within = omega (arith, made_length (sheet_of f), feed_long f);
              no_bar = no_bar_lem;
              ends = ended_lines;
              accepts = still_accepts;
              fits = omega arith;
              bytes = sym size;
            },
      )

-- two answers that say the same are the same, and leave the same bytes
abbrev said : Reply → Transfer
said (done n b) = transferred n b
said (refused number r f place) = Err (refusal number r f place)

said_paper : (a : Transfer) → said (paper a) ≡ a
said_paper (Ok t) = refl
said_paper (Err r) = refl

pub same_answer : (a b : Transfer) → paper a ≡ paper b → a ≡ b
same_answer a b e = same_said paper said said_paper a b e

pub one_transfer : (a b answer : Transfer) (result old new new' : List ℕ) → paper a ≡ paper answer → paper b ≡ paper answer
    → new ≡ output a result old → new' ≡ output b result old → (a ≡ b) × (new ≡ new')
one_transfer a b answer result old new new' p q e f =
    let same = same_answer a b (p ∙ sym q) in
    (same, e ∙ ap (λ (x : Transfer). output x result old) same ∙ sym f)

-- only one answer with its bytes is handed over: so the writer's promise and the reader's have one each
pub one_handed : {said : Transfer} {result : List ℕ} {a b : Transfer} {old new new' : List ℕ} → Handed said result a old new → Handed said result b old new'
    → (a ≡ b) × (new ≡ new')
one_handed {said} {result} {a} {b} {old} {new} {new'} p q = one_transfer a b said result old new new' p.says q.says p.leaves q.leaves

module _ (x : Asked) (s : List ℕ) (a b : Transfer) (old new new' : List ℕ) where
  pub one_written : Wrote x s a old new → Wrote x s b old new' → (a ≡ b) × (new ≡ new')
  one_written p q = one_handed p q

  pub one_read : Read x s a old new → Read x s b old new' → (a ≡ b) × (new ≡ new')
  one_read p q = one_handed p q

-- where a result of an accepted file was handed over, the judge's answer and how many bytes it has
answer_done : (j : Result ℕ Refusal) (after : ℕ → Transfer) (n b : ℕ) → as_judged j after ≡ transferred n b → (m : ℕ) × (j ≡ Ok m) × (after m ≡ transferred n b)
answer_done (Ok m) after n b e = (m, refl, e)
answer_done (Err r) after n b e = absurd (no_done e)

pub done_accepts : (a : Asked) (f result : List ℕ) (room n b : ℕ) → as_judged (judged_for a f) (fitted room result) ≡ transferred n b
    → (judged a f ≡ judging.accepted n) × (b ≡ length result)
unfolding judged
done_accepts a f result room n b e =
    let v = answer_done (judged_for a f) (fitted room result) n b e in
    let t = must_done (leb (length result) room) (whole 17) n b (transferred v.0 (length result)) v.2 in
    (ap judging.paper v.1 ∙ ap judging.accepted (same_records t.1), same_bytes_lem t.1)

-- both round trips, in the bytes that are lent
module _ (a : Asked) (n b : ℕ) (old new : List ℕ) (answer : Transfer) (old' new' : List ℕ) where
  -- a sheet written, and what was written read
  pub sheet_returns : (sheet : List ℕ) → Wrote a sheet (transferred n b) old new → Read a (take b new) answer old' new' → length sheet ≤ length old'
      → (answer ≡ transferred n (length sheet)) × (take (length sheet) new' ≡ sheet)
  sheet_returns sheet w r h =
      let says = same_answer (transferred n b) (written a sheet (length old)) w.says in
      let t = takes sheet (length old) n b a (sym says) in
      let back = sheet_back a sheet (length old) n b (sym says) in
      let file : take b new ≡ made sheet = ap (take b) w.leaves ∙ take_at (made sheet) (drop b old) b (sym t.bytes) in
      let is : answer ≡ transferred n (length sheet) =
      same_answer answer (read_to a (take b new) (length old')) r.says ∙ ap (λ (f : List ℕ). read_to a f (length old')) file ∙ back.1 (length old') h in (
        is,
        ap (take (length sheet)) (r.leaves ∙ (λ i. output (is i) ((ap sheet_of file ∙ back.0) i) old'))
            ∙ take_at sheet (drop (length sheet) old') (length sheet) refl,
      )

  -- a file read, and what was read written
  pub file_returns : ProperAsked a → (f : List ℕ) → Read a f (transferred n b) old new → length f ≤ 1048000 → Wrote a (take b new) answer old' new'
      → length (with_feed f) ≤ length old' → (answer ≡ transferred n (length (with_feed f))) × (take (length (with_feed f)) new' ≡ with_feed f)
  unfolding read_to
  file_returns proper f r short w h =
      let says = same_answer (transferred n b) (read_to a f (length old)) r.says in
      let t = done_accepts a f (sheet_of f) (length old) n b (sym says) in
      let back = file_back a proper f n t.0 short in
      let sheet : take b new ≡ sheet_of f = ap (take b) r.leaves ∙ take_at (sheet_of f) (drop b old) b (sym t.1) in
      let is : answer ≡ transferred n (length (with_feed f)) =
      same_answer answer (written a (take b new) (length old')) w.says ∙ ap (λ (s : List ℕ). written a s (length old')) sheet ∙ back.1 (length old') h in (
        is,
        ap (take (length (with_feed f))) (w.leaves ∙ (λ i. output (is i) ((ap made sheet ∙ back.0) i) old'))
            ∙ take_at (with_feed f) (drop (length (with_feed f)) old') (length (with_feed f)) refl,
      )
