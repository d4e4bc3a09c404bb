-- What a filling leaves, over plain variables: entries stored one by one are the first n entries and then what was there, and those are what FilledRight promises. Assumes nothing.
use mathlib.Core.Path.{◌≡◌, refl, sym, ◌∙◌, ap, subst}
use Prim.Native.Nat.{ℕ, zero, suc, ◌≤◌, ◌<◌}
use native.Mathlib.Omega.{arith}
use mathlib.Core.Bool.{Bool, true, false}
use mathlib.Core.List.{List, [], ◌∷◌, ◌++◌}
use lib.ListN.{get_or, length, take, drop, set}
use lib.Seq.{drop-cons, take-suc, take-length, length-take-le, set-append_seam, append_snoc}
use lib.Dec.{leb}
use borrow.Author.Tests.{leb-true}
use Rattle.std.specs.Prelude.{Result, Ok, Err}
use Rattle.text.specs.Rules.{must}
use Rattle.place.specs.Places.{whole}
use Rattle.place.specs.declared.Refusal.{Refusal}
use Rattle.layout.specs.Numbers.{layout_of}
use Rattle.flow.specs.Publication.{Flow, layout_for}
use Rattle.flow.specs.Editions.{Asked, a_flow, no_flow}
use Rattle.judge.specs.File.{placed_by, judged_for}
use Rattle.index.specs.declared.Entry.{Entry}
use Rattle.index.specs.declared.Filled.{Filled}
use Rattle.index.specs.Entries.{Kinds, entries_of, filled, indexed_by, list_by, entries_by, answer_by, entries_for, answer_for, paper, indexed, listed, FilledRight}
use Rattle.index.specs.Code.{blank, kinds_in, starting, advanced, after, to_store, HasKinds, stored, read, storing, FilledBy}
use Rattle.index.proofs.Tables.{unfixed, no_kinds, flow_kinds, few_kinds}
use Rattle.index.proofs.Counts.{begun_refused, begun_flow}
use Rattle.index.proofs.Reading.{entry_read}

-- ---- entries stored one by one: the entry to be stored is always the one at the seam
one_more_lem : (es ys : List Entry) (n : ℕ) → n < length es → n < length ys → set (take n es ++ drop n ys) n (get_or es n blank) ≡ take (suc n) es ++ drop (suc n) ys
one_more_lem es ys n h g =
    let e : Entry = get_or es n blank in
    let k : length (take n es) ≡ n = length-take-le n es (omega (arith, h)) in
    ap (λ (l : List Entry). set (take n es ++ l) n e) (drop-cons ys n blank g)
    ∙ ap (λ (m : ℕ). set (take n es ++ (get_or ys n blank ∷ drop (suc n) ys)) m e) (sym k)
    ∙ set-append_seam (take n es) (get_or ys n blank) (drop (suc n) ys) e
    ∙ sym (append_snoc (take n es) e (drop (suc n) ys))
    ∙ ap (λ (l : List Entry). l ++ drop (suc n) ys) (sym (take-suc es n blank h))

storing_is : (es : List Entry) (e : ℕ → Entry) → ((k : ℕ) → k < length es → e k ≡ get_or es k blank) → (n : ℕ) (ys : List Entry) → n ≤ length ys → n ≤ length es
    → storing set e n ys ≡ take n es ++ drop n ys
storing_is es e is zero ys h g = refl
storing_is es e is (suc n) ys h g =
    ap (λ (l : List Entry). set l n (e n)) (storing_is es e is n ys (omega (arith, h)) (omega (arith, g)))
    ∙ ap (λ (x : Entry). set (take n es ++ drop n ys) n x) (is n g)
    ∙ one_more_lem es ys n g h

-- ---- the states, and what the stored entries make
pub after_none : (ks : Kinds) (f : List ℕ) → starting ks ≡ after ks f 0
unfolding after
after_none ks f = refl

pub after_one : (ks : Kinds) (f : List ℕ) (i : ℕ) → advanced ks f (after ks f i) ≡ after ks f (suc i)
unfolding after
after_one ks f i = refl

pub all_stored : (ks : Kinds) (f : List ℕ) → length ks.names ≤ 32 → (n : ℕ) (ys : List Entry) → n ≤ length ys → n ≤ length (entries_of ks f)
    → storing set (read ks f) n ys ≡ stored ks f n ys
all_stored ks f few n ys h g = storing_is (entries_of ks f) (read ks f) (entry_read ks f few) n ys h g

-- ---- what `begin` says for so much room: its number of entries fits, as many entries are there, and they are those that its answer promises; by the reader's answer, then by the room
abbrev pub promised : Result Filled Refusal → List Entry → List Entry
promised (Err r) es = []
promised (Ok said) es = es

pub record Agrees (es : List Entry) (room : ℕ) (said : Result Filled Refusal) : Type 0 where
  pub fits : to_store said ≤ room
  pub there : to_store said ≤ length es
  pub makes : take (to_store said) es ≡ promised said es

agrees_by : (t : Bool) (n : ℕ) (es : List Entry) (room : ℕ) → leb (length es) room ≡ t → Agrees es room (must t (Err (whole 19)) (Ok (filled n (length es))))
agrees_by true n es room e = record { fits = leb-true (length es) room e; there = omega arith; makes = take-length es }
agrees_by false n es room e = record { fits = omega arith; there = omega arith; makes = refl }

agrees : (j : Result ℕ Refusal) (es : List Entry) (room : ℕ) → Agrees es room (indexed_by j es room)
unfolding indexed_by
agrees (Err r) es room = record { fits = omega arith; there = omega arith; makes = refl }
agrees (Ok n) es room = agrees_by (leb (length es) room) n es room refl

-- by a table
pub agreed_by : (t fixed f : List ℕ) (room : ℕ) (b : Result Filled Refusal) → b ≡ answer_by (layout_of t fixed) f room → Agrees (entries_of (kinds_in t) f) room b
agreed_by t fixed f room b is =
    subst (Agrees (entries_of (kinds_in t) f) room) (sym is)
    (subst (λ (ks : Kinds). Agrees (entries_of ks f) room (answer_by (layout_of t fixed) f room)) (sym (unfixed t fixed)) (agrees (placed_by (layout_of t fixed) f) (entries_by (layout_of t fixed) f) room))

-- for what is asked, by the kinds of its flow
module _ (f : List ℕ) (room : ℕ) (ks : Kinds) where
  agrees_asked : (a : Asked) → HasKinds a ks → Agrees (entries_of ks f) room (answer_for a f room)
  unfolding indexed_by judged_for
  agrees_asked (a_flow fl) same = subst (λ (k : Kinds). Agrees (entries_of k f) room (answer_for (a_flow fl) f room)) (sym same) (agrees (judged_for (a_flow fl) f) (entries_for (a_flow fl) f) room)
  agrees_asked (no_flow r) same = record { fits = omega arith; there = omega arith; makes = refl }

  -- the entries that are promised are those of the flow
  pub promised_asked : (a : Asked) → HasKinds a ks → promised (answer_for a f room) (entries_of ks f) ≡ promised (answer_for a f room) (entries_for a f)
  unfolding indexed_by judged_for
  promised_asked (a_flow fl) same = ap (λ (k : Kinds). promised (answer_for (a_flow fl) f room) (entries_of k f)) same
  promised_asked (no_flow r) same = refl

-- ---- what `fill` shows of the number that `begin` gave, and what it makes of the list that `store_first` left
list_made : (said : Result Filled Refusal) (es old : List Entry) → promised said es ++ drop (to_store said) old ≡ list_by said es old
unfolding list_by
list_made (Err r) es old = refl
list_made (Ok said) es old = refl

pub count_fits : (a : Asked) (f : List ℕ) (room : ℕ) (b : Result Filled Refusal) → b ≡ answer_for a f room → to_store b ≤ room
count_fits a f room b is = subst (λ (c : Result Filled Refusal). to_store c ≤ room) (sym is) (agrees (judged_for a f) (entries_for a f) room).fits

module _ (a : Asked) (f : List ℕ) (room : ℕ) (b : Result Filled Refusal) (is : b ≡ answer_for a f room) (ks : Kinds) (same : HasKinds a ks) where
  pub all_agree : Agrees (entries_of ks f) room b
  all_agree = subst (Agrees (entries_of ks f) room) (sym is) (agrees_asked f room ks a same)

pub filled_right : (a : Asked) (f : List ℕ) (old : List Entry) (b : Result Filled Refusal) → b ≡ answer_for a f (length old) → (t : List ℕ) → HasKinds a (kinds_in t)
    → (new : List Entry) → new ≡ stored (kinds_in t) f (to_store b) old → FilledRight a f old new b
unfolding indexed listed
filled_right a f old b is t same new left = record {
  says = ap paper is;
  holds = left
      ∙ ap (λ (es : List Entry). es ++ drop (to_store b) old) (all_agree a f (length old) b is (kinds_in t) same).makes
      ∙ (λ i. promised (is i) (entries_of (kinds_in t) f) ++ drop (to_store (is i)) old)
      ∙ ap (λ (es : List Entry). es ++ drop (to_store (answer_for a f (length old))) old) (promised_asked f (length old) (kinds_in t) a same)
      ∙ list_made (answer_for a f (length old)) (entries_for a f) old;
}

-- ---- what `fill_list` shows of a list of any sort: refused words leave it as it was, and a flow's table has the flow's kinds and answer
module _ {A : Type 0} (room : List A → ℕ) (with_entry : List A → ℕ → Entry → List A) (a : Asked) (f : List ℕ) (old : List A) where
  pub none_filled : (r : Refusal) → no_flow r ≡ a → FilledBy room with_entry a f old old (Err r)
  none_filled r e = record { numbers = []; kinds = no_kinds a (kinds_in []) r e; says = begun_refused a f (room old) r e; holds = refl }

  pub flow_filled : (fl : Flow) → a_flow fl ≡ a → (t fixed : List ℕ) → layout_of t fixed ≡ layout_for fl → (b : Result Filled Refusal) → b ≡ answer_by (layout_of t fixed) f (room old)
      → (new : List A) → new ≡ storing with_entry (read (kinds_in t) f) (to_store b) old → FilledBy room with_entry a f old new b
  flow_filled fl e t fixed is b said new left = record {
    numbers = t;
    kinds = flow_kinds a fl e t fixed is;
    says = begun_flow a f (room old) fl e (layout_of t fixed) is b said;
    holds = left;
  }

-- so a list of entries that was filled one by one is right
pub list_right : (a : Asked) (f : List ℕ) (old new : List Entry) (b : Result Filled Refusal) → FilledBy length set a f old new b → FilledRight a f old new b
list_right a f old new b w =
    let agree = all_agree a f (length old) b w.says (kinds_in w.numbers) w.kinds in
    filled_right a f old b w.says w.numbers w.kinds new
    (w.holds ∙ all_stored (kinds_in w.numbers) f (few_kinds w.numbers) (to_store b) old agree.fits agree.there)
