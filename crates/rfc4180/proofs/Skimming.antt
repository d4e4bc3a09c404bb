-- Laws of a stretch of data and commas, which the walk passes over at once. Assumes nothing.
use Prim.Native.Nat.{ℕ, zero, suc, ◌+◌, ◌-◌, ◌≤◌, ◌<◌}
use mathlib.Core.Path.{◌≡◌, refl, sym, ap, ◌∙◌}
use mathlib.Core.Bool.{Bool, true, false, cond, ◌&&◌, ◌||◌, false≢true}
use mathlib.Core.List.{List, [], ◌∷◌, ◌++◌}
use native.Mathlib.Numerals.{add-one}
use native.Mathlib.Omega.{arith}
use lib.Dec.{eqb, leb}
use lib.ListN.{length, get_or, take, drop, length-append, take-append-drop, drop_of_length-le, length-drop}
use lib.Seq.{drop-cons, drop-drop, length-take-le}
use borrow.Author.Tests.{eqb-true, eqb-false, leb-true, leb-false}
use Rattle.text.specs.Characters.{all, from_to}
use Rattle.record.specs.Records.{turned}
use Rattle.record.proofs.Cutting.{neither}
use Rattle.record.proofs.Turned.{turned_length}
use Rattle.number.proofs.Digits.{and_left, and_right}
use Rattle.sheet.specs.Sheets.{tab}
use Rattle.rfc4180.specs.Rfc.{comma, quote, textdata}
use Rattle.rfc4180.specs.Walk.{in_quotes, next_of, given_of, stop_at, sheet_from, lines_from}
use Rattle.rfc4180.specs.declared.State.{State}
use Rattle.rfc4180.specs.declared.State.TheVariants.{AtLine, AtField, Plain, InQuotes, AfterQuote, AfterReturn, Stopped}
use Rattle.rfc4180.specs.Skim.{bare, bare_run, skims, skimmed, led_to, stretch_given, Stretch}
use Rattle.rfc4180.proofs.Ways.{Way, stay, step, way_stop, way_sheet, way_lines, text_given, text_quoted, not_comma, not_quote}

-- a bare byte is data or a comma
data Bare (b : ℕ) : Type 0 where
  a_text : textdata b ≡ true → Bare b
  a_comma : b ≡ comma → Bare b

out_go : (lo hi b : ℕ) (x y : Bool) → leb lo b ≡ x → leb b hi ≡ y → (x && y) ≡ false → lo ≤ b → hi < b
out_go lo hi b true true p q r h = absurd (false≢true (sym r))
out_go lo hi b true false p q r h = leb-false b hi q
out_go lo hi b false y p q r h = absurd (omega (arith, leb-false lo b p))

outside : (lo hi b : ℕ) → from_to lo hi b ≡ false → lo ≤ b → hi < b
outside lo hi b e h = out_go lo hi b (leb lo b) (leb b hi) refl refl e h

kind_go : (b : ℕ) (q t c : Bool) → eqb b quote ≡ q → textdata b ≡ t → eqb b comma ≡ c → cond q false (from_to 0x20 0x7E b) ≡ true → Bare b
unfolding textdata
kind_go b true t c e f g h = absurd (false≢true h)
kind_go b false true c e f g h = a_text f
kind_go b false false true e f g h = a_comma (eqb-true b comma g)
kind_go b false false false e f g h =
    let n = neither (from_to 0x20 0x21 b || from_to 0x23 0x2B b) (from_to 0x2D 0x7E b) f in
    let m = neither (from_to 0x20 0x21 b) (from_to 0x23 0x2B b) n.0 in
    let low : 0x20 ≤ b = leb-true 0x20 b (and_left (leb 0x20 b) (leb b 0x7E) h) in
    let high : b ≤ 0x7E = leb-true b 0x7E (and_right (leb 0x20 b) (leb b 0x7E) h) in
    let no_quote : b ≡ quote → ⊥ = eqb-false b quote e in
    let no_comma : b ≡ comma → ⊥ = eqb-false b comma g in
    let a : 0x21 < b = outside 0x20 0x21 b m.0 low in
    let past-quote : 0x23 ≤ b = omega arith in
    let c : 0x2B < b = outside 0x23 0x2B b m.1 past-quote in
    let past-comma : 0x2D ≤ b = omega arith in
    absurd (omega (arith, outside 0x2D 0x7E b n.1 past-comma))

bare_kind : (b : ℕ) → bare b ≡ true → Bare b
unfolding bare
bare_kind b e = kind_go b (eqb b quote) (textdata b) (eqb b comma) refl refl refl e

-- the bytes of a stretch
run_go : (b n : ℕ) (s u : List ℕ) (t : Bool) → bare b ≡ t → all bare u ≡ true → take n s ≡ u → all bare (take (cond t (suc n) 0) (b ∷ s)) ≡ true
run_go b n s u true e h q = rw e (ap (all bare) q ∙ h)
run_go b n s u false e h q = refl

bare_all : (s : List ℕ) → all bare (take (bare_run s) s) ≡ true
unfolding bare_run
bare_all [] = refl
bare_all (b ∷ s) = run_go b (bare_run s) s (take (bare_run s) s) (bare b) refl (bare_all s) refl

le_go : (n m : ℕ) (t : Bool) → n ≤ m → cond t (suc n) 0 ≤ suc m
le_go n m true h = omega arith
le_go n m false h = omega arith

bare_le : (s : List ℕ) → bare_run s ≤ length s
unfolding bare_run
bare_le [] = omega arith
bare_le (b ∷ s) = le_go (bare_run s) (length s) (bare b) (bare_le s)

-- byte by byte, for the loop that counts them
module _ (s : List ℕ) (i : ℕ) where
  pub bare_next : i < length s → bare (get_or s i 0) ≡ true → bare_run (drop i s) ≡ suc (bare_run (drop (i + 1) s))
  unfolding bare_run
  bare_next h e = rw (add-one i, drop-cons s i 0 h, e)

  pub bare_here : i < length s → bare (get_or s i 0) ≡ false → bare_run (drop i s) ≡ 0
  unfolding bare_run
  bare_here h e = rw (drop-cons s i 0 h, e)

  pub bare_end : length s ≤ i → bare_run (drop i s) ≡ 0
  unfolding bare_run
  bare_end h = rw (drop_of_length-le s {i = i} h)

-- a state outside quotes from which a stretch is passed over; where a bare byte leads, and what it gives
data Outside : State → Type 0 where
  in_line : Outside AtLine
  in_field : Outside AtField
  in_plain : Outside Plain

outside_so : (st : State) → skims st ≡ true → in_quotes st ≡ false → Outside st
outside_so AtLine k o = in_line
outside_so AtField k o = in_field
outside_so Plain k o = in_plain
outside_so InQuotes k o = absurd (false≢true (sym o))
outside_so AfterQuote k o = absurd (false≢true k)
outside_so AfterReturn k o = absurd (false≢true k)
outside_so Stopped k o = absurd (false≢true k)

text_next : {st : State} → Outside st → (b : ℕ) → textdata b ≡ true → next_of st b ≡ Plain
unfolding next_of
text_next in_line b t = rw (not_quote b t, t)
text_next in_field b t = rw (not_quote b t, t)
text_next in_plain b t = rw t

comma_next : {st : State} → Outside st → next_of st comma ≡ AtField
unfolding next_of textdata
comma_next in_line = refl
comma_next in_field = refl
comma_next in_plain = refl

comma_given : {st : State} → Outside st → given_of st comma ≡ tab ∷ []
unfolding given_of
comma_given in_line = refl
comma_given in_field = refl
comma_given in_plain = refl

-- a stretch outside quotes: its commas are tabs
turned_text : (b : ℕ) (s : List ℕ) → textdata b ≡ true → turned comma tab (b ∷ s) ≡ b ∷ turned comma tab s
unfolding turned
turned_text b s t = rw (not_comma b t)

turned_comma : (s : List ℕ) → turned comma tab (comma ∷ s) ≡ tab ∷ turned comma tab s
unfolding turned
turned_comma s = refl

open_step : (st : State) (b : ℕ) (u : List ℕ) → Outside st → Bare b → Way Plain u (led_to Plain u) (turned comma tab u)
    → Way AtField u (led_to AtField u) (turned comma tab u) → Way st (b ∷ u) (led_to (next_of st b) u) (turned comma tab (b ∷ u))
open_step st b u o (a_text t) x y =
    rw (text_next o b t, turned_text b u t) (step (text_next o b t) refl refl (text_given st b t) x)
open_step st b u o (a_comma q) x y =
    rw (q, comma_next o, turned_comma u) (step (comma_next o) refl refl (comma_given o) y)

open_way : (st : State) (u : List ℕ) → Outside st → all bare u ≡ true → Way st u (led_to st u) (turned comma tab u)
unfolding led_to turned
open_way st [] o e = stay
open_way st (b ∷ u) o e =
    let rest = and_right (bare b) (all bare u) e in
    open_step st b u o (bare_kind b (and_left (bare b) (all bare u) e)) (open_way Plain u in_plain rest) (open_way AtField u in_field rest)

-- it leads where its last byte leads
open_last : (st : State) (b : ℕ) → Outside st → Bare b → next_of st b ≡ next_of Plain b
open_last st b o (a_text t) = text_next o b t ∙ sym (text_next in_plain b t)
open_last st b o (a_comma q) = rw q (comma_next o ∙ sym (comma_next in_plain))

last_go : (st : State) (b : ℕ) (u : List ℕ) (x : State) → Outside st → Bare b → led_to Plain u ≡ x → led_to AtField u ≡ x → led_to (next_of st b) u ≡ x
last_go st b u x o (a_text t) p q = rw (text_next o b t) p
last_go st b u x o (a_comma e) p q = rw (e, comma_next o) q

led_open : (st : State) (n : ℕ) (u : List ℕ) → Outside st → all bare u ≡ true → length u ≡ suc n → led_to st u ≡ next_of Plain (get_or u n 0)
unfolding led_to
led_open st n [] o e h = absurd (omega arith)
led_open st zero (b ∷ []) o e h = open_last st b o (bare_kind b (and_left (bare b) true e))
led_open st (suc n) (b ∷ []) o e h = absurd (omega arith)
led_open st zero (b ∷ c ∷ u) o e h = absurd (omega arith)
led_open st (suc n) (b ∷ c ∷ u) o e h =
    let rest = and_right (bare b) (all bare (c ∷ u)) e in
    let more : length (c ∷ u) ≡ suc n = omega arith in
    last_go st b (c ∷ u) (next_of Plain (get_or (c ∷ u) n 0)) o (bare_kind b (and_left (bare b) (all bare (c ∷ u)) e))
    (led_open Plain n (c ∷ u) in_plain rest more) (led_open AtField n (c ∷ u) in_field rest more)

-- the state in quotes
pub quotes_so : (st : State) → in_quotes st ≡ true → st ≡ InQuotes
quotes_so AtLine e = absurd (false≢true e)
quotes_so AtField e = absurd (false≢true e)
quotes_so Plain e = absurd (false≢true e)
quotes_so InQuotes e = refl
quotes_so AfterQuote e = absurd (false≢true e)
quotes_so AfterReturn e = absurd (false≢true e)
quotes_so Stopped e = absurd (false≢true e)

-- a stretch in quotes: it gives itself, and leads nowhere else
quoted_next : (b : ℕ) → Bare b → next_of InQuotes b ≡ InQuotes
unfolding next_of
quoted_next b (a_text t) = text_quoted b t
quoted_next b (a_comma q) = rw q

quoted_given : (b : ℕ) → Bare b → given_of InQuotes b ≡ b ∷ []
unfolding given_of
quoted_given b (a_text t) = text_given InQuotes b t
quoted_given b (a_comma q) = rw q

quoted_way : (u : List ℕ) → all bare u ≡ true → Way InQuotes u InQuotes u
quoted_way [] e = stay
quoted_way (b ∷ u) e =
    let k = bare_kind b (and_left (bare b) (all bare u) e) in
    step (quoted_next b k) refl refl (quoted_given b k) (quoted_way u (and_right (bare b) (all bare u) e))

led_quoted : (u : List ℕ) → all bare u ≡ true → led_to InQuotes u ≡ InQuotes
unfolding led_to
led_quoted [] e = refl
led_quoted (b ∷ u) e =
    ap (λ (m : State). led_to m u) (quoted_next b (bare_kind b (and_left (bare b) (all bare u) e))) ∙ led_quoted u (and_right (bare b) (all bare u) e)

-- any stretch
stretch_go : (st : State) (u : List ℕ) (t : Bool) → in_quotes st ≡ t → Stretch st u → Way st u (led_to st u) (cond t u (turned comma tab u))
stretch_go st u true e r =
    let w : Way InQuotes u (led_to InQuotes u) u = rw (led_quoted u r.plainly) (quoted_way u r.plainly) in
    rw (quotes_so st e) w
stretch_go st u false e r = open_way st u (outside_so st r.skim e) r.plainly

stretch_way : {st : State} {u : List ℕ} → Stretch st u → Way st u (led_to st u) (stretch_given st u)
stretch_way {st} {u} r = stretch_go st u (in_quotes st) refl r

-- where it leads
none_go : (st : State) (u : List ℕ) → length u ≡ 0 → st ≡ led_to st u
unfolding led_to
none_go st [] e = refl
none_go st (b ∷ u) e = absurd (omega arith)

module _ {st : State} {u : List ℕ} (r : Stretch st u) where
  pub behind_none : length u ≡ 0 → st ≡ led_to st u
  behind_none h = none_go st u h

  pub behind_quoted : in_quotes st ≡ true → st ≡ led_to st u
  behind_quoted t =
      let e = quotes_so st t in
      e ∙ sym (led_quoted u r.plainly) ∙ ap (λ (m : State). led_to m u) (sym e)

  pub behind_last : (length u ≡ 0 → ⊥) → in_quotes st ≡ false → next_of Plain (get_or u (length u - 1) 0) ≡ led_to st u
  behind_last some out = sym (led_open st (length u - 1) u (outside_so st r.skim out) r.plainly (omega arith))

pub given_quoted : (st : State) (u : List ℕ) → in_quotes st ≡ true → stretch_given st u ≡ u
given_quoted st u e = rw e

pub given_open : (st : State) (u : List ℕ) → (st ≡ InQuotes → ⊥) → stretch_given st u ≡ turned comma tab u
given_open InQuotes u h = absurd (h refl)
given_open st u h = refl

given_go : (u : List ℕ) (t : Bool) → length (cond t u (turned comma tab u)) ≡ length u
given_go u true = refl
given_go u false = turned_length comma tab u

pub given_size : (st : State) (u : List ℕ) → length (stretch_given st u) ≡ length u
given_size st u = given_go u (in_quotes st)

-- the stretch that stands at i
skim_go : (n : ℕ) (t : Bool) → 0 < cond t n 0 → (t ≡ true) × (cond t n 0 ≡ n)
skim_go n true h = (refl, refl)
skim_go n false h = absurd (omega arith)

module _ (s : List ℕ) (i : ℕ) (st : State) (e : ℕ) (is : e ≡ i + skimmed st (drop i s)) (more : i < e) (here : i ≤ length s) where
  abbrev stretch : List ℕ
  stretch = take (e - i) (drop i s)

  skim : (skims st ≡ true) × (skimmed st (drop i s) ≡ bare_run (drop i s))
  skim = skim_go (bare_run (drop i s)) (skims st) (omega arith)

  long : e - i ≡ bare_run (drop i s)
  long = omega (arith, skim.1)

  pub stretch_within : e ≤ length s
  stretch_within = omega (arith, skim.1, bare_le (drop i s), length-drop i s)

  pub is_stretch : Stretch st stretch
  is_stretch = record { skim = skim.0; plainly = ap (λ (k : ℕ). all bare (take k (drop i s))) long ∙ bare_all (drop i s) }

  pub stretch_long : length stretch ≡ e - i
  stretch_long = length-take-le (e - i) (drop i s) (omega (arith, stretch_within, length-drop i s))

  splits : drop i s ≡ stretch ++ drop e s
  splits =
      let at : i + (e - i) ≡ e = omega arith in
      sym (take-append-drop (e - i) (drop i s)) ∙ ap (λ (x : List ℕ). stretch ++ x) (drop-drop (e - i) i s ∙ ap (λ (k : ℕ). drop k s) at)

  pub stretch_stop : (n : ℕ) → stop_at st n (drop i s) ≡ stop_at (led_to st stretch) n (drop e s)
  stretch_stop n = ap (stop_at st n) splits ∙ way_stop n (drop e s) (stretch_way is_stretch)

  pub stretch_lines : lines_from st (drop i s) ≡ lines_from (led_to st stretch) (drop e s)
  stretch_lines = ap (lines_from st) splits ∙ way_lines (drop e s) (stretch_way is_stretch)

  pub stretch_sheet : sheet_from st (drop i s) ≡ stretch_given st stretch ++ sheet_from (led_to st stretch) (drop e s)
  stretch_sheet = ap (sheet_from st) splits ∙ way_sheet (drop e s) (stretch_way is_stretch)

  pub stretch_size : length (sheet_from st (drop i s)) ≡ e - i + length (sheet_from (led_to st stretch) (drop e s))
  stretch_size = omega (arith, ap length stretch_sheet, length-append (stretch_given st stretch) (sheet_from (led_to st stretch) (drop e s)), given_size st stretch, stretch_long)
