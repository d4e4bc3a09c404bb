-- A line that is refused has a fault that is named, and it is the one that the name says. Assumes nothing.
use Prim.Native.Nat.{ℕ, suc, ◌+◌, ◌≤◌, ◌<◌}
use mathlib.Core.Path.{◌≡◌, refl, sym, ap, ◌∙◌}
use mathlib.Core.Bool.{Bool, true, false, cond, ◌||◌, true≢false}
use mathlib.Core.List.{List, [], ◌∷◌, ◌++◌}
use native.Mathlib.Decide.{dec_lt}
use native.Mathlib.Omega.{arith}
use lib.Dec.{eqb, leb}
use lib.ListN.{length, drop}
use borrow.Author.Tests.{eqb-true, eqb-false, leb-true, le-leb, lt-leb}
use Rattle.std.specs.Prelude.{Some, None}
use Rattle.text.specs.Characters.{from_to}
use Rattle.number.proofs.Digits.{and_left, and_right}
use Rattle.sheet.specs.Sheets.{tab}
use Rattle.rfc4180.specs.Rfc.{comma, quote, return, feed, textdata, Stops, Starts}
use Rattle.rfc4180.specs.Rfc as rfc
use Rattle.rfc4180.specs.declared.State.{State}
use Rattle.rfc4180.specs.declared.State.TheVariants.{AtLine, AtField, Plain, InQuotes, AfterQuote, AfterReturn, Stopped}
use Rattle.rfc4180.specs.Walk.{in_quotes, stopped, next_of, ended_of, may_end, stop_at}
use Rattle.rfc4180.proofs.Ways.{first, later, text_plain, text_quoted, text_opens, line_way, over_stop}
use Rattle.rfc4180.proofs.Skimming.{quotes_so}
use Rattle.rfc4180.proofs.Reading.{stops_walk, stops_some}
use Rattle.commas.specs.Stopping.{after_return, fault_at, is_break, fault_of, stop_by, stop_end, mark_of, stop_from, stop_in}
use Rattle.commas.specs.declared.stop.Fault.{Fault}
use Rattle.commas.specs.declared.stop.Fault.TheVariants.{Tab, Feed, Return, Foreign, Inside, Behind, Open}

-- what a name says of byte b, which stops the walk in state st
abbrev pub Meant : State → ℕ → Fault → Type 0
Meant st b Tab = b ≡ tab
Meant st b Feed = (b ≡ feed) × (st ≡ AfterReturn → ⊥)
Meant st b Return = (st ≡ AfterReturn) × (b ≡ feed → ⊥)
Meant st b Foreign = from_to 32 126 b ≡ false
Meant st b Inside = (b ≡ quote) × (st ≡ Plain)
Meant st b Behind = (textdata b ≡ true) × (st ≡ AfterQuote)
Meant st b Open = (is_break b ≡ true) × (st ≡ InQuotes)

-- bytes 32 to 126 are the data, the quotation mark and the comma
module _ (b : ℕ) (e : from_to 32 126 b ≡ true) (f : b ≡ quote → ⊥) (g : b ≡ comma → ⊥) where
  data_by : Dec (b < 34) → Dec (b < 44) → textdata b ≡ true
  unfolding textdata
  data_by (yes h) k = rw (le-leb 32 b (leb-true 32 b (and_left (leb 32 b) (leb b 126) e)), le-leb b 33 (omega arith))
  data_by (no h) (yes k) =
      let m : 35 ≤ b = omega (arith, f) in
      rw (le-leb 32 b (omega arith), lt-leb b 33 (omega arith), le-leb 35 b m, le-leb b 43 (omega arith))
  data_by (no h) (no k) =
      let m : 45 ≤ b = omega (arith, g) in
      let n : b ≤ 126 = leb-true b 126 (and_right (leb 32 b) (leb b 126) e) in
      rw (le-leb 32 b (omega arith), lt-leb b 33 (omega arith), le-leb 35 b (omega arith), lt-leb b 43 (omega arith), le-leb 45 b m, le-leb b 126 n)

  data_in : textdata b ≡ true
  data_in = data_by (dec_lt b 34) (dec_lt b 44)

-- in which states a CR, a quotation mark, a comma and another byte of the text stop the walk
moves : {m : State} → stopped m ≡ false → m ≡ Stopped → ⊥
moves e q = true≢false (sym (ap stopped q) ∙ e)

return_stops : (st : State) → next_of st return ≡ Stopped → stopped st ≡ false → in_quotes st ≡ false → after_return st ≡ false → ⊥
unfolding next_of textdata
return_stops AtLine s l q r = moves refl s
return_stops AtField s l q r = moves refl s
return_stops Plain s l q r = moves refl s
return_stops InQuotes s l q r = true≢false q
return_stops AfterQuote s l q r = moves refl s
return_stops AfterReturn s l q r = true≢false r
return_stops Stopped s l q r = true≢false l

comma_stops : (st : State) → next_of st comma ≡ Stopped → stopped st ≡ false → after_return st ≡ false → ⊥
unfolding next_of textdata
comma_stops AtLine s l r = moves refl s
comma_stops AtField s l r = moves refl s
comma_stops Plain s l r = moves refl s
comma_stops InQuotes s l r = moves refl s
comma_stops AfterQuote s l r = moves refl s
comma_stops AfterReturn s l r = true≢false r
comma_stops Stopped s l r = true≢false l

quote_stops : (st : State) → next_of st quote ≡ Stopped → stopped st ≡ false → after_return st ≡ false → st ≡ Plain
unfolding next_of textdata
quote_stops AtLine s l r = absurd (moves refl s)
quote_stops AtField s l r = absurd (moves refl s)
quote_stops Plain s l r = refl
quote_stops InQuotes s l r = absurd (moves refl s)
quote_stops AfterQuote s l r = absurd (moves refl s)
quote_stops AfterReturn s l r = absurd (true≢false r)
quote_stops Stopped s l r = absurd (true≢false l)

data_stops : (st : State) (b : ℕ) → textdata b ≡ true → next_of st b ≡ Stopped → stopped st ≡ false → after_return st ≡ false → st ≡ AfterQuote
data_stops AtLine b t s l r = absurd (moves refl (sym (text_opens b first t) ∙ s))
data_stops AtField b t s l r = absurd (moves refl (sym (text_opens b later t) ∙ s))
data_stops Plain b t s l r = absurd (moves refl (sym (text_plain b t) ∙ s))
data_stops InQuotes b t s l r = absurd (moves refl (sym (text_quoted b t) ∙ s))
data_stops AfterQuote b t s l r = refl
data_stops AfterReturn b t s l r = absurd (true≢false r)
data_stops Stopped b t s l r = absurd (true≢false l)

-- the state after a CR
return_so : (st : State) → after_return st ≡ true → st ≡ AfterReturn
return_so AtLine e = absurd (true≢false (sym e))
return_so AtField e = absurd (true≢false (sym e))
return_so Plain e = absurd (true≢false (sym e))
return_so InQuotes e = absurd (true≢false (sym e))
return_so AfterQuote e = absurd (true≢false (sym e))
return_so AfterReturn e = refl
return_so Stopped e = absurd (true≢false (sym e))

module _ (st : State) (b : ℕ) (stops : next_of st b ≡ Stopped) (live : stopped st ≡ false) where
  no_return : in_quotes st ≡ false → after_return st ≡ false → b ≡ return → ⊥
  no_return q r e = return_stops st (sym (ap (next_of st) e) ∙ stops) live q r

  no_comma : after_return st ≡ false → b ≡ comma → ⊥
  no_comma r e = comma_stops st (sym (ap (next_of st) e) ∙ stops) live r

  a_quote : after_return st ≡ false → b ≡ quote → st ≡ Plain
  a_quote r e = quote_stops st (sym (ap (next_of st) e) ∙ stops) live r

  a_data : after_return st ≡ false → textdata b ≡ true → st ≡ AfterQuote
  a_data r t = data_stops st b t stops live r

  no_feed : st ≡ AfterReturn → b ≡ feed → ⊥
  unfolding next_of
  no_feed r e = moves {m = AtLine} refl (sym (λ i. next_of (r i) (e i)) ∙ stops)

  -- a byte that breaks a line
  a_feed : (t : Bool) → eqb b return ≡ t → (t || eqb b feed) ≡ true → in_quotes st ≡ false → after_return st ≡ false → b ≡ feed
  a_feed true e f q r = absurd (no_return q r (eqb-true b return e))
  a_feed false e f q r = eqb-true b feed f

  -- another
  other_go : (t m d : Bool) → eqb b tab ≡ t → eqb b quote ≡ m → from_to 32 126 b ≡ d → after_return st ≡ false
      → Meant st b (cond t Tab (cond m Inside (cond d Behind Foreign)))
  other_go true m d e f g r = eqb-true b tab e
  other_go false true d e f g r = (eqb-true b quote f, a_quote r (eqb-true b quote f))
  other_go false false true e f g r =
      let t = data_in b g (eqb-false b quote f) (no_comma r) in
      (t, a_data r t)
  other_go false false false e f g r = g

  module _ (i mark : ℕ) where
    fault_go : (r k q : Bool) → after_return st ≡ r → is_break b ≡ k → in_quotes st ≡ q
        → Meant st b (cond r (fault_at Return mark) (cond k (cond q (fault_at Open mark) (fault_at Feed i)) (fault_at (fault_of b) i))).fault
    unfolding is_break fault_of
    fault_go true k q e f g = let r = return_so st e in (r, no_feed r)
    fault_go false true true e f g = (f, quotes_so st g)
    fault_go false true false e f g = (a_feed (eqb b return) refl f g e, λ q. true≢false (sym (ap after_return q) ∙ e))
    fault_go false false q e f g = other_go (eqb b tab) (eqb b quote) (from_to 32 126 b) refl refl refl e

    -- the byte that stops a line is what it is called
    pub meant : Meant st b (stop_by st b i mark).fault
    unfolding stop_by
    meant = fault_go (after_return st) (is_break b) (in_quotes st) refl refl refl

-- where the walk stops, a fault is named
end_named : (st : State) (n mark : ℕ) → (cond (may_end st) 0 (n + 1) ≡ 0 → ⊥) → stop_end st mark ≡ None → ⊥
unfolding stop_end
end_named AtLine n mark h e = h refl
end_named AtField n mark h e = h refl
end_named Plain n mark h e = h refl
end_named InQuotes n mark h e = cc
end_named AfterQuote n mark h e = h refl
end_named AfterReturn n mark h e = cc
end_named Stopped n mark h e = h refl

named_go : (st : State) (b n i mark : ℕ) (s : List ℕ) (t : Bool)
    → ((stop_at (next_of st b) (n + ended_of (next_of st b)) s ≡ 0 → ⊥) → stop_from (next_of st b) (i + 1) (mark_of st (next_of st b) i mark) s ≡ None → ⊥)
    → (cond t (n + 1) (stop_at (next_of st b) (n + ended_of (next_of st b)) s) ≡ 0 → ⊥)
    → cond t (Some (stop_by st b i mark)) (stop_from (next_of st b) (i + 1) (mark_of st (next_of st b) i mark) s) ≡ None → ⊥
named_go st b n i mark s true f h e = cc
named_go st b n i mark s false f h e = f h e

named : (st : State) (n i mark : ℕ) (s : List ℕ) → (stop_at st n s ≡ 0 → ⊥) → stop_from st i mark s ≡ None → ⊥
unfolding stop_at stop_from
named st n i mark [] h e = end_named st n mark h e
named st n i mark (b ∷ s) h e =
    named_go st b n i mark s (stopped (next_of st b))
    (named (next_of st b) (n + ended_of (next_of st b)) (i + 1) (mark_of st (next_of st b) i mark) s) h e

-- the walk from the start of a line on stops where that of the whole text does
drop_line : (s t : List ℕ) (p : ℕ) → drop (length s + 2 + p) (s ++ return ∷ feed ∷ t) ≡ drop p t
drop_line [] t p = let e : 0 + 2 + p ≡ suc (suc p) = omega arith in rw e
drop_line (b ∷ s) t p = let e : suc (length s) + 2 + p ≡ suc (length s + 2 + p) = omega arith in rw e (drop_line s t p)

from_line : {s : List ℕ} {n p : ℕ} → Starts s n p → (k : ℕ) → (stop_at AtLine k s ≡ 0 → ⊥) → (m : ℕ) × (stop_at AtLine m (drop p s) ≡ 0 → ⊥)
from_line rfc.Starts.first k h = (k, h)
from_line (rfc.Starts.later {s} {t} {row} {n} {p} l x) k h =
    let rest = from_line x (k + 1) (λ e. h (over_stop k t (line_way first l) ∙ e)) in
    rw (drop_line s t p) rest

-- a line that is no line of the grammar has a fault that is named
pub always_named : {text : List ℕ} {n p : ℕ} → Stops text n → Starts text n p → stop_in text p ≡ None → ⊥
unfolding stop_in
always_named {text} {n} {p} x y e =
    let m = from_line y 0 (λ z. omega (arith, stops_walk x 0, stops_some x)) in
    named AtLine m.0 p p (drop p text) m.1 e
