-- What the grammar has, the walk goes through, and gives its fields. Assumes nothing.
use Prim.Native.Nat.{ℕ, ◌+◌, ◌<◌}
use mathlib.Core.Path.{◌≡◌, refl, sym, ap, ◌∙◌}
use mathlib.Core.Bool.{true, false, true≢false}
use mathlib.Core.List.{List, [], ◌∷◌, ◌++◌, append_assoc, append-nil}
use native.Mathlib.Nat.{add-zero}
use native.Mathlib.Omega.{arith}
use lib.Dec.{eqb}
use lib.ListN.{length}
use borrow.Author.Tests.{ne_eqb}
use Rattle.text.specs.Characters.{all}
use Rattle.number.proofs.Digits.{and_left, and_right}
use Rattle.record.specs.Records.{joined}
use Rattle.sheet.specs.Sheets.{tab, parted}
use Rattle.rfc4180.specs.Rfc.{comma, quote, return, feed, textdata, Inside, Field, Line, Text, lines_of}
use Rattle.rfc4180.specs.Rfc as rfc
use Rattle.rfc4180.specs.Walk.{at_line, stopped, next_of, given_of, may_end, stop_at, sheet_from, lines_from}
use Rattle.rfc4180.specs.declared.State.{State}
use Rattle.rfc4180.specs.declared.State.TheVariants.{AtLine, AtField, Plain, InQuotes, AfterQuote, AfterReturn, Stopped}

-- a byte of the data is none of the others
pub text_other : (b x : ℕ) → textdata b ≡ true → textdata x ≡ false → eqb b x ≡ false
text_other b x e f = ne_eqb b x (λ q. true≢false (sym e ∙ ap textdata q ∙ f))

module _ (b : ℕ) (t : textdata b ≡ true) where
  pub not_quote : eqb b quote ≡ false
  unfolding textdata
  not_quote = text_other b quote t refl

  pub not_comma : eqb b comma ≡ false
  unfolding textdata
  not_comma = text_other b comma t refl

  pub not_return : eqb b return ≡ false
  unfolding textdata
  not_return = text_other b return t refl

  pub not_feed : eqb b feed ≡ false
  unfolding textdata
  not_feed = text_other b feed t refl

-- a state that is not the start of a line
pub not_at_line : (st : State) → (st ≡ AtLine → ⊥) → at_line st ≡ false
not_at_line AtLine h = absurd (h refl)
not_at_line AtField h = refl
not_at_line Plain h = refl
not_at_line InQuotes h = refl
not_at_line AfterQuote h = refl
not_at_line AfterReturn h = refl
not_at_line Stopped h = refl

-- the walk over some bytes without a stop and without the end of a line: where it leads, and what it gives
pub data Way : State → List ℕ → State → List ℕ → Type 0 where
  stay : {st : State} → Way st [] st []
  step : {st m e : State} {b : ℕ} {s g v : List ℕ} → next_of st b ≡ m → stopped m ≡ false → at_line m ≡ false → given_of st b ≡ g
      → Way m s e v → Way st (b ∷ s) e (g ++ v)

pub then : {st m e : State} {s t v w : List ℕ} → Way st s m v → Way m t e w → Way st (s ++ t) e (v ++ w)
then stay y = y
then {w = w} (step {e = m} {g = g} {v = v} n p q f x) y =
    let z = step n p q f (then x y) in
    rw (append_assoc g v w) z

-- a way leads to the start of a line only from there
pub at_end_lem : {st e : State} {s v : List ℕ} → Way st s e v → (st ≡ AtLine → ⊥) → e ≡ AtLine → ⊥
at_end_lem stay h q = h q
at_end_lem (step {m = m} n p k f x) h q = at_end_lem x (λ r. true≢false (sym (ap at_line r) ∙ k)) q

-- what follows a way
module _ (n : ℕ) (t : List ℕ) where
  pub way_stop : {st e : State} {s v : List ℕ} → Way st s e v → stop_at st n (s ++ t) ≡ stop_at e n t
  unfolding stop_at
  way_stop stay = refl
  way_stop (step {m = m} m-is p q f x) = rw (m-is, p, q, add-zero n) (way_stop x)

pub way_sheet : {st e : State} {s v : List ℕ} (t : List ℕ) → Way st s e v → sheet_from st (s ++ t) ≡ v ++ sheet_from e t
unfolding sheet_from
way_sheet t stay = refl
way_sheet {e = e} t (step {g = g} {v = v} m-is p q f x) =
    rw (m-is, f, append_assoc g v (sheet_from e t)) (ap (λ (y : List ℕ). g ++ y) (way_sheet t x))

pub way_lines : {st e : State} {s v : List ℕ} (t : List ℕ) → Way st s e v → lines_from st (s ++ t) ≡ lines_from e t
unfolding lines_from
way_lines t stay = refl
way_lines {e = e} t (step m-is p q f x) = rw (m-is, q) (omega (arith, way_lines t x))

-- a byte of the data gives itself
pub text_given : (st : State) (b : ℕ) → textdata b ≡ true → given_of st b ≡ b ∷ []
unfolding given_of
text_given st b t = rw (not_return b t, not_quote b t, not_comma b t)

pub text_plain : (b : ℕ) → textdata b ≡ true → next_of Plain b ≡ Plain
unfolding next_of
text_plain b t = rw t

pub text_quoted : (b : ℕ) → textdata b ≡ true → next_of InQuotes b ≡ InQuotes
unfolding next_of
text_quoted b t = rw (not_quote b t, not_comma b t, t)

-- a field starts at the start of a line or after a comma
pub data Opens : State → Type 0 where
  first : Opens AtLine
  later : Opens AtField

pub text_opens : {st : State} (b : ℕ) → Opens st → textdata b ≡ true → next_of st b ≡ Plain
unfolding next_of
text_opens b first t = rw (not_quote b t, t)
text_opens b later t = rw (not_quote b t, t)

pub quote_opens : {st : State} → Opens st → next_of st quote ≡ InQuotes
unfolding next_of
quote_opens first = refl
quote_opens later = refl

quote_given : {st : State} → Opens st → given_of st quote ≡ []
unfolding given_of
quote_given first = refl
quote_given later = refl

inside_way : {s v : List ℕ} → Inside s v → Way InQuotes s InQuotes v
unfolding next_of given_of textdata
inside_way rfc.Inside.none = stay
inside_way (rfc.Inside.one {b} t i) = step (text_quoted b t) refl refl (text_given InQuotes b t) (inside_way i)
inside_way (rfc.Inside.parting i) = step refl refl refl refl (inside_way i)
inside_way (rfc.Inside.two i) = step refl refl refl refl (step refl refl refl refl (inside_way i))

plain_way : (s : List ℕ) → all textdata s ≡ true → Way Plain s Plain s
plain_way [] e = stay
plain_way (b ∷ s) e =
    let t = and_left (textdata b) (all textdata s) e in
    step (text_plain b t) refl refl (text_given Plain b t) (plain_way s (and_right (textdata b) (all textdata s) e))

-- where a field has ended: a comma leads to the next field, a CR to the line's end, and the text may end
pub record Closed (e : State) : Type 0 where
  pub parts : next_of e comma ≡ AtField
  pub tabs : given_of e comma ≡ tab ∷ []
  pub returns : next_of e return ≡ AfterReturn
  pub silent : given_of e return ≡ []
  pub ends : may_end e ≡ true

pub closed_plain : Closed Plain
unfolding next_of given_of textdata
closed_plain = record { parts = refl; tabs = refl; returns = refl; silent = refl; ends = refl }

pub closed_quote : Closed AfterQuote
unfolding next_of given_of textdata
closed_quote = record { parts = refl; tabs = refl; returns = refl; silent = refl; ends = refl }

pub closed_open : {st : State} → Opens st → Closed st
unfolding next_of given_of textdata
closed_open first = record { parts = refl; tabs = refl; returns = refl; silent = refl; ends = refl }
closed_open later = record { parts = refl; tabs = refl; returns = refl; silent = refl; ends = refl }

-- the way over a field or a line: it ends where a field has ended, and at the start of a line only where there is nothing
pub record Over (st : State) (s v : List ℕ) : Type 0 where
  pub end : State
  pub way : Way st s end v
  pub closed : Closed end
  pub onward : end ≡ AtLine → length s ≡ 0

plain_over : {st : State} (s : List ℕ) → Opens st → all textdata s ≡ true → Over st s s
plain_over {st} [] o e = record { end = st; way = stay; closed = closed_open o; onward = λ q. refl }
plain_over {st} (b ∷ s) o e =
    let t = and_left (textdata b) (all textdata s) e in
    record {
      end = Plain;
      way = step (text_opens b o t) refl refl (text_given st b t) (plain_way s (and_right (textdata b) (all textdata s) e));
      closed = closed_plain;
      onward = λ q. absurd cc;
    }

closing_quote : Way InQuotes (quote ∷ []) AfterQuote []
unfolding next_of given_of
closing_quote = step refl refl refl refl stay

field_way : {st : State} {s v : List ℕ} → Opens st → Field s v → Over st s v
field_way o (rfc.Field.non_escaped {s} e) = plain_over s o e
field_way {st} o (rfc.Field.escaped {s} {v} i) =
    let w = step (quote_opens o) refl refl (quote_given o) (then (inside_way i) closing_quote) in
    record {
      end = AfterQuote;
      way = rw (append-nil v) at w;
      closed = closed_quote;
      onward = λ q. absurd cc;
    }

-- a line has a field
pub row_some : {s : List ℕ} {row : List (List ℕ)} → Line s row → 0 < length row
row_some (rfc.Line.last f) = omega arith
row_some (rfc.Line.more f l) = omega arith

pub parted_more : (v : List ℕ) (row : List (List ℕ)) → 0 < length row → parted tab (v ∷ row) ≡ v ++ tab ∷ parted tab row
unfolding parted
parted_more v [] h = absurd (omega arith)
parted_more v (x ∷ row) h = refl

pub line_way : {st : State} {s : List ℕ} {row : List (List ℕ)} → Opens st → Line s row → Over st s (parted tab row)
unfolding parted
line_way o (rfc.Line.last f) = field_way o f
line_way {st} o (rfc.Line.more {s} {v} {t} {vs} f l) =
    let a = field_way o f in
    let b = line_way later l in
    let w = then a.way (step a.closed.parts refl refl a.closed.tabs b.way) in
    record {
      end = b.end;
      way = rw (parted_more v vs (row_some l)) w;
      closed = b.closed;
      onward = λ q. absurd (at_end_lem b.way (λ r. cc) q);
    }

-- a line before its CR LF
pub over_stop : {s v : List ℕ} (n : ℕ) (t : List ℕ) → Over AtLine s v → stop_at AtLine n (s ++ return ∷ feed ∷ t) ≡ stop_at AtLine (n + 1) t
unfolding stop_at next_of
over_stop n t o = way_stop n (return ∷ feed ∷ t) o.way ∙ rw (o.closed.returns, add-zero n)

pub over_sheet : {s v : List ℕ} (t : List ℕ) → Over AtLine s v → sheet_from AtLine (s ++ return ∷ feed ∷ t) ≡ v ++ feed ∷ sheet_from AtLine t
unfolding sheet_from next_of given_of
over_sheet t o = way_sheet (return ∷ feed ∷ t) o.way ∙ rw o.closed.returns

pub over_lines : {s v : List ℕ} (t : List ℕ) → Over AtLine s v → lines_from AtLine (s ++ return ∷ feed ∷ t) ≡ 1 + lines_from AtLine t
unfolding lines_from next_of
over_lines t o = way_lines (return ∷ feed ∷ t) o.way ∙ rw o.closed.returns (omega arith)

-- a last line without one
module _ {s v : List ℕ} (o : Over AtLine s v) (some : 0 < length s) where
  open_end : at_line o.end ≡ false
  open_end = not_at_line o.end (λ q. omega (arith, o.onward q))

  pub last_stop : (n : ℕ) → stop_at AtLine n s ≡ 0
  unfolding stop_at
  last_stop n = ap (stop_at AtLine n) (sym (append-nil s)) ∙ way_stop n [] o.way ∙ rw o.closed.ends

  pub last_sheet : sheet_from AtLine s ≡ v ++ feed ∷ []
  unfolding sheet_from
  last_sheet = ap (sheet_from AtLine) (sym (append-nil s)) ∙ way_sheet [] o.way ∙ rw open_end

  pub last_lines : lines_from AtLine s ≡ 1
  unfolding lines_from
  last_lines = ap (lines_from AtLine) (sym (append-nil s)) ∙ way_lines [] o.way ∙ rw open_end

-- a text of the grammar: the walk goes through, and gives the sheet of its lines
pub text_stop : {s : List ℕ} {rows : List (List (List ℕ))} (n : ℕ) → Text s rows → stop_at AtLine n s ≡ 0
unfolding stop_at
text_stop n rfc.Text.none = refl
text_stop n (rfc.Text.last h l) = last_stop (line_way first l) h n
text_stop n (rfc.Text.more {s} {t} l x) = over_stop n t (line_way first l) ∙ text_stop (n + 1) x

pub text_sheet : {s : List ℕ} {rows : List (List (List ℕ))} → Text s rows → sheet_from AtLine s ≡ joined (lines_of rows)
unfolding sheet_from joined
text_sheet rfc.Text.none = refl
text_sheet (rfc.Text.last h l) = last_sheet (line_way first l) h
text_sheet (rfc.Text.more {s} {t} {row} l x) = over_sheet t (line_way first l) ∙ ap (λ (y : List ℕ). parted tab row ++ feed ∷ y) (text_sheet x)

pub text_lines : {s : List ℕ} {rows : List (List (List ℕ))} → Text s rows → lines_from AtLine s ≡ length rows
unfolding lines_from
text_lines rfc.Text.none = refl
text_lines (rfc.Text.last h l) = last_lines (line_way first l) h
text_lines (rfc.Text.more {s} {t} l x) = over_lines t (line_way first l) ∙ omega (arith, text_lines x)
