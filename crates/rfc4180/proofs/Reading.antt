-- The walk and the grammar say the same: where the walk goes through there is a reading, where it stops there is none, and a text has one
-- reading. Assumes nothing.
use Prim.Native.Nat.{ℕ, zero, suc, ◌+◌, ◌≤◌, ◌<◌}
use mathlib.Core.Path.{◌≡◌, refl, sym, ap, ◌∙◌}
use mathlib.Core.Bool.{Bool, true, false, cond}
use mathlib.Core.List.{List, [], ◌∷◌, ◌++◌, append_assoc, append-nil}
use mathlib.Core.Logic.{◌↔◌}
use native.Mathlib.Nat.{add-zero}
use native.Mathlib.Omega.{arith}
use lib.Dec.{eqb}
use lib.ListN.{length, length-append}
use borrow.Author.Tests.{eqb-true}
use Rattle.text.specs.Characters.{all}
use Rattle.rfc4180.specs.Rfc.{comma, quote, return, feed, textdata, Inside, Field, Line, Text, Stops}
use Rattle.rfc4180.specs.Rfc as rfc
use Rattle.rfc4180.specs.Walk.{at_line, stopped, next_of, ended_of, may_end, stop_at}
use Rattle.rfc4180.specs.declared.State.{State}
use Rattle.rfc4180.specs.declared.State.TheVariants.{AtLine, AtField, Plain, InQuotes, AfterQuote, AfterReturn, Stopped}
use Rattle.rfc4180.proofs.Ways.{Opens, first, later, not_quote, not_comma, not_return, text_plain, text_quoted, text_opens, quote_opens, closed_open, line_way, over_stop, last_stop, text_stop}

pub data Either (A B : Type 0) : Type 0 where
  left : A → Either A B
  right : B → Either A B

-- what a byte is to the grammar
data Kind (b : ℕ) : Type 0 where
  a_quote : b ≡ quote → Kind b
  a_text : textdata b ≡ true → Kind b
  a_comma : b ≡ comma → Kind b
  a_return : b ≡ return → Kind b
  no_kind : eqb b quote ≡ false → textdata b ≡ false → eqb b comma ≡ false → eqb b return ≡ false → Kind b

kind_go : (b : ℕ) (q t c r : Bool) → eqb b quote ≡ q → textdata b ≡ t → eqb b comma ≡ c → eqb b return ≡ r → Kind b
kind_go b true t c r e f g h = a_quote (eqb-true b quote e)
kind_go b false true c r e f g h = a_text f
kind_go b false false true r e f g h = a_comma (eqb-true b comma g)
kind_go b false false false true e f g h = a_return (eqb-true b return h)
kind_go b false false false false e f g h = no_kind e f g h

kind : (b : ℕ) → Kind b
kind b = kind_go b (eqb b quote) (textdata b) (eqb b comma) (eqb b return) refl refl refl refl

-- the walk stops in the line where it stands
abbrev pub StopsHere : State → List ℕ → Type 0
StopsHere st s = (n : ℕ) → stop_at st n s ≡ n + 1

-- after a line; after a field; and the rest of a line from each state
pub data Ends : List ℕ → Type 0 where
  end : Ends []
  next : (t : List ℕ) → Ends (return ∷ feed ∷ t)

pub record Begun (s : List ℕ) : Type 0 where
  pub line : List ℕ
  pub row : List (List ℕ)
  pub rest : List ℕ
  pub is : line ++ rest ≡ s
  pub reads : Line line row
  pub ends : Ends rest

data FieldEnds : List ℕ → Type 0 where
  line_ends : {s : List ℕ} → Ends s → FieldEnds s
  parts : {t : List ℕ} → Begun t → FieldEnds (comma ∷ t)

record PlainRest (s : List ℕ) : Type 0 where
  front : List ℕ
  rest : List ℕ
  is : front ++ rest ≡ s
  data_only : all textdata front ≡ true
  ends : FieldEnds rest

record QuotedRest (s : List ℕ) : Type 0 where
  front : List ℕ
  value : List ℕ
  rest : List ℕ
  is : front ++ quote ∷ rest ≡ s
  reads : Inside front value
  ends : FieldEnds rest

data BehindRest : List ℕ → Type 0 where
  closed : {s : List ℕ} → FieldEnds s → BehindRest s
  doubled : {t : List ℕ} → QuotedRest t → BehindRest (quote ∷ t)

data Fed : List ℕ → Type 0 where
  fed : (t : List ℕ) → Fed (feed ∷ t)

begun_as : {s t : List ℕ} → Begun s → s ≡ t → Begun t
begun_as b e = record { line = b.line; row = b.row; rest = b.rest; is = b.is ∙ e; reads = b.reads; ends = b.ends }

-- a field and what follows it
closing : {u v : List ℕ} (r : List ℕ) → Field u v → FieldEnds r → Begun (u ++ r)
closing {u} {v} r f (line_ends e) = record { line = u; row = v ∷ []; rest = r; is = refl; reads = rfc.Line.last f; ends = e }
closing {u} {v} r f (parts {t} b) =
    record {
      line = u ++ comma ∷ b.line;
      row = v ∷ b.row;
      rest = b.rest;
      is = append_assoc u (comma ∷ b.line) b.rest ∙ ap (λ (x : List ℕ). u ++ comma ∷ x) b.is;
      reads = rfc.Line.more f b.reads;
      ends = b.ends;
    }

-- one byte of the walk
stop_now : (st : State) (b : ℕ) (s : List ℕ) → next_of st b ≡ Stopped → StopsHere st (b ∷ s)
unfolding stop_at
stop_now st b s e n = rw e

stop_on : (st : State) (b : ℕ) (m : State) (s : List ℕ) → next_of st b ≡ m → stopped m ≡ false → at_line m ≡ false → StopsHere m s → StopsHere st (b ∷ s)
unfolding stop_at
stop_on st b m s e p q h n = rw (e, p, q, add-zero n) (h n)

-- the walk of one line from each state: it stops in that line, or the line is read
record OneLine (s : List ℕ) : Type 0 where
  at_field : {st : State} → Opens st → Either (StopsHere st s) (Begun s)
  at_plain : Either (StopsHere Plain s) (PlainRest s)
  at_quoted : Either (StopsHere InQuotes s) (QuotedRest s)
  at_behind : Either (StopsHere AfterQuote s) (BehindRest s)
  at_return : Either (StopsHere AfterReturn s) (Fed s)

-- after one byte, what is said of the others
via : {A B : Type 0} (st : State) (b : ℕ) (m : State) (s : List ℕ) → next_of st b ≡ m → stopped m ≡ false → at_line m ≡ false → Either (StopsHere m s) A → (A → B)
    → Either (StopsHere st (b ∷ s)) B
via st b m s e p q (left h) f = left (stop_on st b m s e p q h)
via st b m s e p q (right x) f = right (f x)

fed_ends : {t : List ℕ} → Fed t → FieldEnds (return ∷ t)
fed_ends (fed t) = line_ends (next t)

unopened : {s : List ℕ} → FieldEnds s → PlainRest s
unopened {s} e = record { front = []; rest = s; is = refl; data_only = refl; ends = e }

plain_more : {b : ℕ} {s : List ℕ} → textdata b ≡ true → PlainRest s → PlainRest (b ∷ s)
plain_more {b} t r =
    record { front = b ∷ r.front; rest = r.rest; is = ap (λ (x : List ℕ). b ∷ x) r.is; data_only = rw t r.data_only; ends = r.ends }

plain_begun : {s : List ℕ} → PlainRest s → Begun s
plain_begun r = begun_as (closing {u = r.front} {v = r.front} r.rest (rfc.Field.non_escaped r.data_only) r.ends) r.is

quoted_begun : {s : List ℕ} → QuotedRest s → Begun (quote ∷ s)
quoted_begun r =
    begun_as (closing r.rest (rfc.Field.escaped r.reads) r.ends)
    (ap (λ (x : List ℕ). quote ∷ x) (append_assoc r.front (quote ∷ []) r.rest ∙ r.is))

quoted_one : {b : ℕ} {s : List ℕ} → textdata b ≡ true → QuotedRest s → QuotedRest (b ∷ s)
quoted_one {b} t r =
    record { front = b ∷ r.front; value = b ∷ r.value; rest = r.rest; is = ap (λ (x : List ℕ). b ∷ x) r.is; reads = rfc.Inside.one t r.reads; ends = r.ends }

quoted_comma : {s : List ℕ} → QuotedRest s → QuotedRest (comma ∷ s)
quoted_comma r =
    record {
      front = comma ∷ r.front;
      value = comma ∷ r.value;
      rest = r.rest;
      is = ap (λ (x : List ℕ). comma ∷ x) r.is;
      reads = rfc.Inside.parting r.reads;
      ends = r.ends;
    }

behind_quoted : {s : List ℕ} → BehindRest s → QuotedRest (quote ∷ s)
behind_quoted {s} (closed e) = record { front = []; value = []; rest = s; is = refl; reads = rfc.Inside.none; ends = e }
behind_quoted (doubled r) =
    record {
      front = quote ∷ quote ∷ r.front;
      value = quote ∷ r.value;
      rest = r.rest;
      is = ap (λ (x : List ℕ). quote ∷ quote ∷ x) r.is;
      reads = rfc.Inside.two r.reads;
      ends = r.ends;
    }

-- from the start of a field, by what the byte is
field_step : {st : State} (b : ℕ) (s : List ℕ) → OneLine s → Opens st → Kind b → Either (StopsHere st (b ∷ s)) (Begun (b ∷ s))
unfolding next_of
field_step {st} b s ih o (a_quote q) =
    via st b InQuotes s (ap (next_of st) q ∙ quote_opens o) refl refl ih.at_quoted (λ x. begun_as (quoted_begun x) (ap (λ (y : ℕ). y ∷ s) (sym q)))
field_step {st} b s ih o (a_text t) = via st b Plain s (text_opens b o t) refl refl ih.at_plain (λ x. plain_begun (plain_more t x))
field_step {st} b s ih o (a_comma q) =
    via st b AtField s (ap (next_of st) q ∙ (closed_open o).parts) refl refl (ih.at_field later)
    (λ x. begun_as (plain_begun (unopened (parts x))) (ap (λ (y : ℕ). y ∷ s) (sym q)))
field_step {st} b s ih o (a_return q) =
    via st b AfterReturn s (ap (next_of st) q ∙ (closed_open o).returns) refl refl ih.at_return
    (λ x. begun_as (plain_begun (unopened (fed_ends x))) (ap (λ (y : ℕ). y ∷ s) (sym q)))
field_step b s ih first (no_kind e f g h) = left (stop_now AtLine b s (rw (e, f, g, h)))
field_step b s ih later (no_kind e f g h) = left (stop_now AtField b s (rw (e, f, g, h)))

-- by another name for the byte
plain_as : {a b : ℕ} {s : List ℕ} → a ≡ b → PlainRest (a ∷ s) → PlainRest (b ∷ s)
plain_as {s = s} q r = record { front = r.front; rest = r.rest; is = r.is ∙ ap (λ (y : ℕ). y ∷ s) q; data_only = r.data_only; ends = r.ends }

plain_step : (b : ℕ) (s : List ℕ) → OneLine s → Kind b → Either (StopsHere Plain (b ∷ s)) (PlainRest (b ∷ s))
unfolding next_of textdata
plain_step b s ih (a_quote q) = left (stop_now Plain b s (ap (next_of Plain) q))
plain_step b s ih (a_text t) = via Plain b Plain s (text_plain b t) refl refl ih.at_plain (plain_more t)
plain_step b s ih (a_comma q) =
    via Plain b AtField s (ap (next_of Plain) q) refl refl (ih.at_field later) (λ x. plain_as (sym q) (unopened (parts x)))
plain_step b s ih (a_return q) =
    via Plain b AfterReturn s (ap (next_of Plain) q) refl refl ih.at_return (λ x. plain_as (sym q) (unopened (fed_ends x)))
plain_step b s ih (no_kind e f g h) = left (stop_now Plain b s (rw (f, g, h)))

quoted_as : {a b : ℕ} {s : List ℕ} → a ≡ b → QuotedRest (a ∷ s) → QuotedRest (b ∷ s)
quoted_as {s = s} q r =
    record { front = r.front; value = r.value; rest = r.rest; is = r.is ∙ ap (λ (y : ℕ). y ∷ s) q; reads = r.reads; ends = r.ends }

quoted_step : (b : ℕ) (s : List ℕ) → OneLine s → Kind b → Either (StopsHere InQuotes (b ∷ s)) (QuotedRest (b ∷ s))
unfolding next_of textdata
quoted_step b s ih (a_quote q) =
    via InQuotes b AfterQuote s (ap (next_of InQuotes) q) refl refl ih.at_behind (λ x. quoted_as (sym q) (behind_quoted x))
quoted_step b s ih (a_text t) = via InQuotes b InQuotes s (text_quoted b t) refl refl ih.at_quoted (quoted_one t)
quoted_step b s ih (a_comma q) =
    via InQuotes b InQuotes s (ap (next_of InQuotes) q) refl refl ih.at_quoted (λ x. quoted_as (sym q) (quoted_comma x))
quoted_step b s ih (a_return q) = left (stop_now InQuotes b s (ap (next_of InQuotes) q))
quoted_step b s ih (no_kind e f g h) = left (stop_now InQuotes b s (rw (e, g, f)))

behind_as : {a b : ℕ} {s : List ℕ} → a ≡ b → BehindRest (a ∷ s) → BehindRest (b ∷ s)
behind_as q r = rw q at r

text_behind : (b : ℕ) → textdata b ≡ true → next_of AfterQuote b ≡ Stopped
unfolding next_of
text_behind b t = rw (not_quote b t, not_comma b t, not_return b t)

behind_step : (b : ℕ) (s : List ℕ) → OneLine s → Kind b → Either (StopsHere AfterQuote (b ∷ s)) (BehindRest (b ∷ s))
unfolding next_of
behind_step b s ih (a_quote q) =
    via AfterQuote b InQuotes s (ap (next_of AfterQuote) q) refl refl ih.at_quoted (λ x. behind_as (sym q) (doubled x))
behind_step b s ih (a_text t) = left (stop_now AfterQuote b s (text_behind b t))
behind_step b s ih (a_comma q) =
    via AfterQuote b AtField s (ap (next_of AfterQuote) q) refl refl (ih.at_field later) (λ x. behind_as (sym q) (closed (parts x)))
behind_step b s ih (a_return q) =
    via AfterQuote b AfterReturn s (ap (next_of AfterQuote) q) refl refl ih.at_return (λ x. behind_as (sym q) (closed (fed_ends x)))
behind_step b s ih (no_kind e f g h) = left (stop_now AfterQuote b s (rw (e, g, h)))

fed_as : {a b : ℕ} {s : List ℕ} → a ≡ b → Fed (a ∷ s) → Fed (b ∷ s)
fed_as q r = rw q at r

return_step : (b : ℕ) (s : List ℕ) (t : Bool) → eqb b feed ≡ t → Either (StopsHere AfterReturn (b ∷ s)) (Fed (b ∷ s))
unfolding next_of
return_step b s true e = right (fed_as (sym (eqb-true b feed e)) (fed s))
return_step b s false e = left (stop_now AfterReturn b s (rw e))

field_end : {st : State} → Opens st → Either (StopsHere st []) (Begun [])
field_end o = right (plain_begun (unopened (line_ends end)))

one_line : (s : List ℕ) → OneLine s
unfolding stop_at
one_line [] =
    record {
      at_field = field_end;
      at_plain = right (unopened (line_ends end));
      at_quoted = left (λ n. refl);
      at_behind = right (closed (line_ends end));
      at_return = left (λ n. refl);
    }
one_line (b ∷ s) =
    let ih = one_line s in
    let k = kind b in
    record {
      at_field = λ o. field_step b s ih o k;
      at_plain = plain_step b s ih k;
      at_quoted = quoted_step b s ih k;
      at_behind = behind_step b s ih k;
      at_return = return_step b s (eqb b feed) refl;
    }

-- where the walk stops, it stops past the lines behind it
least_go : (n m x : ℕ) (t : Bool) → cond t (n + 1) x ≡ suc m → (x ≡ suc m → n ≤ m) → n ≤ m
least_go n m x true e h = omega arith
least_go n m x false e h = h e

end_go : (n m : ℕ) (t : Bool) → cond t 0 (n + 1) ≡ suc m → n ≤ m
end_go n m true e = absurd (omega arith)
end_go n m false e = omega arith

pub stop_least : (st : State) (n m : ℕ) (s : List ℕ) → stop_at st n s ≡ suc m → n ≤ m
unfolding stop_at
stop_least st n m [] e = end_go n m (may_end st) e
stop_least st n m (b ∷ s) e =
    let x = next_of st b in
    least_go n m (stop_at x (n + ended_of x) s) (stopped x) e (λ q. omega (arith, stop_least x (n + ended_of x) m s q))

-- a text is read, or it stops
pub data Told (s : List ℕ) : Type 0 where
  reads : (rows : List (List (List ℕ))) → Text s rows → Told s
  stops : (n : ℕ) → Stops s (suc n) → Told s

stops_here : (s : List ℕ) → 0 < length s → StopsHere AtLine s → Stops s 1
stops_here s h st =
    rfc.Stops.here {s = s} h (λ row l. omega (arith, st 0, last_stop (line_way first l) h 0))
    (λ u t row q l.
    let e : stop_at AtLine 1 t ≡ 1 = sym (over_stop 0 t (line_way first l)) ∙ ap (stop_at AtLine 0) (sym q) ∙ st 0 in
    omega (arith, stop_least AtLine 1 0 t e))

more_told : {u t : List ℕ} {row : List (List ℕ)} → Line u row → Told t → Told (u ++ return ∷ feed ∷ t)
more_told {row = row} l (reads rows x) = reads (row ∷ rows) (rfc.Text.more l x)
more_told l (stops n x) = stops (suc n) (rfc.Stops.later l x)

told_as : {s t : List ℕ} → Told s → s ≡ t → Told t
told_as x e = rw e at x

told_go : (k : ℕ) (s : List ℕ) → 0 < length s → length s ≤ suc k → ((t : List ℕ) → length t ≤ k → Told t) → Either (StopsHere AtLine s) (Begun s) → Told s
told_go k s some h rec (left st) = stops 0 (stops_here s some st)
told_go k s some h rec (right b) = ends_go b.ends b.is
  where
    ends_go : {r : List ℕ} → Ends r → b.line ++ r ≡ s → Told s
    ends_go end e =
        let is : b.line ≡ s = sym (append-nil b.line) ∙ e in
        reads (b.row ∷ []) (rfc.Text.last some (rw is at b.reads))
    ends_go (next t) e =
        told_as (more_told b.reads (rec t (omega (arith, ap length e, length-append b.line (return ∷ feed ∷ t))))) e

told_none : (s : List ℕ) → length s ≤ 0 → Told s
told_none [] h = reads [] rfc.Text.none
told_none (b ∷ s) h = absurd (omega arith)

told_more : (k : ℕ) → ((t : List ℕ) → length t ≤ k → Told t) → (s : List ℕ) → length s ≤ suc k → Told s
told_more k rec [] h = reads [] rfc.Text.none
told_more k rec (b ∷ s) h = told_go k (b ∷ s) (omega arith) h rec ((one_line (b ∷ s)).at_field first)

told_in : (k : ℕ) (s : List ℕ) → length s ≤ k → Told s
told_in zero = told_none
told_in (suc k) = told_more k (told_in k)

pub told : (s : List ℕ) → Told s
told s = told_in (length s) s (omega arith)

-- the walk stops at the line where the text does
pub stops_some : {s : List ℕ} {m : ℕ} → Stops s m → 1 ≤ m
stops_some (rfc.Stops.here h l u) = omega arith
stops_some (rfc.Stops.later l x) = omega arith

here_go : (s : List ℕ) → ((row : List (List ℕ)) → Line s row → ⊥) → ((u t : List ℕ) (row : List (List ℕ)) → s ≡ u ++ return ∷ feed ∷ t → Line u row → ⊥)
    → Either (StopsHere AtLine s) (Begun s) → StopsHere AtLine s
here_go s l u (left st) = st
here_go s l u (right b) = absurd (ends_go b.ends b.is)
  where
    ends_go : {r : List ℕ} → Ends r → b.line ++ r ≡ s → ⊥
    ends_go end e =
        let is : b.line ≡ s = sym (append-nil b.line) ∙ e in
        l b.row (rw is at b.reads)
    ends_go (next t) e = u b.line t b.row (sym e) b.reads

pub stops_walk : {s : List ℕ} {m : ℕ} → Stops s m → (n : ℕ) → stop_at AtLine n s ≡ n + m
stops_walk (rfc.Stops.here {s} h l u) n = here_go s l u ((one_line s).at_field first) n
stops_walk (rfc.Stops.later {s} {t} l x) n =
    over_stop n t (line_way first l) ∙ omega (arith, stops_walk x (n + 1))

-- so the walk and the grammar agree
through_go : (s : List ℕ) → stop_at AtLine 0 s ≡ 0 → Told s → (rows : List (List (List ℕ))) × Text s rows
through_go s e (reads rows x) = (rows, x)
through_go s e (stops n x) = absurd (omega (arith, stops_walk x 0))

pub walk_reads : (s : List ℕ) → (stop_at AtLine 0 s ≡ 0) ↔ ((rows : List (List (List ℕ))) × Text s rows)
walk_reads s = (λ e. through_go s e (told s), λ x. text_stop 0 x.1)

stop_go : (s : List ℕ) (m : ℕ) → stop_at AtLine 0 s ≡ suc m → Told s → Stops s (suc m)
stop_go s m e (reads rows x) = absurd (omega (arith, text_stop 0 x))
stop_go s m e (stops n x) =
    let same : suc n ≡ suc m = omega (arith, stops_walk x 0) in
    rw same at x

pub walk_stops : (s : List ℕ) (m : ℕ) → (stop_at AtLine 0 s ≡ suc m) ↔ Stops s (suc m)
walk_stops s m = (λ e. stop_go s m e (told s), λ x. omega (arith, stops_walk x 0))

-- a text stops at one line, and one that stops has no reading
pub one_stop : {s : List ℕ} {m n : ℕ} → Stops s m → Stops s n → m ≡ n
one_stop x y = omega (arith, stops_walk x 0, stops_walk y 0)

pub not_both : {s : List ℕ} {m : ℕ} {rows : List (List (List ℕ))} → Stops s m → Text s rows → ⊥
not_both x y = omega (arith, stops_some x, stops_walk x 0, text_stop 0 y)
