-- The code's `==` on states says what the tests of the definitions say. Assumes nothing.
use mathlib.Core.Path.{◌≡◌, refl}
use denote.Enum.Bare.{sameb}
use Rattle.rfc4180.specs.declared.State.{State}
use Rattle.rfc4180.specs.declared.State.TheVariants.{AtLine, AtField, Plain, InQuotes, AfterQuote, AfterReturn, Stopped}
use Rattle.rfc4180.specs.contracts.State.{the_type}
use Rattle.rfc4180.specs.Walk.{at_line, in_quotes, stopped}

pub is_line : (st : State) → sameb the_type st AtLine ≡ at_line st
is_line AtLine = refl
is_line AtField = refl
is_line Plain = refl
is_line InQuotes = refl
is_line AfterQuote = refl
is_line AfterReturn = refl
is_line Stopped = refl

pub is_quotes : (st : State) → sameb the_type st InQuotes ≡ in_quotes st
is_quotes AtLine = refl
is_quotes AtField = refl
is_quotes Plain = refl
is_quotes InQuotes = refl
is_quotes AfterQuote = refl
is_quotes AfterReturn = refl
is_quotes Stopped = refl

pub is_stopped : (st : State) → sameb the_type st Stopped ≡ stopped st
is_stopped AtLine = refl
is_stopped AtField = refl
is_stopped Plain = refl
is_stopped InQuotes = refl
is_stopped AfterQuote = refl
is_stopped AfterReturn = refl
is_stopped Stopped = refl
