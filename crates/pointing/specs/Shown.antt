-- How a record is shown with a mark under the byte that a refusal points at. Assumes nothing.
use Rattle.std.specs.Prelude.{ℕ, ◌+◌, ◌-◌, ◌≤◌, min, ◌≡◌, cond, List, [], ◌∷◌, ◌++◌, eqb, replicate}
use Rattle.text.specs.Characters.{from_to}
use Rattle.place.specs.Places.{place_at}
use Rattle.place.specs.declared.Refusal.{Refusal}

-- a refusal of bytes whose fields are parted by sep has the place of its record and field
abbrev pub Placed : ℕ → List ℕ → Refusal → Type 0
Placed sep s r = r.place ≡ place_at sep s r.«record» r.field

-- of a record from start up to end the bytes from `from` up to `to` are shown, 64 of them or all there are, and the mark stands
-- under the byte at the place, or right behind them, with so many of them before it
pub record Window (start end place from to mark : ℕ) : Type 0 where
  pub begins : start ≤ from
  pub ends : to ≤ end
  pub size : to ≡ from + min 64 (end - start)
  pub under : from + mark ≡ place
  pub within : place ≤ to

-- a byte takes one column: a printable character as it is, a tab as a blank, any other byte as a question mark
unfoldable pub column_of : ℕ → ℕ
column_of b = cond (eqb b 0x09) 0x20 (cond (from_to 0x20 0x7E b) b 0x3F)

-- the mark with n blanks before it
abbrev pub mark_behind : ℕ → List ℕ
mark_behind n = replicate n 0x20 ++ 0x5E ∷ []
