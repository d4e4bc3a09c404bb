-- Laws of the end of a file: the footer, and the last line feed. Assumes nothing.
use Prim.Native.Nat.{ℕ, ◌+◌}
use mathlib.Core.Path.{◌≡◌, refl}
use mathlib.Core.Bool.{Bool, true, false, not, ◌||◌}
use mathlib.Core.List.{List, [], ◌∷◌}
use native.Mathlib.Omega.{arith}
use lib.ListN.{length}
use Rattle.layout.specs.Layout.{Layout, is_footer}
use Rattle.judge.specs.File.{unplaced, ends_in_feed, ended}
use Rattle.std.specs.Prelude.{Ok, Err}

-- no bytes end in no line feed
pub empty_open : (f : List ℕ) → length f ≡ 0 → false ≡ ends_in_feed f
empty_open [] h = refl
empty_open (b ∷ s) h = absurd (omega arith)

-- a line feed that is not needed may be absent; one that is needed must be there
module _ (l : Layout) (b : Bool) where
  pub feed_free : l.feed ≡ false → true ≡ (not l.feed || b)
  feed_free h = rw h

  pub feed_needed : l.feed ≡ true → b ≡ (not l.feed || b)
  feed_needed h = rw h

-- 14 and 15
module _ (l : Layout) (n last : ℕ) (feed : Bool) where
  pub end_missing : is_footer l last ≡ false → Err (unplaced 14 (n + 1) 0) ≡ ended l n last feed
  unfolding ended
  end_missing h = rw h

  module _ (footer : is_footer l last ≡ true) where
    pub feed_missing : (not l.feed || feed) ≡ false → Err (unplaced 15 n 0) ≡ ended l n last feed
    unfolding ended
    feed_missing h = rw (footer, h)

    pub end_right : (not l.feed || feed) ≡ true → Ok n ≡ ended l n last feed
    unfolding ended
    end_right h = rw (footer, h)
