-- The footer put byte by byte and number by number. Assumes nothing.
use Prim.Native.Nat.{ℕ, ◌+◌, ◌-◌, ◌≤◌, ◌<◌}
use mathlib.Core.Path.{◌≡◌, ap, ◌∙◌}
use mathlib.Core.List.{List, [], ◌∷◌, ◌++◌}
use native.Mathlib.Omega.{arith}
use lib.ListN.{length, set, length-append, length-set}
use lib.Seq.{append_snoc}
use Rattle.record.specs.Records.{bar}
use Rattle.number.specs.Numbers.{decimal}
use Rattle.flow.specs.Letters.{ZPT}
use Rattle.sheet.specs.Sheets.{footer}
use Rattle.sheet.specs.Code.{put}
use Rattle.sheet.proofs.Footers.{foot_length}
use Rattle.sheet.proofs.Putting.{grown, grown_byte, grown_length}

-- ZPT and its bar
abbrev pub head : List ℕ
head = ZPT ++ bar ∷ []

module _ (old : List ℕ) (at n sum a b : ℕ) (fits : at + length (footer n sum) + 1 ≤ length old) (count : a ≡ length (decimal n))
    (total : b ≡ length (decimal sum)) where
  size : at + 4 + a + 1 + b + 1 ≤ length old
  size = omega (arith, foot_length n sum)

  pub head_fits : at + 4 ≤ length old
  head_fits = omega (arith, size)

  -- the four bytes of the head
  module _ (headed : List ℕ) (headed_is : headed ≡ put old at head) where
    pub headed_length : length headed ≡ length old
    headed_length = grown_length old headed at head head_fits headed_is

    pub count_fits : (length (decimal n) ≤ at + 4 + a) × (at + 4 + a ≤ length headed)
    count_fits = (omega arith, omega (arith, headed_length, size))

    -- the count
    module _ (counted : List ℕ) (c : counted ≡ put headed (at + 4 + a - length (decimal n)) (decimal n)) where
      counted_is : counted ≡ put old at (head ++ decimal n)
      counted_is =
          let place : at + 4 + a - length (decimal n) ≡ at + length head = omega arith in
          c ∙ grown old headed at head (omega (arith, size)) headed_is (at + 4 + a - length (decimal n)) (decimal n) place

      room : at + length (head ++ decimal n) ≤ length old
      room = omega (arith, size)

      counted_length : length counted ≡ length old
      counted_length = grown_length old counted at (head ++ decimal n) room counted_is

      pub bar_fits : at + 4 + a < length counted
      bar_fits = omega (arith, counted_length, size)

      -- its bar
      abbrev parted : List ℕ
      parted = set counted (at + 4 + a) bar

      parted_is : parted ≡ put old at (head ++ decimal n ++ bar ∷ [])
      parted_is = grown_byte old counted at (head ++ decimal n) room counted_is (at + 4 + a) bar (omega arith) (omega (arith, size))

      pub total_fits : (length (decimal sum) ≤ at + 4 + a + 1 + b) × (at + 4 + a + 1 + b ≤ length parted)
      total_fits = (omega arith, omega (arith, length-set counted (at + 4 + a) bar, counted_length, size))

      -- the checksum
      module _ (summed : List ℕ) (s : summed ≡ put parted (at + 4 + a + 1 + b - length (decimal sum)) (decimal sum)) where
        longer : length (head ++ decimal n ++ bar ∷ []) ≡ 4 + a + 1
        longer = omega (arith, length-append (decimal n) (bar ∷ []))

        summed_is : summed ≡ put old at (head ++ decimal n ++ bar ∷ [] ++ decimal sum)
        summed_is =
            let place : at + 4 + a + 1 + b - length (decimal sum) ≡ at + length (head ++ decimal n ++ bar ∷ []) = omega (arith, longer) in
            s ∙ grown old parted at (head ++ decimal n ++ bar ∷ []) (omega (arith, size, longer)) parted_is (at + 4 + a + 1 + b - length (decimal sum)) (decimal sum) place

        all : length (head ++ decimal n ++ bar ∷ [] ++ decimal sum) ≡ 4 + a + 1 + b
        all = omega (arith, length-append (decimal n ++ bar ∷ []) (decimal sum), length-append (decimal n) (bar ∷ []))

        summed_length : length summed ≡ length old
        summed_length = grown_length old summed at (head ++ decimal n ++ bar ∷ [] ++ decimal sum) (omega (arith, size, all)) summed_is

        pub feed_fits : at + 4 + a + 1 + b < length summed
        feed_fits = omega (arith, summed_length, size)

        pub all_length : length (set summed (at + 4 + a + 1 + b) 0x0A) ≡ length old
        all_length = length-set summed (at + 4 + a + 1 + b) 0x0A ∙ summed_length

        -- the line feed
        pub all_put : set summed (at + 4 + a + 1 + b) 0x0A ≡ put old at (footer n sum ++ 0x0A ∷ [])
        unfolding footer
        all_put =
            grown_byte old summed at (head ++ decimal n ++ bar ∷ [] ++ decimal sum) (omega (arith, size, all)) summed_is (at + 4 + a + 1 + b) 0x0A
            (omega (arith, all)) (omega (arith, size))
            ∙ ap (λ (d : List ℕ). put old at (head ++ d ++ 0x0A ∷ [])) (append_snoc (decimal n) bar (decimal sum))
