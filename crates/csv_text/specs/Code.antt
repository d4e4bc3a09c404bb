-- What takes bytes one after the other: one that counts them, and one that puts them among lent bytes. Assumes nothing.
use Rattle.std.specs.Prelude.{ℕ, ◌+◌, ◌≤◌, ◌≡◌, List, [], ◌++◌, length}
use Rattle.std.proofs.Common.{◌∙◌, refl, ap, arith, length-append}
use Rattle.sheet.specs.Code.{put}
use Rattle.sheet.proofs.Putting.{put_none, put_length, put_behind}
use Rattle.csv_text.specs.declared.Counting.{Counting}
use Rattle.csv_text.specs.declared.Putting.{Putting}

-- waiting takes no bytes, two parts are taken as one, and what is taken takes its room and no more
pub record SinkLaws {S : Type 0} (has_room : S → ℕ → Type 0) (took : S → List ℕ → S → Type 0) : Type 0 where
  pub none : (s : S) → took s [] s
  pub joins : (s t u : S) (x y : List ℕ) → has_room s (length x + length y) → took s x t → took t y u → took s (x ++ y) u
  pub fewer : (s : S) (m n : ℕ) → m ≤ n → has_room s n → has_room s m
  pub leaves : (s t : S) (x : List ℕ) (n : ℕ) → has_room s (length x + n) → took s x t → has_room t n

-- counting: room up to a bound, and bytes counted
abbrev pub CountRoom : Counting → ℕ → Type 0
CountRoom s n = s.bytes + n ≤ 9000000

abbrev pub Counts : Counting → List ℕ → Counting → Type 0
Counts s x t = t.bytes ≡ s.bytes + length x

pub counting_laws : SinkLaws CountRoom Counts
counting_laws =
    record {
      none = λ s. omega arith;
      joins = λ s t u x y h p q. omega (arith, p, q, length-append x y);
      fewer = λ s m n le h. omega (arith, le, h);
      leaves = λ s t x n h p. omega (arith, h, p);
    }

-- putting: lent bytes from the place on, and bytes put there, with the same bytes lent
abbrev pub PutRoom : Putting → ℕ → Type 0
PutRoom s n = s.at + n ≤ length s.out.now

abbrev pub Puts : Putting → List ℕ → Putting → Type 0
Puts s x t = (t.out.now ≡ put s.out.now s.at x) × (t.at ≡ s.at + length x) × (t.out.ghost_name ≡ s.out.ghost_name)

pub putting_laws : SinkLaws PutRoom Puts
putting_laws =
    record {
      none = λ s. (put_none s.out.now s.at, omega arith, refl);
      joins =
          λ s t u x y h p q. (
            q.0 ∙ (λ i. put (p.0 i) (p.1 i) y) ∙ put_behind s.out.now s.at x (omega (arith, h)) y,
            omega (arith, p.1, q.1, length-append x y),
            q.2 ∙ p.2,
          );
      fewer = λ s m n le h. omega (arith, le, h);
      leaves = λ s t x n h p. omega (arith, h, p.1, ap length p.0, put_length s.out.now s.at x (omega (arith, h)));
    }
