-- The records in force in plain terms (document 02, C-18): no walk, no table. Assumes nothing.
use Rattle.std.specs.Prelude.{ℕ, ◌+◌, ◌≤◌, ◌≡◌, List, ◌∷◌, ◌++◌, length}
use Rattle.record.specs.Records.{records, field, extent, bar}
use Rattle.flow.specs.Letters.{SB1, CM1}
use Rattle.flow.specs.Publication.{Flow}
use Rattle.flow.specs.Editions.{Asked, a_flow}
use Rattle.judge.specs.Right.{kind_in, NoneOfKind, Right}
use Rattle.resubmission.specs.declared.Which.{Which}
use Rattle.resubmission.specs.declared.Which.TheVariants.{Original}
use Rattle.resubmission.specs.Rows.{Pair, Row, row, end_of, id_field, date_field}
use Rattle.resubmission.specs.InForce.{of, in_force, part, file_number, between}

-- some records end with a set of the subject: an SB1 that has its id and date, and no SB1 behind it
pub record Under (flow : Flow) (p : Pair) (before : List (List ℕ)) : Type 0 where
  pub earlier : List (List ℕ)
  pub subject : List ℕ
  pub since : List (List ℕ)
  pub splits : before ≡ earlier ++ subject ∷ since
  pub kind : kind_in subject ≡ SB1
  pub id : field bar (id_field flow) subject ≡ p.id
  pub date : field bar (date_field flow) subject ≡ p.date
  pub last : NoneOfKind SB1 since

-- a row is a record of the file, at its place: a CM1 of the group, in a set of the subject
pub record OfPair (flow : Flow) (p : Pair) (f : List ℕ) (r : Row) : Type 0 where
  pub before : List (List ℕ)
  pub after : List (List ℕ)
  pub stands : records f ≡ before ++ r.bytes ∷ after
  pub starts : r.start ≡ extent before
  pub kind : kind_in r.bytes ≡ CM1
  pub group : field bar 2 r.bytes ≡ p.group
  pub under : Under flow p before

-- a record in force is right: it is from start to end in this file, and so many are in force
pub record IsInForce (asks : Asked) (a b : List ℕ) (p : Pair) (file : Which) (count start end : ℕ) : Type 0 where
  -- both files are right for P0133001 in the edition asked for
  pub flow : Flow
  pub is_held : asks ≡ a_flow flow
  pub original : (n : ℕ) × Right asks a n
  pub resubmission : (n : ℕ) × Right asks b n
  -- the original holds the records in force only where the resubmission has none of the pair
  pub only : file ≡ Original → (r : Row) → OfPair flow p b r → ⊥
  -- what is handed back is a record of the pair in that file, at its place and whole
  pub stands : OfPair flow p (of file a b) (row start (between (of file a b) start end))
  pub ends : end ≡ start + length (between (of file a b) start end)
  -- each record of the pair in that file is handed back for a number up to the count
  pub every : (r : Row) → OfPair flow p (of file a b) r
      → (n : ℕ) × (1 ≤ n) × (n ≤ count) × (in_force asks a b p n ≡ part (file_number file) count r.start (end_of r))
  -- and for each such number one is
  pub each : (n : ℕ) → 1 ≤ n → n ≤ count → (r : Row) × (in_force asks a b p n ≡ part (file_number file) count r.start (end_of r))
