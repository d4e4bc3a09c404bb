-- Worked examples of document 01, by computation.
use Prim.Native.Nat.{ℕ}
use mathlib.Core.Path.{◌≡◌, refl}
use mathlib.Core.List.{List, [], ◌∷◌}
use Rattle.record.specs.Records.{onto, records, fields}

-- ZHD|P0138001|G|SVAA|Z|POOL|20240105120000
unfoldable pub zhd : List ℕ
zhd =
    90 ∷ 72 ∷ 68 ∷ 124 ∷ 80 ∷ 48 ∷ 49 ∷ 51 ∷ 56 ∷ 48 ∷ 48 ∷ 49 ∷ 124 ∷ 71 ∷ 124 ∷ 83 ∷ 86 ∷ 65 ∷ 65 ∷ 124 ∷ 90 ∷
    124 ∷ 80 ∷ 79 ∷ 79 ∷ 76 ∷ 124 ∷ 50 ∷ 48 ∷ 50 ∷ 52 ∷ 48 ∷ 49 ∷ 48 ∷ 53 ∷ 49 ∷ 50 ∷ 48 ∷ 48 ∷ 48 ∷ 48 ∷ []

-- SUB|B|||20231231|M
unfoldable pub sub : List ℕ
sub =
    83 ∷ 85 ∷ 66 ∷ 124 ∷ 66 ∷ 124 ∷ 124 ∷ 124 ∷ 50 ∷ 48 ∷ 50 ∷ 51 ∷ 49 ∷ 50 ∷ 51 ∷ 49 ∷ 124 ∷ 77 ∷ []

-- TA2|1.0250
unfoldable pub ta2 : List ℕ
ta2 =
    84 ∷ 65 ∷ 50 ∷ 124 ∷ 49 ∷ 46 ∷ 48 ∷ 50 ∷ 53 ∷ 48 ∷ []

-- the bench file without its footer, a line feed after each record
unfoldable pub bench : List ℕ
bench =
    90 ∷ 72 ∷ 68 ∷ 124 ∷ 80 ∷ 48 ∷ 49 ∷ 51 ∷ 56 ∷ 48 ∷ 48 ∷ 49 ∷ 124 ∷ 71 ∷ 124 ∷ 83 ∷ 86 ∷ 65 ∷ 65 ∷ 124 ∷ 90 ∷
    124 ∷ 80 ∷ 79 ∷ 79 ∷ 76 ∷ 124 ∷ 50 ∷ 48 ∷ 50 ∷ 52 ∷ 48 ∷ 49 ∷ 48 ∷ 53 ∷ 49 ∷ 50 ∷ 48 ∷ 48 ∷ 48 ∷ 48 ∷ 10 ∷ 83 ∷
    85 ∷ 66 ∷ 124 ∷ 66 ∷ 124 ∷ 124 ∷ 124 ∷ 50 ∷ 48 ∷ 50 ∷ 51 ∷ 49 ∷ 50 ∷ 51 ∷ 49 ∷ 124 ∷ 77 ∷ 10 ∷ 84 ∷ 65 ∷ 50 ∷
    124 ∷ 49 ∷ 46 ∷ 48 ∷ 50 ∷ 53 ∷ 48 ∷ 10 ∷ []

-- it is cut into its three records
pub bench_records : records bench ≡ zhd ∷ sub ∷ ta2 ∷ []
unfolding bench zhd sub ta2 records onto
bench_records = refl

-- SUB has six fields, of which the third and the fourth are empty
pub sub_fields : fields 0x7C sub ≡ (83 ∷ 85 ∷ 66 ∷ []) ∷ (66 ∷ []) ∷ [] ∷ [] ∷ (50 ∷ 48 ∷ 50 ∷ 51 ∷ 49 ∷ 50 ∷ 51 ∷ 49 ∷ []) ∷ (77 ∷ []) ∷ []
unfolding sub fields onto
sub_fields = refl

-- nothing has no record, a line feed alone one empty record; a carriage return is a byte like any other
pub no_records : records [] ≡ []
unfolding records
no_records = refl

pub empty_record : records (0x0A ∷ []) ≡ [] ∷ []
unfolding records onto
empty_record = refl

pub carriage_return : records (65 ∷ 0x0D ∷ 0x0A ∷ 66 ∷ []) ≡ (65 ∷ 0x0D ∷ []) ∷ (66 ∷ []) ∷ []
unfolding records onto
carriage_return = refl
