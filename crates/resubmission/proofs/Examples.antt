-- The subject's fields in each edition, and small files, computed. Assumes nothing.
use mathlib.Core.Path.{◌≡◌, refl}
use Prim.Native.Nat.{ℕ, ◌-◌}
use lib.ListN.{get_or}
use Rattle.layout.specs.Layout.{Rule}
use Rattle.flow.specs.Publication.{Flow, text, date, null}
use Rattle.flow.specs.Letters.{SB1}
use Rattle.flow.specs.Flows.{p0133, p0133_in_711}
use Rattle.judge.specs.Right.{published_as}
use Rattle.resubmission.specs.Rows.{first_free, id_field, date_field}

-- the rule of field k of an SB1
abbrev rule_of : Flow → ℕ → Rule
rule_of flow k = get_or (published_as flow.kinds SB1).fields (k - 2) null

-- the participant id is the text(8) of an SB1, and the period end date its date: fields 4 and 5, in edition 711 fields 3 and 4
pub subject_fields : (id_field p0133 ≡ 4) × (date_field p0133 ≡ 5) × (id_field p0133_in_711 ≡ 3) × (date_field p0133_in_711 ≡ 4)
unfolding id_field date_field first_free
subject_fields = (refl, refl, refl, refl)

pub subject_types : (rule_of p0133 (id_field p0133) ≡ text 8) × (rule_of p0133 (date_field p0133) ≡ date) × (rule_of p0133_in_711 (id_field p0133_in_711) ≡ text 8)
    × (rule_of p0133_in_711 (date_field p0133_in_711) ≡ date)
unfolding id_field date_field first_free
subject_types = (refl, refl, refl, refl)
