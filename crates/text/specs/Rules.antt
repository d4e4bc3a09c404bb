-- How document 01 orders its rules. Assumes nothing.
use Rattle.std.specs.Prelude.{Bool, true, false}

-- where the test holds, what comes after; where it fails, this answer: so the first test that fails decides
abbrev pub must {ℓ} : {A : Type ℓ} → Bool → A → A → A
must true refusal after = after
must false refusal after = refusal
