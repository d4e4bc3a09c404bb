-- A line that is put to twice. Assumes nothing.
use Rattle.std.proofs.Common.{◌≡◌, ℕ, zero, suc, ◌-◌, List, [], ◌∷◌, ◌++◌, length, take, ap, ◌∙◌, arith, length-append, length-take}
use Rattle.std.proofs.lemmas.Grind.{common_steps}

-- a byte and then more: as much of them as there is room for
both : (room : ℕ) (old : List ℕ) (x : ℕ) (more : List ℕ) → (old ++ take room (x ∷ [])) ++ take (room - 1) more ≡ old ++ take room (x ∷ more)
both zero old x more = grind (arith, common_steps)
both (suc n) old x more = grind (arith, common_steps)

-- what is put behind a byte stands as if both had been put at once
pub put_behind : (room : ℕ) (old line : List ℕ) (x : ℕ) (more : List ℕ) → line ≡ old ++ take (room - length old) (x ∷ []) →
    line ++ take (room - length line) more ≡ old ++ take (room - length old) (x ∷ more)
put_behind room old line x more e =
    let left : room - length line ≡ room - length old - 1 =
    ap (λ (l : List ℕ). room - length l) e ∙ simp (length-append, length-take) (omega arith) in
    ap (λ (l : List ℕ). l ++ take (room - length line) more) e
    ∙ ap (λ (n : ℕ). (old ++ take (room - length old) (x ∷ [])) ++ take n more) left
    ∙ both (room - length old) old x more
