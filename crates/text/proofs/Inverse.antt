-- What can be taken back tells what it was said of. Assumes nothing.
use mathlib.Core.Path.{◌≡◌, sym, ap, ◌∙◌}

-- two answers that say the same are the same, where what is said can be taken back
pub same_said {ℓ} : {A B : Type ℓ} (say : A → B) (back : B → A) → ((a : A) → back (say a) ≡ a) → (a b : A) → say a ≡ say b → a ≡ b
same_said say back undoes a b e = sym (undoes a) ∙ ap back e ∙ undoes b
