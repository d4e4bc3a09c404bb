-- Laws of tests. Assumes nothing.
use mathlib.Core.Path.{◌≡◌, refl}
use mathlib.Core.Bool.{Bool, true, false, cond, beq, ◌&&◌, ◌||◌}
use mathlib.Core.Logic.{◌⊎◌, inl, inr}
use lib.Dec.{T}
use Rattle.text.specs.Rules.{must}

pub or_cases : (a b : Bool) → T (a || b) → T a ⊎ T b
or_cases true b t = inl tt
or_cases false b t = inr t

pub or_left : (a b : Bool) → T a → T (a || b)
or_left true b t = tt
or_left false b t = absurd t

pub or_right : (a b : Bool) → T b → T (a || b)
or_right true b t = tt
or_right false b t = t

pub or_second : (a b : Bool) → (T a → ⊥) → T (a || b) → T b
or_second true b f t = absurd (f tt)
or_second false b f t = t

pub and_left : (a b : Bool) → T (a && b) → T a
and_left true b t = tt
and_left false b t = t

pub and_right : (a b : Bool) → T (a && b) → T b
and_right true b t = t
and_right false b t = absurd t

pub and_both : (a b : Bool) → T a → T b → T (a && b)
and_both true b s t = t
and_both false b s t = s

pub cond_true {ℓ} : {A : Type ℓ} (b : Bool) (x y : A) → T b → cond b x y ≡ x
cond_true true x y t = refl
cond_true false x y t = absurd t

pub cond_false {ℓ} : {A : Type ℓ} (b : Bool) (x y : A) → (T b → ⊥) → cond b x y ≡ y
cond_false true x y t = absurd (t tt)
cond_false false x y t = refl

-- a test holds or fails
pub by_test {ℓ} : {C : Type ℓ} (b : Bool) → (T b → C) → ((T b → ⊥) → C) → C
by_test true f g = f tt
by_test false f g = g (λ t. t)

-- a test that is true holds
pub holds : {b : Bool} → b ≡ true → T b
holds e = rw e tt

pub is_true : (b : Bool) → T b → b ≡ true
is_true true t = refl
is_true false t = absurd t

-- tests that are the same are equal
pub beq_eq : (a b : Bool) → T (beq a b) → a ≡ b
beq_eq true true t = refl
beq_eq true false t = absurd t
beq_eq false true t = absurd t
beq_eq false false t = refl

-- a rule that holds lets go on, one that fails answers
pub must_holds {ℓ} : {A : Type ℓ} (b : Bool) (x y : A) → T b → must b x y ≡ y
must_holds true x y t = refl
must_holds false x y t = absurd t

pub must_fails {ℓ} : {A : Type ℓ} (b : Bool) (x y : A) → (T b → ⊥) → must b x y ≡ x
must_fails true x y t = absurd (t tt)
must_fails false x y t = refl
