-- Why behind_stretch is right: no byte leads nowhere else, in quotes none does, and else the last byte decides.
use Prim.Native.Nat.{ℕ, ◌-◌}
use mathlib.Core.Path.{◌≡◌, refl, sym, ap, ◌∙◌}
use mathlib.Core.List.{List, [], ◌∷◌}
use native.Mathlib.Omega.{arith}
use lib.ListN.{length}
use Rattle.std.specs.Prelude.{None, slice_get}
use Rattle.std.proofs.lemmas.Option.{slice_get-get_or, slice_get_within, get_or_from_slice_get}
use Rattle.rfc4180.specs.declared.State.TheVariants.{Plain}
use Rattle.rfc4180.specs.Walk.{next_of}
use Rattle.rfc4180.proofs.States.{is_quotes}
use Rattle.rfc4180.proofs.Skimming.{behind_none, behind_quoted, behind_last}
use Rattle.rfc4180.proofs.behind_stretch.Goals as goal

no_last : (u : List ℕ) → slice_get u (length u - 1) ≡ None → length u ≡ 0
no_last [] e = refl
no_last (b ∷ u) e =
    let some = slice_get-get_or (b ∷ u) (length (b ∷ u) - 1) 0 (omega arith) in
    absurd (cc (some, e))

pub returns-in_default : goal.returns-in_default
returns-in_default c = behind_none c.requires (no_last c.args.stretch.now (sym c.in_default.ensures.value))

pub returns-then-eq : goal.returns-then-eq
returns-then-eq c = behind_quoted c.requires (sym (is_quotes c.args.st) ∙ sym c.eq.ensures ∙ c.if-eq.true)

pub returns : goal.returns
returns c =
    let u = c.args.stretch.now in
    let last = sym c.in-Some.ensures.value in
    let within = slice_get_within u (length u - 1) c.in-Some.last.now last in
    c.after.ensures ∙ ap (next_of Plain) (sym (get_or_from_slice_get u (length u - 1) c.in-Some.last.now 0 last))
    ∙ behind_last c.requires (λ e. omega arith) (sym (is_quotes c.args.st) ∙ sym c.eq.ensures ∙ c.if-eq.false)
