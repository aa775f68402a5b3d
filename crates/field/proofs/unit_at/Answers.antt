-- `field::unit_at` meets its contract: by what `entry` promises of the place asked and `unit_here` of the place behind it.
use mathlib.Core.Path.{refl, sym, ◌∙◌}
use Rattle.std.proofs.lemmas.Result.{err_from_is_err_and}
use Rattle.field.specs.Field.{start, unit_from, any_unit_paper}
use Rattle.field.specs.Private.{entry_told}
use Rattle.field.proofs.Units.{begins, unit_from_law}
use Rattle.field.proofs.Steps.{told_place, told_refusal}
use Rattle.field.proofs.unit_at.Goals as goal

pub returns-in_err-first : goal.returns-in_err-first
unfolding unit_from any_unit_paper entry_told
returns-in_err-first c =
    let error = err_from_is_err_and c.from_residual.result c.from_residual.ensures.1 in
    rw (error.1, error.2) (told_refusal (unit_from _) (λ number. refl) _ c.in_err-first.ensures ∙ unit_from_law _ _ refl)

pub unit_here-requires : goal.unit_here-requires
unfolding entry_told
unit_here-requires c =
    (begins _ _ _ (told_place _ c.in_ok-first.ensures)).within

pub returns : goal.returns
unfolding unit_from entry_told
returns c =
    c.unit_here.ensures ∙ unit_from_law _ _ (sym (told_place (start _ _) c.in_ok-first.ensures))
