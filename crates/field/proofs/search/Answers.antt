-- `field::search` meets its contract. The loop's invariant: the walk from where the loop stands ends as the whole search does.
-- The measure is what is left of the field.
use mathlib.Core.Path.{◌≡◌, refl, sym, ◌∙◌, ap}
use native.Mathlib.Omega.{arith}
use Rattle.std.proofs.lemmas.Result.{err_from_is_err_and}
use Rattle.field.specs.Search.{goes_on, step, ended_paper, searched_from, found_paper}
use Rattle.field.specs.Private.{entry_told, look_told}
use Rattle.field.proofs.Units.{begins}
use Rattle.field.proofs.Steps.{told_place, told_refusal}
use Rattle.field.proofs.Walk.{further, ends-after, begins-after, told_goes, told_ends, search_from}
use Rattle.field.proofs.search.Goals as goal
use Rattle.field.proofs.search.Goals.{In-Continue}

-- what the step promised, where it goes on
onward-is : (c : In-Continue)
    → let field = c.args.field.now in
    step field c.loop-answer.at ≡ goes_on c.in-Continue.after
unfolding look_told
onward-is c = told_goes _ _ _ c.in-Continue.ensures

pub returns-in_err-at : goal.returns-in_err-at
unfolding searched_from found_paper entry_told
returns-in_err-at c =
    let error = err_from_is_err_and c.from_residual.result c.from_residual.ensures.1 in
    rw (error.1, error.2) (told_refusal (searched_from _) (λ number. refl) _ c.in_err-at.ensures ∙ search_from _ _ refl)

pub loop-answer-init : goal.loop-answer-init
unfolding searched_from entry_told
loop-answer-init c =
    let on = told_place _ c.in_ok-at.ensures in
    (search_from _ _ (sym on), begins _ _ _ on)

pub look_at-requires : goal.look_at-requires
look_at-requires c = (c.loop-answer.invariant.1.within, c.loop-answer.invariant.1.identified)

pub loop-answer-smaller : goal.loop-answer-smaller
loop-answer-smaller c = omega (arith, further _ _ _ (onward-is (goal.at.loop-answer-smaller c).In-Continue))

pub loop-answer-preserved : goal.loop-answer-preserved
loop-answer-preserved c =
    let (same, begin) = c.loop-answer.invariant in
    let onward = onward-is (goal.at.loop-answer-preserved c).In-Continue in
    (ap (ended_paper _) (ends-after _ _ begin onward) ∙ same, begins-after _ _ begin onward)

pub returns : goal.returns
unfolding look_told
returns c =
    let (same, begin) = c.loop-answer.invariant in
    told_ends _ _ _ begin c.in-Break.ensures ∙ same
