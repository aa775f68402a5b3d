use mathlib.Core.Path.{ap, sym, subst}
use Rattle.receiver.specs.Mended.{summed}
use Rattle.receiver.specs.declared.Mended.{Mended}
use Rattle.receiver.proofs.MendedBytes.{Within, brought_within}
use borrow.Author.Rules.{rules}
use Rattle.receiver.proofs.mending.with_line.Goals as goal
use Rattle.receiver.proofs.mending.with_line.Goals.{After-brought_by-more}

-- what the line adds is little enough
module _ (c : After-brought_by-more) where
  within : Within c.brought_by-more.result c.args.mended
  within = subst (λ (more : Mended). Within more c.args.mended) (sym c.brought_by-more.ensures) (brought_within c.args.kind c.args.mended)

pub overflow_add-result : goal.overflow_add-result
overflow_add-result c =
    let more = within (goal.at.overflow_add-result c).After-brought_by-more in
    let room = c.requires in
    search rules

pub overflow_add-result-2 : goal.overflow_add-result-2
overflow_add-result-2 c =
    let more = within (goal.at.overflow_add-result-2 c).After-brought_by-more in
    let room = c.requires in
    search rules

pub overflow_add-result-3 : goal.overflow_add-result-3
overflow_add-result-3 c =
    let more = within (goal.at.overflow_add-result-3 c).After-brought_by-more in
    let room = c.requires in
    search rules

pub returns : goal.returns
unfolding summed
returns c =
    ap (summed c.args.so) c.brought_by-more.ensures
