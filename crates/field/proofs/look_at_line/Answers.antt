-- `field::look_at_line` meets its contract: the line's test decides.
use mathlib.Core.Path.{sym, ◌∙◌}
use Rattle.field.specs.Search.{ended_paper, found_paper}
use Rattle.field.specs.Private.{look_told, step_told, line_step}
use Rattle.field.proofs.look_at_line.Goals as goal

pub returns-then-not-line_passes : goal.returns-then-not-line_passes
unfolding look_told step_told line_step
returns-then-not-line_passes c = rw (sym c.line_passes.ensures ∙ c.if-not-line_passes.true, c.requires.1)

pub returns : goal.returns
unfolding look_told step_told line_step ended_paper found_paper
returns c = rw (sym c.line_passes.ensures ∙ c.if-not-line_passes.false, c.requires.1)
