use mathlib.Core.Path.{◌∙◌, sym}
use borrow.Author.Tests.{eq-eqb, ne_eqb}
use Rattle.packet.specs.Lines.{framed, framed_paper}
use Rattle.packet.proofs.framed_line.Goals as goal

pub returns-then-line-ne-LINE_LENGTH : goal.returns-then-line-ne-LINE_LENGTH
unfolding framed framed_paper
returns-then-line-ne-LINE_LENGTH c = rw (ne_eqb _ _ c.if-line-ne-LINE_LENGTH.true)

pub returns-then-framing_passes : goal.returns-then-framing_passes
unfolding framed framed_paper
returns-then-framing_passes c = rw (eq-eqb _ _ c.if-line-ne-LINE_LENGTH.false, sym c.framing_passes.ensures ∙ c.if-framing_passes.true)

pub returns-else-framing_passes : goal.returns-else-framing_passes
unfolding framed framed_paper
returns-else-framing_passes c = rw (eq-eqb _ _ c.if-line-ne-LINE_LENGTH.false, sym c.framing_passes.ensures ∙ c.if-framing_passes.false)
