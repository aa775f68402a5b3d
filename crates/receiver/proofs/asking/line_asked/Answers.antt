use mathlib.Core.Path.{sym, ap, ◌∙◌}
use Rattle.packet.proofs.Whole.{framed_is}
use Rattle.receiver.specs.Private.{asked_by, line_asked, refusal_of}
use Rattle.receiver.proofs.Asked.{refused_is}
use Rattle.receiver.proofs.asking.line_asked.Goals as goal

pub returns-in_err-framed_line : goal.returns-in_err-framed_line
unfolding line_asked asked_by
returns-in_err-framed_line c =
    refused_is _ (refusal_of c.in_err-framed_line.field-0.0) c.from_residual.ensures.1
    ∙ sym (ap asked_by (sym (framed_is _ _ c.framed_line.ensures) ∙ c.in_err-framed_line.was))

pub returns : goal.returns
unfolding line_asked asked_by
returns c = sym (ap asked_by (sym (framed_is _ _ c.framed_line.ensures) ∙ c.in_ok-framed_line.was))
