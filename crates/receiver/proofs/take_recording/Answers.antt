use borrow.Author.Tests.{eq-eqb, eqb-true}
use mathlib.Core.Path.{sym, ◌∙◌}
use Rattle.receiver.proofs.Asked.{fine}
use Rattle.receiver.proofs.Playing.{plays-nothing}
use Rattle.receiver.proofs.Turns.{recording-refused}
use Rattle.receiver.proofs.take_recording.Goals as goal

pub returns-then-is_empty : goal.returns-then-is_empty
returns-then-is_empty c =
    plays-nothing c.args.receiver c.args.recording.now c.args.«record».now (eqb-true _ _ (sym c.is_empty.ensures ∙ c.if-is_empty.true))

pub play-ended-requires : goal.play-ended-requires
play-ended-requires c =
    let is = fine c.args.receiver c.args.«record».now (sym c.asked.ensures ∙ c.in_default.is) in
    record { right = is.0; room = is.1 }

pub returns-in-Err : goal.returns-in-Err
returns-in-Err c =
    recording-refused c.args.receiver c.args.recording.now c.args.«record».now
    (λ e. let z = sym (eq-eqb _ 0 e) ∙ (sym c.is_empty.ensures ∙ c.if-is_empty.false) in absurd (cc)) _ (sym c.asked.ensures ∙ c.in-Err.is)
