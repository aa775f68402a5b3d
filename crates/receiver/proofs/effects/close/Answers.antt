use mathlib.Core.Path.{sym, ◌∙◌}
use lib.Dec.{T}
use Rattle.receiver.specs.Effects.{closing_word, held}
use Rattle.receiver.proofs.Closings.{lent-shut}
use Rattle.receiver.proofs.Doing.{ready_lawful}
use Rattle.receiver.proofs.Writes.{closing-writes-the-page}
use Rattle.receiver.proofs.effects.close.Goals as goal

pub returns-then-not-receiver : goal.returns-then-not-receiver
unfolding closing_word
returns-then-not-receiver c =
    (c.closing_word-closing.ensures, sym (lent-shut c.args.receiver.now c.args.«record».now c.if-not-receiver.true))

pub returns : goal.returns
unfolding closing_word held
returns c =
    let receiver = c.args.receiver.now in
    let opened : T receiver.«open» = rw c.if-not-receiver.false tt in
    let wrote = closing-writes-the-page receiver (ready_lawful c.requires) opened c.args.«record».now c.requires.room in
    (c.closing_word-closing.ensures, c.write_parts.ensures.record_after ∙ sym wrote)
