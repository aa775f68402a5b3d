-- `packet::message_byte` meets its contract: the Hamming byte, turned.
use mathlib.Core.Path.{ap, ◌∙◌}
use Rattle.coding.specs.Bits.{turned_byte}
use Rattle.packet.specs.Writing.{message_byte}
use Rattle.packet.proofs.writing.message_byte.Goals as goal

pub returns : goal.returns
unfolding message_byte
returns c = c.turned.ensures ∙ ap turned_byte c.sent_message.ensures
