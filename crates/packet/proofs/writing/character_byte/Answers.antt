-- `packet::character_byte` meets its contract: the byte of odd parity, turned.
use mathlib.Core.Path.{ap, ◌∙◌}
use Rattle.coding.specs.Bits.{turned_byte}
use Rattle.packet.specs.Writing.{character_byte}
use Rattle.packet.proofs.writing.character_byte.Goals as goal

pub returns : goal.returns
unfolding character_byte
returns c = c.turned.ensures ∙ ap turned_byte c.sent_character.ensures
