-- `packet::address_bytes` meets its contract: the bytes of its two messages.
use Rattle.laws.proofs.Tabulated.{cons_is}
use mathlib.Core.Path.{refl}
use Rattle.packet.specs.Writing.{address_bytes, address_messages}
use Rattle.packet.proofs.writing.address_bytes.Goals as goal

pub returns : goal.returns
unfolding address_bytes address_messages
returns c = cons_is c.message_byte-first.ensures (cons_is c.message_byte-second.ensures refl)
