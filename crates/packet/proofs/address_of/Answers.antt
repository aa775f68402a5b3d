use borrow.Author.Tests.{eq-eqb, ne_eqb}
use Rattle.packet.specs.Addresses.{address_of}
use Rattle.packet.specs.Lines.{packet_byte}
use Rattle.coding.proofs.Heard.{heard_law, small_heard}
use Rattle.packet.proofs.address_of.Goals as goal

pub shown_by-requires : goal.shown_by-requires
shown_by-requires c = (
  small_heard _ _ (heard_law _ _ c.message_at.ensures),
  small_heard _ _ (heard_law _ _ c.message_at-then-packet-eq-PACKET_LENGTH.ensures),
)

pub returns-then-packet-eq-PACKET_LENGTH : goal.returns-then-packet-eq-PACKET_LENGTH
unfolding address_of packet_byte
returns-then-packet-eq-PACKET_LENGTH c =
    let one = heard_law _ _ c.message_at.ensures in
    let two = heard_law _ _ c.message_at-then-packet-eq-PACKET_LENGTH.ensures in
    rw (c.shown_by.ensures, one, two, eq-eqb _ _ c.if-packet-eq-PACKET_LENGTH.true)

pub returns-else-packet-eq-PACKET_LENGTH : goal.returns-else-packet-eq-PACKET_LENGTH
unfolding address_of packet_byte
returns-else-packet-eq-PACKET_LENGTH c = rw (ne_eqb _ _ c.if-packet-eq-PACKET_LENGTH.false)
