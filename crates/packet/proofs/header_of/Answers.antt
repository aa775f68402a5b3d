use borrow.Author.Tests.{eq-eqb, ne_eqb}
use Rattle.coding.specs.Heard.{heard}
use Rattle.packet.specs.Headers.{header_from, header_of, header_or, header_paper}
use Rattle.packet.proofs.header_of.Goals as goal

pub returns-then-packet-ne-PACKET_LENGTH : goal.returns-then-packet-ne-PACKET_LENGTH
unfolding header_of header_paper
returns-then-packet-ne-PACKET_LENGTH c = rw (ne_eqb _ _ c.if-packet-ne-PACKET_LENGTH.true)

pub returns-in_default : goal.returns-in_default
unfolding header_of header_paper header_or heard
returns-in_default c =
    rw (eq-eqb _ _ c.if-packet-ne-PACKET_LENGTH.false, ← c.header_messages.ensures, c.in_default.is)

pub returns : goal.returns
unfolding header_of header_paper header_or header_from heard
returns c =
    rw (c.control_of.ensures, eq-eqb _ _ c.if-packet-ne-PACKET_LENGTH.false, ← c.header_messages.ensures, c.in-Some.is)
