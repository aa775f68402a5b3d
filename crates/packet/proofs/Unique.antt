-- Any two answers that meet a public function's contract are equal, said of the generated contracts.
use mathlib.Core.Path.{◌≡◌, refl, ◌∙◌, sym}
use contract.Lifetimes.{Lfts}
use denote.Triple.Clauses.{Lasts, at_exit}
use denote.Triple.Entry.{Args, Res}
use Rattle.laws.specs.Unique.{Unique}
use Rattle.coding.proofs.Heard.{heard_is}
use Rattle.packet.proofs.Papers.{address_is, header_read_is, text_read_is}
use Rattle.packet.proofs.Whole.{framed_is}
use Rattle.packet.specs.contracts.address_of as address-of
use Rattle.packet.proofs.address_of.Reads as address-of-reads
use Rattle.packet.specs.contracts.framed_line as framed-line
use Rattle.packet.proofs.framed_line.Reads as framed-line-reads
use Rattle.packet.specs.contracts.header_of as header_of
use Rattle.packet.proofs.header_of.Reads as header-of-reads
use Rattle.packet.specs.contracts.is_mended as is-mended
use Rattle.packet.proofs.is_mended.Reads as is-mended-reads
use Rattle.packet.specs.contracts.message_at as message-at
use Rattle.packet.proofs.message_at.Reads as message-at-reads
use Rattle.packet.specs.contracts.packet_of as packet-of
use Rattle.packet.proofs.packet_of.Reads as packet-of-reads
use Rattle.packet.specs.contracts.text_or_zeros as or-zeros
use Rattle.packet.proofs.text_or_zeros.Reads as or-zeros-reads
use Rattle.packet.specs.contracts.text_of as text_of
use Rattle.packet.proofs.text_of.Reads as text-of-reads
use Rattle.packet.specs.contracts.writing.address_bytes as address-bytes
use Rattle.packet.proofs.writing.address_bytes.Reads as address-bytes-reads
use Rattle.packet.specs.contracts.writing.data_line as data-line
use Rattle.packet.proofs.writing.data_line.Reads as data-line-reads
use Rattle.packet.specs.contracts.writing.header_bytes as header-bytes
use Rattle.packet.proofs.writing.header_bytes.Reads as header-bytes-reads
use Rattle.packet.specs.contracts.writing.header_packet as header-packet
use Rattle.packet.proofs.writing.header_packet.Reads as header-packet-reads
use Rattle.packet.specs.contracts.writing.row_packet as row-packet
use Rattle.packet.proofs.writing.row_packet.Reads as row-packet-reads

pub message_at_unique : Unique message-at.ended message-at-reads.Post
message_at_unique κs a r r' ws ws' p q = (heard_is r r' (p ∙ sym q), refl)

pub is_mended_unique : Unique is-mended.ended is-mended-reads.Post
is_mended_unique κs a r r' ws ws' p q = (p ∙ sym q, refl)

pub framed_line_unique : Unique framed-line.ended framed-line-reads.Post
framed_line_unique κs a r r' ws ws' p q = (framed_is r r' (p ∙ sym q), refl)

-- of a part that is lent on the contract fixes the bytes; where they lie in memory is no part of the answer
pub packet_of_unique : (κs : Lfts (packet-of.ended).signature.lifetimes) (a : Args (packet-of.ended).signature κs) (r r' : Res (packet-of.ended).signature κs)
    (ws ws' : Lasts packet-of.ended κs a)
    → packet-of-reads.Post κs a r (at_exit packet-of.ended κs a ws) → packet-of-reads.Post κs a r' (at_exit packet-of.ended κs a ws')
    → (r.now ≡ r'.now) × (ws ≡ ws')
packet_of_unique κs a r r' ws ws' p q = (p ∙ sym q, refl)

pub address_of_unique : Unique address-of.ended address-of-reads.Post
address_of_unique κs a r r' ws ws' p q = (address_is r r' (p ∙ sym q), refl)

pub header_of_unique : Unique header_of.ended header-of-reads.Post
header_of_unique κs a r r' ws ws' p q = (header_read_is r r' (p ∙ sym q), refl)

pub text_of_unique : Unique text_of.ended text-of-reads.Post
text_of_unique κs a r r' ws ws' p q = (text_read_is r r' (p.0 ∙ sym q.0) (p.1 ∙ sym q.1), refl)

pub text_or_zeros_unique : Unique or-zeros.ended or-zeros-reads.Post
text_or_zeros_unique κs a r r' ws ws' p q = (p ∙ sym q, refl)

-- ---- what is sent

pub address_bytes_unique : Unique address-bytes.ended address-bytes-reads.Post
address_bytes_unique κs a r r' ws ws' p q = (p ∙ sym q, refl)

pub data_line_unique : Unique data-line.ended data-line-reads.Post
data_line_unique κs a r r' ws ws' p q = (p ∙ sym q, refl)

pub header_bytes_unique : Unique header-bytes.ended header-bytes-reads.Post
header_bytes_unique κs a r r' ws ws' p q = (p ∙ sym q, refl)

pub header_packet_unique : Unique header-packet.ended header-packet-reads.Post
header_packet_unique κs a r r' ws ws' p q = (p ∙ sym q, refl)

pub row_packet_unique : Unique row-packet.ended row-packet-reads.Post
row_packet_unique κs a r r' ws ws' p q = (p ∙ sym q, refl)
