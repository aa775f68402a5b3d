-- Document 02, request 3: how many of a line's examined Hamming bytes were corrected, or mended; and how many over some lines.
use Rattle.std.specs.Prelude.{Bool, cond, ◌||◌, List, ◌++◌, ℕ, ◌+◌, eqb, get_or}
use Rattle.laws.specs.Paper.{Paper}
use Rattle.coding.specs.Hamming.{how_many_corrected}
use Rattle.packet.specs.Addresses.{address_of}
use Rattle.packet.specs.Headers.{control_bytes}
use Rattle.packet.specs.Lines.{packet_bytes}
use Rattle.receiver.specs.Kinds.{seen}
use Rattle.receiver.specs.declared.Mended.{Mended}
use Rattle.receiver.specs.declared.Receiver.{Receiver}
use Rattle.receiver.specs.declared.kinds.Seen.{Seen}
use Rattle.receiver.specs.declared.kinds.Seen.TheVariants.{Another, OurRow, OurHeader, Unsure}

-- ---- of a line

-- packet bytes 1 and 2, the address
unfoldable pub address_pair : List ℕ → List ℕ
unfolding packet_bytes
address_pair packet = packet_bytes packet 1 2

-- the bytes that are examined: the two of the address, one refused or not; and the eight control bytes where both address messages are good and the line is row 0
-- of our magazine
unfoldable pub examined : Seen → List ℕ → List ℕ
unfolding address_pair packet_bytes
examined Another packet = address_pair packet
examined (OurRow row) packet = address_pair packet
examined OurHeader packet = address_pair packet ++ control_bytes packet
examined (Unsure could_be_header) packet = address_pair packet

-- how many of them were corrected: all are counted, also past a refused one
unfoldable pub mended_in : Seen → List ℕ → ℕ
unfolding how_many_corrected examined
mended_in shows packet = how_many_corrected (examined shows packet)

unfoldable pub packet_mended : Receiver → List ℕ → ℕ
unfolding mended_in seen address_of
packet_mended receiver packet = mended_in (seen receiver.selection.magazine (address_of packet)) packet

-- ---- over some lines

-- a page's own lines are its header, of kind 2, and its rows, of kind 1. A header that closes a sending and opens the next is the next one's
unfoldable pub is_own : ℕ → Bool
is_own kind = eqb kind 1 || eqb kind 2

-- what a line of a kind adds: its mended bytes; itself, where it had one; and its mended bytes again, where it is the page's own
unfoldable pub brought : ℕ → ℕ → Mended
unfolding is_own
brought kind mended = record { bytes = mended; lines = cond (eqb mended 0) 0 1; own = cond (is_own kind) mended 0 }

-- of a line by its answer, whose first value is the kind and whose fourth is how many bytes were mended. A refused line has zeros there
unfoldable pub brought_by : Paper → Mended
unfolding brought
brought_by answer = brought (get_or answer.values 0 0) (get_or answer.values 3 0)

abbrev pub none_mended : Mended
none_mended = record { bytes = 0; lines = 0; own = 0 }

unfoldable pub summed : Mended → Mended → Mended
summed a b = record { bytes = a.bytes + b.bytes; lines = a.lines + b.lines; own = a.own + b.own }
