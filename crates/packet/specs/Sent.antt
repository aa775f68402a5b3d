-- Document 01, "Addresses and headers": "sent by the rules" means 45 bytes, framing and Hamming bytes exact, character bytes odd. And the damage of a
-- received line against the line that was sent, byte by byte. Which bytes are which goes by the line as sent; the run-in is free, and so is what
-- follows the address in rows 25 to 31, by document 02, request 5.
use Rattle.std.specs.Prelude.{Bool, true, cond, ◌&&◌, ◌||◌, List, map, ℕ, ◌%◌, eqb, leb, ltb, length, get_or, take, drop}
use Rattle.std.specs.Int.Count.{ones}
use Rattle.laws.specs.Every.{every, every_pair}
use Rattle.coding.specs.Bits.{framing_code, odd, distance}
use Rattle.coding.specs.Hamming.{tests_of, exact, message_bits}
use Rattle.packet.specs.Addresses.{magazine_of, row_of}
use Rattle.packet.specs.Headers.{control_bytes, header_from}
use Rattle.packet.specs.Lines.{line_length, packet_length, packet_place, framing_place, packet_byte, packet_bytes}
use Rattle.grid.specs.Grid.{last_row}
use Rattle.packet.specs.Texts.{column_bytes, header_text_bytes}
use Rattle.packet.specs.declared.Header.{Header}

-- the packet of a line, whatever its framing code
unfoldable pub line_packet : List ℕ → List ℕ
line_packet line = take packet_length (drop packet_place line)

-- ---- what a sent line says

unfoldable pub sent_first : List ℕ → ℕ
unfolding message_bits packet_byte line_packet
sent_first line = message_bits (packet_byte (line_packet line) 1)

unfoldable pub sent_second : List ℕ → ℕ
unfolding message_bits packet_byte line_packet
sent_second line = message_bits (packet_byte (line_packet line) 2)

unfoldable pub sent_magazine : List ℕ → ℕ
unfolding magazine_of sent_first
sent_magazine line = magazine_of (sent_first line)

unfoldable pub sent_row : List ℕ → ℕ
unfolding row_of sent_first sent_second
sent_row line = row_of (sent_first line) (sent_second line)

-- the numbers of a row 0
unfoldable pub sent_header : List ℕ → Header
unfolding header_from message_bits packet_bytes line_packet
sent_header line = header_from (map message_bits (control_bytes (line_packet line)))

-- the characters of the columns
unfoldable pub sent_text : List ℕ → List ℕ
unfolding packet_bytes line_packet
sent_text line = map (λ byte. byte % 128) (column_bytes (line_packet line))

-- ---- sent by the rules

unfoldable pub is_byte : ℕ → Bool
is_byte n = ltb n 256

unfoldable pub exact_byte : ℕ → Bool
unfolding exact tests_of
exact_byte byte = exact (tests_of byte)

unfoldable pub odd_byte : ℕ → Bool
unfolding odd ones
odd_byte byte = odd (ones byte)

-- past the address: in row 0 eight Hamming bytes and 32 characters, in rows 1 to 24 40 characters
unfoldable pub row_by_rules : ℕ → List ℕ → Bool
unfolding every exact_byte odd_byte packet_bytes
row_by_rules row packet =
    cond (eqb row 0) (every exact_byte (control_bytes packet) && every odd_byte (header_text_bytes packet))
    (cond (leb row last_row) (every odd_byte (column_bytes packet)) true)

unfoldable pub sent_by_rules : List ℕ → Bool
unfolding every is_byte exact_byte packet_bytes line_packet row_by_rules sent_row
sent_by_rules line =
    eqb (length line) line_length
    && (every is_byte line
    && (eqb (get_or line framing_place 0) framing_code
    && (every exact_byte (packet_bytes (line_packet line) 1 2) && row_by_rules (sent_row line) (line_packet line))))

-- ---- damage

-- at most d bits differ
unfoldable pub near : ℕ → ℕ → ℕ → Bool
unfolding distance
near d sent received = leb (distance received sent) d

-- none, or an odd number of bits differ
unfoldable pub none_or_odd : ℕ → ℕ → Bool
unfolding distance odd
none_or_odd sent received = eqb (distance received sent) 0 || odd (distance received sent)

unfoldable pub row_damage : ℕ → ℕ → List ℕ → List ℕ → Bool
unfolding every_pair near none_or_odd packet_bytes
row_damage d row sent received =
    cond (eqb row 0)
    (every_pair (near d) (control_bytes sent) (control_bytes received)
    && every_pair none_or_odd (header_text_bytes sent) (header_text_bytes received))
    (cond (leb row last_row) (every_pair none_or_odd (column_bytes sent) (column_bytes received)) true)

-- at most one wrong bit in the framing code, at most d in each Hamming byte, and none or an odd number in each character byte
unfoldable pub damage : ℕ → List ℕ → List ℕ → Bool
unfolding every is_byte distance every_pair near packet_bytes line_packet row_damage sent_row
damage d sent received =
    eqb (length received) line_length
    && (every is_byte received
    && (leb (distance (get_or received framing_place 0) (get_or sent framing_place 0)) 1
    && (every_pair (near d) (packet_bytes (line_packet sent) 1 2) (packet_bytes (line_packet received) 1 2)
    && row_damage d (sent_row sent) (line_packet sent) (line_packet received))))
