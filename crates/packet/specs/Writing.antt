-- Document 02, request 2: what is read of a data-line, the other way round. The bytes as which an address, a header and a packet are sent, as they stand in
-- the line, and the line: run-in AA AA, framing E4, every other byte with right protection. A number too large for its bits goes by its low bits.
use Rattle.std.specs.Prelude.{List, [], ◌∷◌, ◌++◌, map, ℕ, ◌+◌, ◌*◌, ◌/◌, ◌%◌, drop}
use Rattle.coding.specs.Bits.{framing_code, turned_byte}
use Rattle.coding.specs.Characters.{sent_character}
use Rattle.coding.specs.Hamming.{sent_message}
use Rattle.packet.specs.Headers.{control_bit}
use Rattle.packet.specs.Texts.{header_column}
use Rattle.packet.specs.declared.Header.{Header}

-- an address is two bytes, and a header's eight messages follow it where the columns 0 to 7 of another row stand
abbrev pub address_length : ℕ
address_length = 2

abbrev pub header_length : ℕ
header_length = address_length + header_column

-- ---- a byte, as it stands in a packet

unfoldable pub message_byte : ℕ → ℕ
unfolding turned_byte sent_message
message_byte message = turned_byte (sent_message (message % 16))

unfoldable pub character_byte : ℕ → ℕ
unfolding turned_byte sent_character
character_byte code = turned_byte (sent_character (code % 128))

-- ---- the messages

-- the first is magazine (weights 1, 2, 4; 8 is sent as 0) and row weight 1, the second is row weights 2 to 16
unfoldable pub address_messages : ℕ → ℕ → List ℕ
address_messages magazine row = (magazine % 8 + 8 * (row % 2)) ∷ row / 2 ∷ []

-- page units, page tens, minutes units, minutes tens with C4, hours units, hours tens with C5 and C6, C7 to C10, C11 to C14, lowest weight first
unfoldable pub control_messages : Header → List ℕ
unfolding control_bit
control_messages header =
    header.units
    ∷ header.tens
    ∷ header.minutes_units
    ∷ (header.minutes_tens % 8 + 8 * control_bit header 4)
    ∷ header.hours_units
    ∷ (header.hours_tens % 4 + 4 * control_bit header 5 + 8 * control_bit header 6)
    ∷ (control_bit header 7 + 2 * control_bit header 8 + 4 * control_bit header 9 + 8 * control_bit header 10)
    ∷ (control_bit header 11 + 2 * control_bit header 12 + 4 * control_bit header 13 + 8 * control_bit header 14)
    ∷ []

-- C4 among a header's control bits
abbrev pub c4_weight : ℕ
c4_weight = 1024

-- ---- the bytes

-- an address's two
unfoldable pub address_bytes : ℕ → ℕ → List ℕ
unfolding message_byte address_messages
address_bytes magazine row = map message_byte (address_messages magazine row)

-- a header's ten
unfoldable pub header_bytes : ℕ → Header → List ℕ
unfolding address_bytes message_byte control_messages
header_bytes magazine header = address_bytes magazine 0 ++ map message_byte (control_messages header)

-- ---- the packets

-- of a row with forty characters
unfoldable pub row_packet : ℕ → ℕ → List ℕ → List ℕ
unfolding address_bytes character_byte
row_packet magazine row characters = address_bytes magazine row ++ map character_byte characters

-- of row 0: its columns 0 to 7 are not sent
unfoldable pub header_packet : ℕ → Header → List ℕ → List ℕ
unfolding header_bytes character_byte
header_packet magazine header characters = header_bytes magazine header ++ map character_byte (drop header_column characters)

-- ---- the line

abbrev pub run_in : ℕ
run_in = 0xAA

unfoldable pub data_line : List ℕ → List ℕ
data_line packet = run_in ∷ run_in ∷ framing_code ∷ packet
