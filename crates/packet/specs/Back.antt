-- Document 02, request 2: reading what was written gives it back, for every header and every address. What is too large for its bits reads back as its low bits.
-- The law is a type, and its proof stands in proofs/.
use Rattle.std.specs.Prelude.{List, ◌++◌, map, ◌≡◌, ℕ, ◌-◌, ◌%◌, length, Ok}
use Rattle.std.proofs.Math.Option.{Option, some}
use Rattle.coding.specs.Bits.{turned_byte}
use Rattle.coding.specs.Characters.{character}
use Rattle.coding.specs.Hamming.{message}
use Rattle.grid.specs.Grid.{columns}
use Rattle.packet.specs.Addresses.{address_of, magazine_of}
use Rattle.packet.specs.Headers.{header_of}
use Rattle.packet.specs.Lines.{packet_length, packet_of}
use Rattle.packet.specs.Texts.{header_column, text_of}
use Rattle.packet.specs.Writing.{address_bytes, character_byte, data_line, header_bytes, message_byte, row_packet}
use Rattle.packet.specs.declared.Address.TheVariants.{Whole}
use Rattle.packet.specs.declared.Header.{Header}

-- what of a header is sent: each part in its bits
unfoldable pub in_bits : Header → Header
in_bits header =
    record {
      tens = header.tens % 16;
      units = header.units % 16;
      hours_tens = header.hours_tens % 4;
      hours_units = header.hours_units % 16;
      minutes_tens = header.minutes_tens % 8;
      minutes_units = header.minutes_units % 16;
      control = header.control % 2048;
    }

-- an address and a header read back whatever follows them in the packet
pub record ReadsBack : Type 0 where
  pub messages : (m : ℕ) → message (turned_byte (message_byte m)) ≡ some (m % 16)
  pub characters : (code : ℕ) → character (turned_byte (character_byte code)) ≡ some (code % 128)
  pub addresses : (magazine row : ℕ) (rest : List ℕ) → length rest ≡ columns → address_of (address_bytes magazine row ++ rest) ≡ Ok (Whole (magazine_of magazine) (row % 32))
  pub headers : (magazine : ℕ) (header : Header) (rest : List ℕ) → length rest ≡ columns - header_column
      → header_of (header_bytes magazine header ++ rest) ≡ Ok (in_bits header)
  pub texts : (magazine row : ℕ) (codes : List ℕ) → length codes ≡ columns
      → map character (text_of (row_packet magazine row codes)).bytes ≡ map {B = Option ℕ} (λ code. some (code % 128)) codes
  pub lines : (packet : List ℕ) → length packet ≡ packet_length → packet_of (data_line packet) ≡ packet
