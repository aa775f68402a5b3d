-- Packets and lines that were written, read back: their address, header and characters, and the packet of a line.
use mathlib.Core.Path.{◌≡◌, refl, ◌∙◌, ap}
use mathlib.Core.List.{List, ◌++◌, map}
use mathlib.Core.Option.{Option, some}
use Prim.Native.Nat.{ℕ, ◌-◌, ◌%◌}
use native.Mathlib.Omega.{arith}
use borrow.Author.Tests.{eq-eqb}
use lib.ListN.{length, take, drop, length-drop, length-map}
use lib.Seq.{take_all}
use Rattle.std.specs.Prelude.{Ok}
use Rattle.laws.proofs.Maps.{mapped_twice}
use Rattle.coding.specs.Bits.{turned_byte}
use Rattle.coding.specs.Characters.{character}
use Rattle.coding.proofs.Characters as coded
use Rattle.grid.specs.Grid.{columns}
use Rattle.packet.specs.Addresses.{address_of, magazine_of}
use Rattle.packet.specs.Back.{ReadsBack, in_bits}
use Rattle.packet.specs.Headers.{header_of}
use Rattle.packet.specs.Lines.{framed, line_length, packet_bytes, packet_length, packet_of, packet_part}
use Rattle.packet.specs.Sent.{line_packet}
use Rattle.packet.specs.Texts.{Text, column_bytes, header_column, header_text_bytes, text_of}
use Rattle.packet.specs.Writing.{character_byte, control_messages, data_line, header_bytes, header_packet, message_byte, row_packet}
use Rattle.packet.specs.declared.Address.TheVariants.{Whole}
use Rattle.packet.specs.declared.Header.{Header}
use Rattle.packet.proofs.Back.{address_back, addressed-length, character_back, characters_turned, headed-length, header_back, message_back, sent_for}
use Rattle.packet.proofs.Whole.{whole_text}

-- ---- the packets

-- as many characters as there is room for
all_turned : (n : ℕ) (codes : List ℕ) → length codes ≡ n → map turned_byte (take n (map character_byte codes)) ≡ map sent_for codes
all_turned n codes e =
    ap (map turned_byte) (take_all n (map character_byte codes) (omega (arith, length-map codes character_byte))) ∙ characters_turned codes

module _ (magazine row : ℕ) (characters : List ℕ) (whole : length characters ≡ columns) where
  pub row-packet-length : length (row_packet magazine row characters) ≡ packet_length
  unfolding row_packet
  row-packet-length = addressed-length magazine row (map character_byte characters) (length-map characters character_byte ∙ whole)

  pub row-address : address_of (row_packet magazine row characters) ≡ Ok (Whole (magazine_of magazine) (row % 32))
  unfolding row_packet
  row-address = address_back magazine row (map character_byte characters) (length-map characters character_byte ∙ whole)

  pub row-columns : column_bytes (row_packet magazine row characters) ≡ map sent_for characters
  unfolding packet_bytes row_packet
  row-columns = all_turned columns characters whole

-- the characters of a header
pub text_length : (characters : List ℕ) → length characters ≡ columns → length (drop header_column characters) ≡ columns - header_column
text_length characters whole = length-drop header_column characters ∙ ap (λ (n : ℕ). n - header_column) whole

module _ (magazine : ℕ) (header : Header) (characters : List ℕ) (whole : length characters ≡ columns) where
  after-header : length (map character_byte (drop header_column characters)) ≡ columns - header_column
  after-header = length-map (drop header_column characters) character_byte ∙ text_length characters whole

  pub header-packet-length : length (header_packet magazine header characters) ≡ packet_length
  unfolding header_packet
  header-packet-length = headed-length magazine header (map character_byte (drop header_column characters)) after-header

  pub header-address : address_of (header_packet magazine header characters) ≡ Ok (Whole (magazine_of magazine) 0)
  unfolding header_packet header_bytes
  header-address =
      address_back magazine 0 (map message_byte (control_messages header) ++ map character_byte (drop header_column characters))
      (omega (arith, after-header))

  pub header_read : header_of (header_packet magazine header characters) ≡ Ok (in_bits header)
  unfolding header_packet
  header_read = header_back magazine header (map character_byte (drop header_column characters)) after-header

  pub header_columns : header_text_bytes (header_packet magazine header characters) ≡ map sent_for (drop header_column characters)
  unfolding packet_bytes header_packet
  header_columns = all_turned (columns - header_column) (drop header_column characters) (text_length characters whole)

  -- the same in all the columns' bytes
  pub header-text-bytes : drop header_column (column_bytes (header_packet magazine header characters)) ≡ header_text_bytes (header_packet magazine header characters)
  unfolding packet_bytes header_packet
  header-text-bytes = refl

-- ---- the line

module _ (packet : List ℕ) (whole : length packet ≡ packet_length) where
  pub line_length_law : length (data_line packet) ≡ line_length
  unfolding data_line
  line_length_law = omega (arith, whole)

  pub line-framed : framed (data_line packet) ≡ Ok tt
  unfolding framed data_line
  line-framed = rw (eq-eqb _ _ line_length_law)

  pub line-packet : line_packet (data_line packet) ≡ packet
  unfolding line_packet data_line
  line-packet = take_all packet_length packet (omega (arith, whole))

  pub packet-back : packet_of (data_line packet) ≡ packet
  unfolding packet_of packet_part line_packet
  packet-back = rw line-framed line-packet

-- ---- all of it

texts_back : (magazine row : ℕ) (codes : List ℕ) → length codes ≡ columns
    → map character (text_of (row_packet magazine row codes)).bytes ≡ map {B = Option ℕ} (λ code. some (code % 128)) codes
texts_back magazine row codes whole =
    ap (λ (t : Text). map character t.bytes) (whole_text (row_packet magazine row codes) (row-packet-length magazine row codes whole))
    ∙ (ap (map character) (row-columns magazine row codes whole)
    ∙ mapped_twice sent_for character (λ code. some (code % 128)) (λ code. coded.inverts (code % 128) (omega arith)) codes)

pub reads_back : ReadsBack
reads_back =
    record {
      messages = message_back;
      characters = character_back;
      addresses = address_back;
      headers = header_back;
      texts = texts_back;
      lines = packet-back;
    }
