-- The lines of packets that were written are sent by the rules, and say what was written.
use mathlib.Core.Path.{◌≡◌, ◌∙◌, ap, subst, sym}
use mathlib.Core.Bool.{true}
use mathlib.Core.List.{List, ◌++◌, map}
use Prim.Native.Nat.{ℕ, ◌-◌, ◌/◌, ◌%◌, ◌≤◌, ◌<◌}
use native.Mathlib.Omega.{arith}
use borrow.Author.Tests.{eq-eqb, ne_eqb}
use lib.Dec.{T, eqb, leb, lt→ltb}
use lib.ListN.{length, get_or, drop, length-map}
use Rattle.laws.specs.Every.{every}
use Rattle.laws.proofs.Keeps.{all_five, both, either, every_append, every_mapped, passes}
use Rattle.laws.proofs.Maps.{mapped_twice}
use Rattle.coding.specs.Bits.{framing_code, turned_byte}
use Rattle.coding.specs.Hamming.{message_bits, sent_message}
use Rattle.coding.proofs.Turning.{turned_small}
use Rattle.coding.proofs.Written.{character_odd, message_exact, message_held}
use Rattle.grid.specs.Grid.{columns, last_row}
use Rattle.packet.specs.Addresses.{magazine_of, row_of}
use Rattle.packet.specs.Back.{in_bits}
use Rattle.packet.specs.Headers.{control_bytes, header_from}
use Rattle.packet.specs.Lines.{framing_place, line_length, packet_byte, packet_bytes}
use Rattle.packet.specs.Sent.{exact_byte, is_byte, line_packet, odd_byte, row_by_rules, sent_by_rules}
use Rattle.packet.specs.Sent.{sent_first, sent_header, sent_magazine, sent_row, sent_second}
use Rattle.packet.specs.Texts.{column_bytes, header_column, header_text_bytes}
use Rattle.packet.specs.Writing.{address_bytes, address_messages, character_byte, control_messages, data_line, header_packet, message_byte, row_packet}
use Rattle.packet.specs.declared.Header.{Header}
use Rattle.packet.proofs.Back.{addressed-length, bits_back, control-bytes, cut, first_message, header-from, magazine_back}
use Rattle.packet.proofs.Back.{messages_turned, row_back, sent_as, sent_for}
use Rattle.packet.proofs.Packets.{header_columns, header-packet-length, line_length_law, line-packet, row-columns, text_length}

-- ---- bytes

-- what stands in the packet is a byte, turned it is exact or odd
message_is_byte : (m : ℕ) → T (is_byte (message_byte m))
unfolding is_byte message_byte
message_is_byte m = lt→ltb (turned_byte (sent_message (m % 16))) 256 (turned_small (sent_message (m % 16)))

character_is_byte : (code : ℕ) → T (is_byte (character_byte code))
unfolding is_byte character_byte
character_is_byte code = lt→ltb (character_byte code) 256 (turned_small _)

exact_sent : (m : ℕ) → T (exact_byte (sent_as m))
unfolding exact_byte
exact_sent m = message_exact (m % 16) (omega arith)

odd_sent : (code : ℕ) → T (odd_byte (sent_for code))
unfolding odd_byte
odd_sent code = character_odd (code % 128) (omega arith)

-- ---- any packet that starts with an address

module _ (magazine row : ℕ) (rest : List ℕ) (whole : length rest ≡ columns) where
  abbrev packet : List ℕ
  packet = address_bytes magazine row ++ rest

  abbrev line : List ℕ
  line = data_line packet

  packet-there : line_packet line ≡ packet
  packet-there = line-packet packet (addressed-length magazine row rest whole)

  -- what its address says
  first-sent : sent_first line ≡ first_message magazine row % 16
  unfolding sent_first packet_byte address_bytes
  first-sent = ap (λ (p : List ℕ). message_bits (packet_byte p 1)) packet-there ∙ bits_back (first_message magazine row)

  second-sent : sent_second line ≡ row / 2 % 16
  unfolding sent_second packet_byte address_bytes
  second-sent = ap (λ (p : List ℕ). message_bits (packet_byte p 2)) packet-there ∙ bits_back (row / 2)

  pub magazine-sent : sent_magazine line ≡ magazine_of magazine
  unfolding sent_magazine
  magazine-sent = ap magazine_of first-sent ∙ magazine_back magazine row

  pub row-sent : sent_row line ≡ row % 32
  unfolding sent_row
  row-sent = (λ i. row_of (first-sent i) (second-sent i)) ∙ row_back magazine row

  -- it is sent by the rules where its other bytes are
  address-exact : T (every exact_byte (packet_bytes packet 1 2))
  unfolding packet_bytes address_bytes
  address-exact =
      subst (λ (bytes : List ℕ). T (every exact_byte bytes)) (sym (messages_turned (address_messages magazine row)))
      (every_mapped exact_byte sent_as exact_sent (address_messages magazine row))

  all-bytes : T (every is_byte rest) → T (every is_byte line)
  unfolding every is_byte data_line address_bytes
  all-bytes bytes =
      every_append is_byte (address_bytes magazine row) rest (every_mapped is_byte message_byte message_is_byte (address_messages magazine row)) bytes

  framing-sent : T (eqb (get_or line framing_place 0) framing_code)
  unfolding data_line
  framing-sent = tt

  pub by-rules : T (every is_byte rest) → T (row_by_rules (row % 32) packet) → T (sent_by_rules line)
  unfolding sent_by_rules
  by-rules bytes others =
      let long = passes (eqb (length line) line_length) (eq-eqb _ _ (line_length_law packet (addressed-length magazine row rest whole))) in
      let address = subst (λ (p : List ℕ). T (every exact_byte (packet_bytes p 1 2))) (sym packet-there) address-exact in
      let other : T (row_by_rules (sent_row line) (line_packet line)) = rw (row-sent, packet-there) others in
      all_five (eqb (length line) line_length) (every is_byte line) (eqb (get_or line framing_place 0) framing_code)
      (every exact_byte (packet_bytes (line_packet line) 1 2)) (row_by_rules (sent_row line) (line_packet line)) long (all-bytes bytes) framing-sent address other

-- ---- a row

module _ (magazine row : ℕ) (characters : List ℕ) (whole : length characters ≡ columns) where
  abbrev row_line : List ℕ
  row_line = data_line (row_packet magazine row characters)

  abbrev behind : length (map character_byte characters) ≡ columns
  behind = length-map characters character_byte ∙ whole

  pub row-magazine-sent : sent_magazine row_line ≡ magazine_of magazine
  unfolding row_packet
  row-magazine-sent = magazine-sent magazine row (map character_byte characters) behind

  pub row-row-sent : sent_row row_line ≡ row % 32
  unfolding row_packet
  row-row-sent = row-sent magazine row (map character_byte characters) behind

  columns-odd : T (every odd_byte (column_bytes (row_packet magazine row characters)))
  columns-odd =
      subst (λ (bytes : List ℕ). T (every odd_byte bytes)) (sym (row-columns magazine row characters whole)) (every_mapped odd_byte sent_for odd_sent characters)

  row-there : (n : ℕ) → 1 ≤ n → T (row_by_rules n (row_packet magazine row characters))
  unfolding row_by_rules
  row-there n low =
      rw (ne_eqb n 0 (λ e. omega arith)) (either T (leb n last_row) (every odd_byte (column_bytes (row_packet magazine row characters))) true columns-odd tt)

  pub row-by-rules : 1 ≤ row → row < 32 → T (sent_by_rules row_line)
  unfolding row_packet
  row-by-rules low small =
      by-rules magazine row (map character_byte characters) behind (every_mapped is_byte character_byte character_is_byte characters)
      (row-there (row % 32) (omega arith))

-- ---- a header

module _ (magazine : ℕ) (header : Header) (characters : List ℕ) (whole : length characters ≡ columns) where
  abbrev header_line : List ℕ
  header_line = data_line (header_packet magazine header characters)

  abbrev text : List ℕ
  text = map character_byte (drop header_column characters)

  text-there : length text ≡ columns - header_column
  text-there = length-map (drop header_column characters) character_byte ∙ text_length characters whole

  -- what follows the address
  abbrev header_rest : List ℕ
  header_rest = map message_byte (control_messages header) ++ text

  header-rest : length header_rest ≡ columns
  unfolding control_messages
  header-rest = omega (arith, text-there)

  pub header-magazine-sent : sent_magazine header_line ≡ magazine_of magazine
  unfolding header_packet
  header-magazine-sent = magazine-sent magazine 0 header_rest header-rest

  pub header-row-sent : sent_row header_line ≡ 0
  unfolding header_packet
  header-row-sent = row-sent magazine 0 header_rest header-rest

  header-packet-there : line_packet header_line ≡ header_packet magazine header characters
  header-packet-there = line-packet (header_packet magazine header characters) (header-packet-length magazine header characters whole)

  control-there : control_bytes (header_packet magazine header characters) ≡ map sent_as (control_messages header)
  unfolding header_packet
  control-there = control-bytes magazine header text text-there

  pub header-sent : sent_header header_line ≡ in_bits header
  unfolding sent_header
  header-sent =
      ap (λ (p : List ℕ). header_from (map message_bits (control_bytes p))) header-packet-there
      ∙ (ap (λ (bytes : List ℕ). header_from (map message_bits bytes)) control-there
      ∙ (ap header_from (mapped_twice sent_as message_bits cut (λ m. message_held (m % 16) (omega arith)) (control_messages header)) ∙ header-from header))

  header-there : T (row_by_rules 0 (header_packet magazine header characters))
  unfolding row_by_rules
  header-there =
      both (every exact_byte (control_bytes (header_packet magazine header characters))) (every odd_byte (header_text_bytes (header_packet magazine header characters)))
      (subst (λ (bytes : List ℕ). T (every exact_byte bytes)) (sym control-there) (every_mapped exact_byte sent_as exact_sent (control_messages header)))
      (subst (λ (bytes : List ℕ). T (every odd_byte bytes)) (sym (header_columns magazine header characters whole))
      (every_mapped odd_byte sent_for odd_sent (drop header_column characters)))

  pub header-by-rules : T (sent_by_rules header_line)
  unfolding header_packet
  header-by-rules =
      by-rules magazine 0 header_rest header-rest
      (every_append is_byte (map message_byte (control_messages header)) text
      (every_mapped is_byte message_byte message_is_byte (control_messages header))
      (every_mapped is_byte character_byte character_is_byte (drop header_column characters)))
      header-there
