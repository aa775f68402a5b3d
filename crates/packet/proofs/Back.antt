-- Reading what was written gives it back, each number cut to its bits: a message, a character, an address and a header.
use mathlib.Core.Path.{◌≡◌, refl, ◌∙◌, ap}
use mathlib.Core.Bool.{cond, not}
use mathlib.Core.List.{List, [], ◌∷◌, ◌++◌, map}
use mathlib.Core.Option.{some}
use Prim.Native.Nat.{ℕ, ◌+◌, ◌-◌, ◌*◌, ◌/◌, ◌%◌, ◌^◌, ◌≤◌, ◌<◌}
use native.Mathlib.Nat.{mod-eq_of_lt, mod-lt, zero-lt-suc}
use native.Mathlib.Omega.{arith}
use borrow.Author.Tests.{eq-eqb, eqb-false}
use lib.Dec.{T, eqb, eqb→eq}
use lib.ListN.{length}
use Rattle.std.specs.Prelude.{Ok}
use Rattle.laws.specs.Digits.{binary, bit}
use Rattle.laws.specs.Fields.{digits}
use Rattle.laws.proofs.Digits.{binary_digits}
use Rattle.laws.proofs.Keeps.{chosen, failed}
use Rattle.laws.proofs.Maps.{mapped_twice}
use Rattle.laws.proofs.Tabulated.{cons_is}
use Rattle.coding.specs.Bits.{turned_byte}
use Rattle.coding.specs.Characters.{character, sent_character}
use Rattle.coding.specs.Hamming.{message, message_bits, sent_message}
use Rattle.coding.proofs.Characters as characters
use Rattle.coding.proofs.Hamming as hamming
use Rattle.coding.proofs.Written.{character_small, message_held, message_small, turned_back}
use Rattle.grid.specs.Grid.{columns}
use Rattle.packet.specs.Addresses.{address_of, magazine_of, row_of}
use Rattle.packet.specs.Back.{in_bits}
use Rattle.packet.specs.Headers.{all_good, before, control_bit, control_bytes, control_of, header_from, header_messages, header_of, header_or}
use Rattle.packet.specs.Headers.{lowest_first}
use Rattle.packet.specs.Lines.{packet_byte, packet_bytes, packet_length}
use Rattle.packet.specs.Texts.{header_column}
use Rattle.packet.specs.Writing.{address_bytes, character_byte, control_messages, header_bytes, message_byte}
use Rattle.packet.specs.declared.Address.TheVariants.{Whole}
use Rattle.packet.specs.declared.Header.{Header}
use Rattle.packet.proofs.Good.{header_is}

-- ---- a byte, turned

-- the byte as which a message and a character are sent, of any number
abbrev pub sent_as : ℕ → ℕ
sent_as m = sent_message (m % 16)

abbrev pub sent_for : ℕ → ℕ
sent_for code = sent_character (code % 128)

-- turned, the byte in the packet is that one
pub turned_message : (m : ℕ) → turned_byte (message_byte m) ≡ sent_as m
unfolding message_byte
turned_message m = turned_back (sent_message (m % 16)) (message_small (m % 16) (omega arith))

pub turned_character : (code : ℕ) → turned_byte (character_byte code) ≡ sent_for code
unfolding character_byte
turned_character code = turned_back (sent_character (code % 128)) (character_small (code % 128) (omega arith))

-- and so it reads back
pub message_back : (m : ℕ) → message (turned_byte (message_byte m)) ≡ some (m % 16)
message_back m = ap message (turned_message m) ∙ hamming.inverts (m % 16) (omega arith)

pub character_back : (code : ℕ) → character (turned_byte (character_byte code)) ≡ some (code % 128)
character_back code = ap character (turned_character code) ∙ characters.inverts (code % 128) (omega arith)

pub bits_back : (m : ℕ) → message_bits (turned_byte (message_byte m)) ≡ m % 16
bits_back m = ap message_bits (turned_message m) ∙ message_held (m % 16) (omega arith)

-- and so do all of a list
pub messages_turned : (messages : List ℕ) → map turned_byte (map message_byte messages) ≡ map sent_as messages
messages_turned = mapped_twice message_byte turned_byte sent_as turned_message

pub characters_turned : (codes : List ℕ) → map turned_byte (map character_byte codes) ≡ map sent_for codes
characters_turned = mapped_twice character_byte turned_byte sent_for turned_character

-- ---- the address

-- magazine and row weight 1
abbrev pub first_message : ℕ → ℕ → ℕ
first_message magazine row = magazine % 8 + 8 * (row % 2)

pub magazine_back : (magazine row : ℕ) → magazine_of (first_message magazine row % 16) ≡ magazine_of magazine
unfolding magazine_of
magazine_back magazine row =
    ap (λ (n : ℕ). cond (eqb n 0) 8 n) (let e : first_message magazine row % 16 % 8 ≡ magazine % 8 = omega arith in e)

pub magazine_same : (magazine : ℕ) → 1 ≤ magazine → magazine ≤ 8 → magazine_of magazine ≡ magazine
unfolding magazine_of
magazine_same magazine low high = chosen {A = ℕ} (λ n. n ≡ magazine) (eqb (magazine % 8) 0) 8 (magazine % 8) eight other
  where
    eight : T (eqb (magazine % 8) 0) → 8 ≡ magazine
    eight t = omega (arith, eqb→eq (magazine % 8) 0 t)

    other : T (not (eqb (magazine % 8) 0)) → magazine % 8 ≡ magazine
    other t = omega (arith, eqb-false (magazine % 8) 0 (failed (eqb (magazine % 8) 0) t))

pub row_back : (magazine row : ℕ) → row_of (first_message magazine row % 16) (row / 2 % 16) ≡ row % 32
unfolding row_of
row_back magazine row = omega arith

-- any packet that starts with an address
module _ (magazine row : ℕ) (rest : List ℕ) (whole : length rest ≡ columns) where
  abbrev addressed : List ℕ
  addressed = address_bytes magazine row ++ rest

  pub addressed-length : length addressed ≡ packet_length
  unfolding address_bytes
  addressed-length = omega (arith, whole)

  first_back : message (packet_byte addressed 1) ≡ some (first_message magazine row % 16)
  unfolding packet_byte address_bytes
  first_back = message_back (first_message magazine row)

  second_back : message (packet_byte addressed 2) ≡ some (row / 2 % 16)
  unfolding packet_byte address_bytes
  second_back = message_back (row / 2)

  pub address_back : address_of addressed ≡ Ok (Whole (magazine_of magazine) (row % 32))
  unfolding address_of
  address_back =
      rw (eq-eqb _ _ addressed-length, first_back, second_back) (λ i. Ok (Whole (magazine_back magazine row i) (row_back magazine row i)))

  -- where they fit, as they were given
  pub address_same : 1 ≤ magazine → magazine ≤ 8 → row < 32 → address_of addressed ≡ Ok (Whole magazine row)
  address_same low high small = address_back ∙ (λ i. Ok (Whole (magazine_same magazine low high i) (mod-eq_of_lt small i)))

-- ---- the header

-- four bits in a message, lowest weight first, and one or two behind a number
lowest_first_law : (a b c d : ℕ) → a < 2 → b < 2 → c < 2 → d < 2 → lowest_first ((a + 2 * b + 4 * c + 8 * d) % 16) ≡ a ∷ b ∷ c ∷ d ∷ []
unfolding lowest_first
lowest_first_law a b c d ha hb hc hd =
    cons_is (omega arith) (cons_is (omega arith) (cons_is (omega arith) (cons_is (omega arith) refl)))

c4_there : (n a : ℕ) → a < 2 → bit ((n % 8 + 8 * a) % 16) 4 ≡ a
unfolding bit
c4_there n a h = omega arith

c5_there : (n a b : ℕ) → a < 2 → b < 2 → bit ((n % 4 + 4 * a + 8 * b) % 16) 3 ≡ a
unfolding bit
c5_there n a b h k = omega arith

c6_there : (n a b : ℕ) → a < 2 → b < 2 → bit ((n % 4 + 4 * a + 8 * b) % 16) 4 ≡ b
unfolding bit
c6_there n a b h k = omega arith

-- what of a message is sent
abbrev pub cut : ℕ → ℕ
cut m = m % 16

module _ (header : Header) where
  abbrev c : ℕ → ℕ
  c n = control_bit header n

  -- each of C4 to C14 is a bit
  is-bit : (n : ℕ) → c n < 2
  unfolding control_bit
  is-bit n = mod-lt (header.control / 2 ^ (14 - n)) (zero-lt-suc 1)

  -- together they are the number
  all-bits : binary (c 4 ∷ c 5 ∷ c 6 ∷ c 7 ∷ c 8 ∷ c 9 ∷ c 10 ∷ c 11 ∷ c 12 ∷ c 13 ∷ c 14 ∷ []) ≡ header.control % 2048
  unfolding control_bit digits
  all-bits = binary_digits 11 header.control

  -- and the four messages that hold them give it back
  control-back :
      control_of (cut (header.minutes_tens % 8 + 8 * c 4)) (cut (header.hours_tens % 4 + 4 * c 5 + 8 * c 6))
      (cut (c 7 + 2 * c 8 + 4 * c 9 + 8 * c 10)) (cut (c 11 + 2 * c 12 + 4 * c 13 + 8 * c 14))
      ≡ header.control % 2048
  unfolding control_of
  control-back =
      let low = lowest_first_law (c 7) (c 8) (c 9) (c 10) (is-bit 7) (is-bit 8) (is-bit 9) (is-bit 10) in
      let high = lowest_first_law (c 11) (c 12) (c 13) (c 14) (is-bit 11) (is-bit 12) (is-bit 13) (is-bit 14) in
      let c4 = c4_there header.minutes_tens (c 4) (is-bit 4) in
      let c5 = c5_there header.hours_tens (c 5) (c 6) (is-bit 5) (is-bit 6) in
      let c6 = c6_there header.hours_tens (c 5) (c 6) (is-bit 5) (is-bit 6) in
      (λ i. binary ((c4 i ∷ c5 i ∷ c6 i ∷ []) ++ (low i ++ high i))) ∙ all-bits

  -- as all eight give the header
  pub header-from : header_from (map cut (control_messages header)) ≡ in_bits header
  unfolding header_from control_messages in_bits
  header-from =
      λ i.
      record {
        tens = header.tens % 16;
        units = header.units % 16;
        hours_tens = hours header.hours_tens (c 5) (c 6) i;
        hours_units = header.hours_units % 16;
        minutes_tens = minutes header.minutes_tens (c 4) i;
        minutes_units = header.minutes_units % 16;
        control = control-back i;
      }
    where
      hours : (n a b : ℕ) → (n % 4 + 4 * a + 8 * b) % 16 % 4 ≡ n % 4
      hours n a b = omega arith

      minutes : (n a : ℕ) → (n % 8 + 8 * a) % 16 % 8 ≡ n % 8
      minutes n a = omega arith

-- where none is refused, all are there
all_there : (f : ℕ → ℕ) (messages : List ℕ) → all_good (map (λ m. some (f m)) messages) ≡ some (map f messages)
unfolding all_good
all_there f [] = refl
all_there f (m ∷ messages) = ap (before (f m)) (all_there f messages)

messages_read : (messages : List ℕ) → map message (map sent_as messages) ≡ map (λ m. some (cut m)) messages
messages_read = mapped_twice sent_as message (λ m. some (cut m)) (λ m. hamming.inverts (m % 16) (omega arith))

-- any packet that starts with a header
module _ (magazine : ℕ) (header : Header) (rest : List ℕ) (whole : length rest ≡ columns - header_column) where
  abbrev headed : List ℕ
  headed = header_bytes magazine header ++ rest

  pub headed-length : length headed ≡ packet_length
  unfolding header_bytes
  headed-length = omega (arith, whole)

  pub control-bytes : control_bytes headed ≡ map sent_as (control_messages header)
  unfolding packet_bytes header_bytes
  control-bytes = messages_turned (control_messages header)

  pub header_back : header_of headed ≡ Ok (in_bits header)
  unfolding header_messages header_or
  header_back =
      header_is headed headed-length
      (ap (λ (bytes : List ℕ). all_good (map message bytes)) control-bytes
      ∙ (ap all_good (messages_read (control_messages header)) ∙ all_there cut (control_messages header)))
      ∙ ap Ok (header-from header)

-- a header whose parts fit their bits is sent as it is
module _ (header : Header) (tens : header.tens < 16) (units : header.units < 16) (hours-tens : header.hours_tens < 4)
    (hours-units : header.hours_units < 16) (minutes-tens : header.minutes_tens < 8) (minutes-units : header.minutes_units < 16)
    (control : header.control < 2048) where
  pub bits-same : in_bits header ≡ header
  unfolding in_bits
  bits-same =
      λ i.
      record {
        tens = mod-eq_of_lt tens i;
        units = mod-eq_of_lt units i;
        hours_tens = mod-eq_of_lt hours-tens i;
        hours_units = mod-eq_of_lt hours-units i;
        minutes_tens = mod-eq_of_lt minutes-tens i;
        minutes_units = mod-eq_of_lt minutes-units i;
        control = mod-eq_of_lt control i;
      }

  pub header-same : (magazine : ℕ) (rest : List ℕ) → length rest ≡ columns - header_column → header_of (header_bytes magazine header ++ rest) ≡ Ok header
  header-same magazine rest whole = header_back magazine header rest whole ∙ ap Ok bits-same
