-- Document 01, "Addresses and headers": in row 0 eight more messages follow the address: page units, page tens, minutes units, minutes tens (3 bits)
-- with C4, hours units, hours tens (2 bits) with C5 and C6, C7 to C10, C11 to C14, lowest weight first.
use Rattle.std.specs.Prelude.{cond, List, [], ◌∷◌, ◌++◌, map, ℕ, ◌-◌, ◌/◌, ◌%◌, ◌^◌, eqb, length, get_or, Result, Ok, Err}
use Rattle.std.proofs.Math.Option.{Option, none, some}
use Rattle.laws.specs.Digits.{binary, bit}
use Rattle.laws.specs.Paper.{Paper, accepted, refused_by, unnumbered}
use Rattle.coding.specs.Hamming.{message}
use Rattle.packet.specs.Lines.{packet_bytes, packet_length}
use Rattle.packet.specs.declared.Header.{Header}
use Rattle.packet.specs.declared.HeaderError.{HeaderError}
use Rattle.packet.specs.declared.HeaderError.TheVariants.{Spoiled, WrongLength}

-- the four bits of a message, lowest weight first
unfoldable pub lowest_first : ℕ → List ℕ
unfolding bit
lowest_first message = bit message 1 ∷ bit message 2 ∷ bit message 3 ∷ bit message 4 ∷ []

-- C4 to C14 in order, from the messages that hold them; as one number C4 is the most significant, as in the page record
unfoldable pub control_of : ℕ → ℕ → ℕ → ℕ → ℕ
unfolding bit lowest_first binary
control_of minutes_tens_c4 hours_tens_c5_c6 c7toC10 c11toC14 =
    binary
    ((bit minutes_tens_c4 4 ∷ bit hours_tens_c5_c6 3 ∷ bit hours_tens_c5_c6 4 ∷ []) ++ (lowest_first c7toC10 ++ lowest_first c11toC14))

-- the header of eight good messages, in the order in which they are sent
unfoldable pub header_from : List ℕ → Header
unfolding control_of
header_from messages =
    record {
      tens = get_or messages 1 0;
      units = get_or messages 0 0;
      hours_tens = get_or messages 5 0 % 4;
      hours_units = get_or messages 4 0;
      minutes_tens = get_or messages 3 0 % 8;
      minutes_units = get_or messages 2 0;
      control = control_of (get_or messages 3 0) (get_or messages 5 0) (get_or messages 6 0) (get_or messages 7 0);
    }

-- one of C4 to C14, by its number
unfoldable pub control_bit : Header → ℕ → ℕ
control_bit header n = header.control / 2 ^ (14 - n) % 2

-- the zero of a header
unfoldable pub zero_header : Header
zero_header =
    record {
      tens = 0;
      units = 0;
      hours_tens = 0;
      hours_units = 0;
      minutes_tens = 0;
      minutes_units = 0;
      control = 0;
    }

-- one message more in front
abbrev pub before : ℕ → Option (List ℕ) → Option (List ℕ)
before message none = none
before message (some messages) = some (message ∷ messages)

-- all of some messages, or none where one is refused
unfoldable pub all_good : List (Option ℕ) → Option (List ℕ)
all_good [] = some []
all_good (none ∷ others) = none
all_good (some message ∷ others) = before message (all_good others)

-- packet bytes 3 to 10
abbrev pub control_bytes : List ℕ → List ℕ
control_bytes packet = packet_bytes packet 3 8

unfoldable pub header_messages : List ℕ → List (Option ℕ)
unfolding message packet_bytes
header_messages packet = map message (control_bytes packet)

-- spoiled where one of the eight is refused
unfoldable pub header_or : Option (List ℕ) → Result Header HeaderError
unfolding header_from
header_or none = Err Spoiled
header_or (some messages) = Ok (header_from messages)

unfoldable pub header_of : List ℕ → Result Header HeaderError
unfolding header_or all_good header_messages
header_of packet = cond (eqb (length packet) packet_length) (header_or (all_good (header_messages packet))) (Err WrongLength)

-- a header's values, in the order of the page record
unfoldable pub header_values : Header → List ℕ
header_values header =
    header.tens ∷ header.units ∷ header.hours_tens ∷ header.hours_units
    ∷ header.minutes_tens ∷ header.minutes_units ∷ header.control ∷ []

-- the paper's number and values: a spoiled header is an answer without a number
unfoldable pub header_paper : Result Header HeaderError → Paper
unfolding accepted refused_by unnumbered header_values
header_paper (Ok header) = accepted (header_values header)
header_paper (Err Spoiled) = unnumbered
header_paper (Err WrongLength) = refused_by 10 []
