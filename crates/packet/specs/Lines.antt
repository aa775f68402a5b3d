-- Document 01, "From bits to packets": a data-line is 45 bytes, two of clock run-in, not examined, the framing code, and the packet of 42 bytes.
-- Refusals 10 and 11, in that order.
use Rattle.std.specs.Prelude.{cond, List, [], map, ℕ, ◌-◌, eqb, length, get_or, take, drop, ⊤, Result, Ok, Err}
use Rattle.laws.specs.Paper.{Paper, accepted, refused_by}
use Rattle.coding.specs.Bits.{turned_byte, framing_passes}
use Rattle.packet.specs.declared.WrongLength as refusal
use Rattle.packet.specs.declared.LineError.{LineError}
use Rattle.packet.specs.declared.LineError.TheVariants.{WrongLength, WrongFraming}

abbrev pub line_length : ℕ
line_length = 45

abbrev pub packet_length : ℕ
packet_length = 42

-- the framing code follows two bytes of run-in
abbrev pub framing_place : ℕ
framing_place = 2

-- and the packet follows it
abbrev pub packet_place : ℕ
packet_place = 3

unfoldable pub framed : List ℕ → Result ⊤ LineError
unfolding framing_passes
framed line =
    cond (eqb (length line) line_length) (cond (framing_passes (get_or line framing_place 0)) (Ok tt) (Err WrongFraming)) (Err WrongLength)

-- the packet of a line, lent unturned, and an empty part where the line is refused
unfoldable pub packet_part : Result ⊤ LineError → List ℕ → List ℕ
packet_part (Ok _) line = take packet_length (drop packet_place line)
packet_part (Err WrongLength) line = []
packet_part (Err WrongFraming) line = []

unfoldable pub packet_of : List ℕ → List ℕ
unfolding framed packet_part
packet_of line = packet_part (framed line) line

-- the one value of the refusal of a packet that is not 42 bytes
abbrev pub wrong_length : refusal.WrongLength
wrong_length = record {}

-- a byte of a packet, counted from 1, after turning
unfoldable pub packet_byte : List ℕ → ℕ → ℕ
unfolding turned_byte
packet_byte packet n = turned_byte (get_or packet (n - 1) 0)

-- so many bytes of a packet, from one on, counted from 1, after turning
unfoldable pub packet_bytes : List ℕ → ℕ → ℕ → List ℕ
unfolding turned_byte
packet_bytes packet first count = map turned_byte (take count (drop (first - 1) packet))

-- the paper's numbers
unfoldable pub framed_paper : Result ⊤ LineError → Paper
unfolding accepted refused_by
framed_paper (Ok _) = accepted []
framed_paper (Err WrongLength) = refused_by 10 []
framed_paper (Err WrongFraming) = refused_by 11 []
