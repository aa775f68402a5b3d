-- A worked run: the header of page 100, its row 1, and the header of page 101, built from the bytes as which messages and characters are sent. And three
-- runs that go past the bounds of the damage, each by as little as can be, in which a page that is not the one sent closes clean.
use Rattle.std.specs.Prelude.{List, [], ◌∷◌, ◌++◌, map, ℕ, ◌+◌, get_or, replicate, set}
use Rattle.std.specs.Int.Bits.{bit_xor}
use Rattle.coding.specs.Bits.{framing_code, turned_byte}
use Rattle.coding.specs.Characters.{sent_character}
use Rattle.coding.specs.Hamming.{sent_message}
use Rattle.page.specs.Records.{record_length}
use Rattle.receiver.specs.declared.Selection.{Selection}
use Rattle.receiver.specs.declared.When.TheVariants.{Any}
use Rattle.demands.specs.Runs.{Line, Run}

-- a line with its run-in, its messages and then its characters
unfoldable pub line_of : List ℕ → List ℕ → List ℕ
unfolding turned_byte sent_message sent_character
line_of messages characters =
    0xAA ∷ 0xAA ∷ framing_code ∷ map (λ message. turned_byte (sent_message message)) messages
    ++ map (λ character. turned_byte (sent_character character)) characters

-- magazine 1, row 0; page units and tens, then the time and the control bits, all 0
unfoldable pub header_line : ℕ → ℕ → ℕ → List ℕ
unfolding line_of
header_line tens units character = line_of (1 ∷ 0 ∷ units ∷ tens ∷ replicate 6 0) (replicate 32 character)

-- row 1 of a magazine: row weight 1 is the first message's weight 8
unfoldable pub row_line : ℕ → ℕ → List ℕ
unfolding line_of
row_line magazine character = line_of ((8 + magazine) ∷ 0 ∷ []) (replicate 40 character)

-- received as it was sent
unfoldable pub as_sent : List ℕ → Line
as_sent line = record { sent = line; received = line }

-- received with some wrong bits in the byte at a place
unfoldable pub wrong_at : ℕ → ℕ → List ℕ → Line
wrong_at place bits line = record { sent = line; received = set line place (bit_xor (get_or line place 0) bits) }

unfoldable pub page100 : Selection
page100 = record { magazine = 1; tens = 0; units = 0; when = Any }

-- the lines between, and after them the header of page 101
unfoldable pub run_of : List Line → Run
unfolding page100 as_sent header_line
run_of between =
    record {
      selection = page100;
      lent = replicate record_length 0;
      lines = as_sent (header_line 0 0 0x41) ∷ between ++ (as_sent (header_line 0 1 0x43) ∷ []);
    }

unfoldable pub worked_run : Run
unfolding run_of as_sent row_line
worked_run = run_of (as_sent (row_line 1 0x42) ∷ [])

-- ---- past the bounds

-- three wrong bits in an address byte: a row of magazine 2 is read as one of magazine 1
unfoldable pub three_bits : Run
unfolding run_of wrong_at row_line
three_bits = run_of (wrong_at 3 0xD0 (row_line 2 0x42) ∷ [])

-- two wrong bits in the byte of a character: column 0 is read as another character
unfoldable pub two_bits : Run
unfolding run_of wrong_at row_line
two_bits = run_of (wrong_at 5 0xC0 (row_line 1 0x42) ∷ [])

-- two wrong bits in a framing code: the header of page 102 is lost, and its row 1 is taken for one of page 100
unfoldable pub lost_header : Run
unfolding run_of wrong_at as_sent header_line row_line
lost_header = run_of (wrong_at 2 0x03 (header_line 0 2 0x44) ∷ as_sent (row_line 1 0x42) ∷ [])
