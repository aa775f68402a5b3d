-- Document 01, "Addresses and headers": rows 1 to 24, by document 02, request 5, carry 40 characters, row 0 32 characters for columns 8 to 39. Column 0's byte follows the
-- address, so in row 0 the header's eight messages stand where the columns 0 to 7 would.
use Rattle.std.specs.Prelude.{cond, List, [], ℕ, ◌+◌, ◌-◌, eqb, length, replicate, Result, Ok, Err}
use Rattle.std.specs.Result.{result_unwrap_or}
use Rattle.laws.specs.Paper.{Paper, accepted, refused_by}
use Rattle.grid.specs.Grid.{columns}
use Rattle.packet.specs.Lines.{packet_bytes, packet_length}
use Rattle.packet.specs.declared.WrongLength.{WrongLength}

-- the columns 0 to 7 of row 0 have no character
abbrev pub header_column : ℕ
header_column = 8

-- the bytes of the columns, after turning: packet byte 3 is column 0's
abbrev pub column_bytes : List ℕ → List ℕ
column_bytes packet = packet_bytes packet 3 columns

-- and of those that carry characters in row 0
abbrev pub header_text_bytes : List ℕ → List ℕ
header_text_bytes packet = packet_bytes packet (3 + header_column) (columns - header_column)

-- what is read of the columns: the paper's number, and the forty bytes
pub record Text : Type 0 where
  pub answer : Paper
  pub bytes : List ℕ

-- zeros beside a refusal
unfoldable pub text_of : List ℕ → Text
unfolding packet_bytes accepted refused_by
text_of packet =
    cond (eqb (length packet) packet_length)
    (record { answer = accepted []; bytes = column_bytes packet })
    (record { answer = refused_by 10 []; bytes = replicate columns 0 })

-- the paper's numbers
unfoldable pub text_paper : Result (List ℕ) WrongLength → Paper
unfolding accepted refused_by
text_paper (Ok _) = accepted []
text_paper (Err _) = refused_by 10 []

-- and the bytes of an answer, zeros beside a refusal
abbrev pub text_bytes : Result (List ℕ) WrongLength → List ℕ
text_bytes read = result_unwrap_or read (replicate columns 0)
