-- Document 01, "What every promise says", demand 3: lines as they were sent and as they were received, and a new receiver that is fed with the
-- received ones, one after the other. Lines are counted from 0.
use Rattle.std.specs.Prelude.{Bool, cond, ◌&&◌, List, [], ℕ, zero, suc, ◌*◌, eqb, ltb, get_or, take, drop}
use Rattle.std.proofs.Math.Option.{Option, none, some}
use Rattle.laws.specs.Every.{every}
use Rattle.grid.specs.Grid.{columns}
use Rattle.packet.specs.Sent.{line_packet, sent_magazine, sent_row, sent_text, sent_by_rules, damage}
use Rattle.packet.specs.Texts.{column_bytes}
use Rattle.receiver.specs.Cells.{first_column}
use Rattle.receiver.specs.Entries.{Entered, line_entered, made}
use Rattle.receiver.specs.declared.Receiver.{Receiver}
use Rattle.receiver.specs.declared.Selection.{Selection}

-- ---- the lines

-- a line as it was sent, and as it was received
pub record Line : Type 0 where
  pub sent : List ℕ
  pub received : List ℕ

unfoldable pub line_at : List Line → ℕ → Line
line_at lines k = get_or lines k (record { sent = []; received = [] })

abbrev pub sent_at : List Line → ℕ → List ℕ
sent_at lines k = (line_at lines k).sent

abbrev pub received_at : List Line → ℕ → List ℕ
received_at lines k = (line_at lines k).received

-- sent by the rules, and then damaged in at most d bits of each Hamming byte
unfoldable pub line_within : ℕ → Line → Bool
unfolding sent_by_rules damage
line_within d line = sent_by_rules line.sent && damage d line.sent line.received

unfoldable pub within : ℕ → List Line → Bool
unfolding every line_within
within d lines = every (line_within d) lines

-- ---- what the sender means by them

-- a row of a magazine
unfoldable pub is_row : ℕ → ℕ → List ℕ → Bool
unfolding sent_magazine sent_row
is_row magazine row line = eqb (sent_magazine line) magazine && eqb (sent_row line) row

-- the header that ends a page of a magazine: a row 0 of it
unfoldable pub ends_page : ℕ → List ℕ → Bool
unfolding is_row
ends_page magazine line = is_row magazine 0 line

-- the last text of a row that a magazine sent after line i and before line j, and none where it sent none
unfoldable pub last_text : ℕ → ℕ → List Line → ℕ → ℕ → Option (List ℕ)
unfolding is_row sent_text line_at
last_text magazine row lines i zero = none
last_text magazine row lines i (suc k) =
    cond (ltb i k && is_row magazine row (sent_at lines k)) (some (sent_text (sent_at lines k))) (last_text magazine row lines i k)

-- the bytes of a line that carry its characters, in a row 0 from column 8 on
unfoldable pub character_bytes : ℕ → List ℕ → List ℕ
unfolding first_column line_packet
character_bytes row line = drop (first_column row) (column_bytes (line_packet line))

-- ---- the receiver

-- what a new receiver selects, the record that is lent to it, and the lines
pub record Run : Type 0 where
  pub selection : Selection
  pub lent : List ℕ
  pub lines : List Line

-- the receiver and the lent record between two lines
pub record Between : Type 0 where
  pub receiver : Receiver
  pub lent : List ℕ

-- a received line is entered
unfoldable pub entering : Between → List ℕ → Entered
unfolding line_entered
entering between line = line_entered between.receiver line between.lent

-- what stands before line k: at first the new receiver, and then what each line leaves to the next
unfoldable pub before_line : Run → ℕ → Between
unfolding made entering line_at
before_line run zero = record { receiver = made run.selection; lent = run.lent }
before_line run (suc k) =
    let entry : Entered = entering (before_line run k) (received_at run.lines k) in
    record { receiver = entry.receiver; lent = entry.lent }

-- what line k gives: its answer, the receiver and the lent record as they stand after it
unfoldable pub entry_at : Run → ℕ → Entered
unfolding entering before_line line_at
entry_at run k = entering (before_line run k) (received_at run.lines k)

-- the kind, the count and the closing word of an answer
unfoldable pub kind_of : Entered → ℕ
kind_of entry = get_or entry.answer.values 0 0

unfoldable pub count_of : Entered → ℕ
count_of entry = get_or entry.answer.values 1 0

unfoldable pub closing_of : Entered → ℕ
closing_of entry = get_or entry.answer.values 2 0

-- ---- the record

-- a row's forty characters, or its forty marks
unfoldable pub row_part : ℕ → List ℕ → List ℕ
row_part row cells = take columns (drop (row * columns) cells)
