-- What the program keeps from line to line, as what is said over lines has it.
use Rattle.std.specs.Prelude.{List, ◌≡◌, ℕ, ◌*◌, ◌/◌, ◌<◌, length, take, drop}
use Rattle.packet.specs.Lines.{line_length}
use Rattle.page.specs.Records.{record_length}
use Rattle.announcing.specs.Said.{Saying, said, starting}
use Rattle.receive.specs.declared.State.{State}
use Rattle.receive.specs.declared.Turn.{Turn}

-- so many lines at once
abbrev pub lines_at_once : ℕ
lines_at_once = 32

abbrev pub chunk_size : ℕ
chunk_size = lines_at_once * line_length

abbrev pub fed_from : State → Saying
fed_from state = starting state.receiver state.watch state.«record»

-- the state after some lines
pub record Feeds (promised : Saying) (after : State) : Type 0 where
  pub kept : after.receiver ≡ promised.receiver
  pub watched : after.watch ≡ promised.watch
  pub left : after.«record» ≡ promised.lent

-- of some bytes, the whole lines, and the part of a line behind them
unfoldable pub whole_lines : List ℕ → List ℕ
whole_lines bytes = take (length bytes / line_length * line_length) bytes

unfoldable pub last_part : List ℕ → List ℕ
last_part bytes = drop (length bytes / line_length * line_length) bytes

-- the whole lines among some bytes are fed, and the part behind them lies at the chunk's start
pub record Turned (state : State) (bytes : List ℕ) (turn : Turn) (chunk : List ℕ) : Type 0 where
  pub fed : Feeds (said (fed_from state) (whole_lines bytes)) turn.state
  pub carried : take turn.part chunk ≡ last_part bytes

-- what came begins with the part of a line that was there, and is fed and carried over. What came behind the part no contract can say: it may be nothing, where the
-- input ended or failed
pub record Comes (state : State) (part : List ℕ) (turn : Turn) (chunk : List ℕ) : Type 0 where
  pub bytes : List ℕ
  pub begins : take (length part) bytes ≡ part
  pub turned : Turned state bytes turn chunk

-- a chunk and a record of their lengths
abbrev pub Kept : State → List ℕ → Type 0
Kept state chunk = (length state.«record» ≡ record_length) × (length chunk ≡ chunk_size)

-- and less than a line carried over
abbrev pub Carried : Turn → List ℕ → Type 0
Carried turn chunk = Kept turn.state chunk × (turn.part < line_length)
