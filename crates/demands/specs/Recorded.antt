-- A run as a recording: from any of its lines on, what the receiver's entry for recordings gives is what the run's own lines give.
use Rattle.std.specs.Prelude.{true, false, List, ◌≡◌, ℕ, zero, suc, ◌+◌, ◌*◌, ◌<◌, length, take, drop}
use Rattle.packet.specs.Lines.{line_length}
use Rattle.receiver.specs.Mended.{brought_by, none_mended, summed}
use Rattle.receiver.specs.Recordings.{Playing, ended, goes_on, played, stopped_at}
use Rattle.receiver.specs.declared.Mended.{Mended}
use Rattle.demands.specs.Runs.{Run, before_line, entry_at, received_at}

-- the received lines of the run, end to end
pub record Records (run : Run) (recording : List ℕ) : Type 0 where
  pub size : length recording ≡ length run.lines * line_length
  pub holds : (k : ℕ) → k < length run.lines → take line_length (drop (k * line_length) recording) ≡ received_at run.lines k

-- what stands before line i is handed to the entry, with the lines from there on
abbrev pub played_from : Run → List ℕ → ℕ → Playing
played_from run recording i = played (before_line run i).receiver (drop (i * line_length) recording) (before_line run i).lent

-- the first n lines from line i on go on
abbrev pub GoesOn : Run → ℕ → ℕ → Type 0
GoesOn run i n = (k : ℕ) → k < n → goes_on (entry_at run (i + k)).answer ≡ true

-- the bytes mended in n lines from line i on, summed over the lines' own answers
unfoldable pub mended_over : Run → ℕ → ℕ → Mended
unfolding summed brought_by entry_at
mended_over run i zero = none_mended
mended_over run i (suc n) = summed (mended_over run i n) (brought_by (entry_at run (i + n)).answer)

-- where playing stops at the line after them, it gives what that line gives in the run
abbrev pub PlaysTheRun : Type 0
PlaysTheRun =
    (run : Run) (recording : List ℕ) → Records run recording → (i n : ℕ) → i + n < length run.lines
    → GoesOn run i n → goes_on (entry_at run (i + n)).answer ≡ false
    → played_from run recording i ≡ stopped_at (entry_at run (i + n)) (suc n) (mended_over run i (suc n))

-- and where no line is left it ends with what stands after the last
abbrev pub PlaysToTheEnd : Type 0
PlaysToTheEnd =
    (run : Run) (recording : List ℕ) → Records run recording → (i n : ℕ) → i + n ≡ length run.lines
    → GoesOn run i n → played_from run recording i ≡ ended (before_line run (i + n)).receiver (before_line run (i + n)).lent n (mended_over run i n)
