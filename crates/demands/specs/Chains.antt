-- A run as calls: whoever feeds the lines hands each call what the call before gave. Whichever entry takes a line, the answers, the receivers and the
-- records are the run's own; and answers and receivers do not depend on what the lent record holds.
use Rattle.std.specs.Prelude.{Bool, List, ◌≡◌, ℕ, zero, suc, ◌<◌, ltb, length, Ok}
use Rattle.packet.specs.Lines.{framed, packet_of}
use Rattle.page.specs.Records.{record_length}
use Rattle.receiver.specs.Entries.{Meets, line_entered, made, packet_entered}
use Rattle.receiver.specs.declared.Stepped.{Stepped}
use Rattle.demands.specs.Runs.{Between, Run, entry_at, received_at}

-- ---- calls

-- a call gave this and left that in the lent record: a call of the entry for lines, by value or lent, or of the entry for packets with the packet of a
-- line whose framing passes
pub data Called (between : Between) (line : List ℕ) (gave : Stepped) (left : List ℕ) : Type 0 where
  by_line : Meets (line_entered between.receiver line between.lent) gave left → Called between line gave left
  by_packet : framed line ≡ Ok tt → Meets (packet_entered between.receiver (packet_of line) between.lent) gave left → Called between line gave left

-- what a call is handed: at first the new receiver, and then what the call before gave and left
unfoldable pub handed : Run → (ℕ → Stepped) → (ℕ → List ℕ) → ℕ → Between
unfolding made
handed run gave left zero = record { receiver = made run.selection; lent = run.lent }
handed run gave left (suc k) = record { receiver = (gave k).receiver; lent = left k }

-- one call for each line of the run
abbrev pub Chain : Run → (ℕ → Stepped) → (ℕ → List ℕ) → Type 0
Chain run gave left = (k : ℕ) → k < length run.lines → Called (handed run gave left k) (received_at run.lines k) (gave k) (left k)

-- each call gives what its line gives in the run
abbrev pub ChainsAreRuns : Type 0
ChainsAreRuns =
    (run : Run) (gave : ℕ → Stepped) (left : ℕ → List ℕ) → Chain run gave left
    → (k : ℕ) → k < length run.lines → Meets (entry_at run k) (gave k) (left k)

-- ---- what the lent record holds

-- the same run with another record lent
abbrev pub lending : Run → List ℕ → Run
lending run other = record { selection = run.selection; lent = other; lines = run.lines }

-- 12 asks for the length alone
abbrev pub is_short : List ℕ → Bool
is_short lent = ltb (length lent) record_length

abbrev pub LentIsFree : Type 0
LentIsFree =
    (run : Run) (other : List ℕ) → is_short run.lent ≡ is_short other
    → (k : ℕ) → ((entry_at run k).answer ≡ (entry_at (lending run other) k).answer) × ((entry_at run k).receiver ≡ (entry_at (lending run other) k).receiver)
