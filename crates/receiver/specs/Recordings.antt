-- A recording: data-lines end to end. It is played to the first line that is refused or closes a page, or to its end; a part at the end that is no whole
-- line is a line of the wrong length. Each line is entered as `line_entered` has it.
use Rattle.std.specs.Prelude.{Bool, false, cond, ◌&&◌, List, ◌≡◌, ℕ, zero, suc, ◌+◌, eqb, length, get_or, take, drop, Result}
use Rattle.std.specs.Prelude as std
use Rattle.std.proofs.Math.Option.{Option, none, some}
use Rattle.laws.specs.Paper.{Paper}
use Rattle.packet.specs.Lines.{line_length}
use Rattle.receiver.specs.Entries.{Entered, answer_paper, line_entered}
use Rattle.receiver.specs.Mended.{brought_by, none_mended, summed}
use Rattle.receiver.specs.declared.Mended.{Mended}
use Rattle.receiver.specs.declared.Receiver.{Receiver}
use Rattle.receiver.specs.declared.Recorded.{Recorded}
use Rattle.receiver.specs.declared.Refusal.{Refusal}
use Rattle.receiver.specs.declared.Taken.{Taken}

-- a number that is there and is 0
unfoldable pub is_accepted : Option ℕ → Bool
is_accepted none = false
is_accepted (some number) = eqb number 0

-- a line that is taken and closes no page: the third value is the closing word, 0 for none
unfoldable pub goes_on : Paper → Bool
unfolding is_accepted
goes_on answer = is_accepted answer.number && eqb (get_or answer.values 2 0) 0

-- what playing gives: the answer that it stopped at, and none at the end; the lines used, and how many bytes were mended in them, the last included; the receiver, and
-- the lent record's later content
pub record Playing : Type 0 where
  pub stopped : Option Paper
  pub used : ℕ
  pub mended : Mended
  pub receiver : Receiver
  pub lent : List ℕ

-- what a line gives, where playing stops at it
unfoldable pub stopped_at : Entered → ℕ → Mended → Playing
stopped_at entry used mended =
    record { stopped = some entry.answer; used = used; mended = mended; receiver = entry.receiver; lent = entry.lent }

unfoldable pub ended : Receiver → List ℕ → ℕ → Mended → Playing
ended receiver lent used mended = record { stopped = none; used = used; mended = mended; receiver = receiver; lent = lent }

-- on from a receiver, a record and the counts of lines used and of bytes mended; at most so many lines more
unfoldable pub playing : ℕ → Receiver → List ℕ → List ℕ → ℕ → Mended → Playing
unfolding ended stopped_at goes_on line_entered summed brought_by
playing zero receiver recording lent used mended = ended receiver lent used mended
playing (suc bound) receiver recording lent used mended =
    let entry : Entered = line_entered receiver (take line_length recording) lent in
    let more : Mended = summed mended (brought_by entry.answer) in
    cond (eqb (length recording) 0) (ended receiver lent used mended)
    (cond (goes_on entry.answer) (playing bound entry.receiver (drop line_length recording) entry.lent (used + 1) more) (stopped_at entry (used + 1) more))

-- a recording of so many bytes has no more lines than that
unfoldable pub played : Receiver → List ℕ → List ℕ → Playing
unfolding playing
played receiver recording lent = playing (length recording) receiver recording lent 0 none_mended

-- the answer that playing stopped at
unfoldable pub played_paper : std.Option (Result Taken Refusal) → Option Paper
unfolding answer_paper
played_paper std.None = none
played_paper (std.Some answer) = some (answer_paper answer)

-- what the code gives, where it was lent a record that then holds `lent`
pub record PlaysAs (promised : Playing) (recorded : Recorded) (lent : List ℕ) : Type 0 where
  pub answered : played_paper recorded.answer ≡ promised.stopped
  pub counted : recorded.used ≡ promised.used
  pub mended : recorded.mended ≡ promised.mended
  pub kept : recorded.receiver ≡ promised.receiver
  pub left : lent ≡ promised.lent
