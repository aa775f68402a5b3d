-- What is said over lines, end to end: each line is entered as `line_entered` has it, each page that closes is said once, in order, with the word that its
-- answer and the gap give, and the watch goes on. A part at the end that is no whole line is a line of the wrong length.
use Rattle.std.specs.Prelude.{cond, List, [], ◌++◌, ◌≡◌, ℕ, zero, suc, ◌+◌, ◌*◌, ◌/◌, eqb, length, take, drop}
use Rattle.grid.specs.Grid.{rows}
use Rattle.packet.specs.Lines.{line_length}
use Rattle.printing.specs.Letters.{utf8_page_size}
use Rattle.receiver.specs.Entries.{Entered, line_entered}
use Rattle.receiver.specs.declared.Receiver.{Receiver}
use Rattle.tally.specs.Tally.{share_held, share_size}
use Rattle.texts.specs.declared.Text.{Text}
use Rattle.heading.specs.Line.{line_size}
use Rattle.watch.specs.Watched.{line_watched}
use Rattle.watch.specs.declared.Watch.{Watch}
use Rattle.watch.specs.declared.Watched.{Watched}
use Rattle.announcing.specs.Told.{announced, left_out_words}
use Rattle.announcing.specs.declared.Announced.{Announced}

-- between two lines: the receiver, the watch beside it and the lent record, and what was said so far
pub record Saying : Type 0 where
  pub receiver : Receiver
  pub watch : Watch
  pub lent : List ℕ
  pub text : List ℕ

unfoldable pub line_said : Saying → List ℕ → Saying
unfolding line_entered line_watched announced
line_said before line =
    let entry : Entered = line_entered before.receiver line before.lent in
    let watched : Watched = line_watched before.watch entry.receiver.«open» entry.answer in
    record {
      receiver = entry.receiver;
      watch = watched.watch;
      lent = entry.lent;
      text = before.text ++ announced watched.word watched.own entry.lent;
    }

-- at most so many lines
unfoldable pub lines_said : ℕ → Saying → List ℕ → Saying
unfolding line_said
lines_said zero before lines = before
lines_said (suc bound) before lines =
    cond (eqb (length lines) 0) before (lines_said bound (line_said before (take line_length lines)) (drop line_length lines))

-- so many bytes have no more lines than that
unfoldable pub said : Saying → List ℕ → Saying
unfolding lines_said
said before lines = lines_said (length lines) before lines

-- when there are no more lines: how many bytes were mended in all of them, in how many, and how many there were
abbrev pub share_said : Watch → Text share_size
share_said watch = share_held watch.mended watch.mended_lines watch.lines

-- ---- what one call does

-- the most that the line of rows left out can take: three bytes for each row
abbrev pub left_out_size : ℕ
left_out_size = length left_out_words + 3 * rows + 1

-- the most that is said of a line, which is of a clean page
abbrev pub longest : ℕ
longest = line_size + left_out_size + utf8_page_size

-- the lines that a room has room for, whatever is said of them
unfoldable pub fitting : List ℕ → List ℕ → List ℕ
fitting room lines = take (length room / longest * line_length) lines

abbrev pub starting : Receiver → Watch → List ℕ → Saying
starting receiver watch lent = record { receiver = receiver; watch = watch; lent = lent; text = [] }

-- what the code gives for some lines, where it was lent a record that then holds `lent`, and a room that held `room` and then holds `after`: the text stands at
-- the room's start, and what lies behind it is as it was
pub record SaysAs (before : Saying) (lines : List ℕ) (found : Announced) (lent room after : List ℕ) : Type 0 where
  pub kept : found.receiver ≡ (said before lines).receiver
  pub watched : found.watch ≡ (said before lines).watch
  pub left : lent ≡ (said before lines).lent
  pub used : found.used ≡ length lines
  pub counted : found.length ≡ length (said before lines).text
  pub written : after ≡ (said before lines).text ++ drop (length (said before lines).text) room
