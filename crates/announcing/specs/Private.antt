-- For the contracts of private functions: no promise rests on these words.
use Rattle.std.specs.Prelude.{true, List, [], ◌++◌, ◌≡◌, ℕ, ◌+◌, ◌*◌, min, length}
use Rattle.grid.specs.Grid.{cell_count}
use Rattle.packet.specs.Lines.{line_length}
use Rattle.page.specs.declared.Cells.{Cells}
use Rattle.display.specs.Pages.{is_page}
use Rattle.receiver.specs.Recordings.{Playing, played}
use Rattle.watch.specs.Watched.{recording_watched}
use Rattle.watch.specs.declared.Watched.{Watched}
use Rattle.texts.specs.Put.{Puts}
use Rattle.announcing.specs.Said.{Saying}
use Rattle.announcing.specs.Told.{announced, fresh_characters}
use Rattle.announcing.specs.declared.Announced.{Announced}

-- cells as many as a page has
abbrev pub Whole : Cells → Type 0
Whole cells = (length cells.characters ≡ cell_count) × (length cells.marks ≡ cell_count)

-- cells whose page is not refused by 25
pub record Printable (cells : Cells) : Type 0 where
  pub whole : Whole cells
  pub shown : is_page (fresh_characters cells) ≡ true

-- what playing some lines to the next stop leaves and says
unfoldable pub stop_said : Saying → List ℕ → Saying
stop_said before lines =
    let playing : Playing = played before.receiver lines before.lent in
    let watched : Watched = recording_watched before.watch playing.used playing.mended playing.receiver.«open» playing.stopped in
    record {
      receiver = playing.receiver;
      watch = watched.watch;
      lent = playing.lent;
      text = before.text ++ announced watched.word watched.own playing.lent;
    }

-- a state of the walk over some lines, with what was said so far
abbrev pub standing : Announced → List ℕ → List ℕ → Saying
standing state lent text = record { receiver = state.receiver; watch = state.watch; lent = lent; text = text }

-- from one state to the next stop
pub record Stops (before : Announced) (lines lent room : List ℕ) (after : Announced) (lent' room' : List ℕ) : Type 0 where
  pub kept : after.receiver ≡ (stop_said (standing before lent []) lines).receiver
  pub watched : after.watch ≡ (stop_said (standing before lent []) lines).watch
  pub left : lent' ≡ (stop_said (standing before lent []) lines).lent
  pub used : after.used ≡ before.used + min ((played before.receiver lines lent).used * line_length) (length lines)
  pub put : Puts (stop_said (standing before lent []) lines).text room before.length room' after.length
