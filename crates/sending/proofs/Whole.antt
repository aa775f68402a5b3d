-- From a page that was read to its lines in the room, and from the reader's answer to the sender's.
use mathlib.Core.Path.{◌≡◌, refl, sym, ap, ◌∙◌}
use mathlib.Core.Bool.{Bool}
use mathlib.Core.List.{List, ◌++◌, map}
use Prim.Native.Nat.{ℕ, ◌+◌, ◌*◌, ◌-◌, ◌≤◌, ◌<◌}
use native.Mathlib.Omega.{arith}
use borrow.Author.Tests.{le-leb, lt-leb}
use lib.ListN.{length, take, drop, length-append, length-drop}
use lib.Seq.{drop-append-add, drop-drop, take_at}
use Rattle.std.specs.Prelude.{Result, Ok, Err, ⊤}
use Rattle.grid.specs.Grid.{cell_count}
use Rattle.packet.specs.Lines.{line_length}
use Rattle.page.specs.Reading.{page_read, read_answer}
use Rattle.page.specs.declared.Page.{Page}
use Rattle.page.specs.declared.ReadError.{ReadError}
use Rattle.page.proofs.Trips.{page-read, whole-read}
use Rattle.sending.specs.Private.{line_stored, rows_stored}
use Rattle.sending.specs.Sending.{bytes_needed, chosen_rows, end_to_end, header_line, line_count, lines_of, room_after, row_line, send_answer, sent_after, sent_into, sent_paper}
use Rattle.sending.specs.declared.SendError.{SendError}
use Rattle.sending.specs.declared.SendError.TheVariants.{Record, ShortRoom}
use Rattle.sending.proofs.Lines.{header-line-length}

-- a page that was read has all its characters
pub read_whole : (bytes : List ℕ) → read_answer bytes ≡ Ok tt → length (page_read bytes).cells.characters ≡ cell_count
read_whole bytes taken = ap (λ (page : Page). length page.cells.characters) (page-read bytes taken) ∙ (whole-read bytes taken).0

-- ---- a line stored first

module _ (line : List ℕ) (whole : length line ≡ line_length) (room : List ℕ) where
  pub first_taken : take line_length (line_stored line 0 room) ≡ line
  first_taken = take_at line (drop line_length room) line_length whole

  pub first-behind : (n : ℕ) → line_length ≤ n → drop n (line_stored line 0 room) ≡ drop n room
  first-behind n h =
      let further : length line + (n - line_length) ≡ n = omega (arith, whole) in
      let inside : line_length + (n - line_length) ≡ n = omega arith in
      ap (λ (k : ℕ). drop k (line ++ drop line_length room)) (sym further)
      ∙ (drop-append-add line (drop line_length room) (n - line_length)
      ∙ (drop-drop (n - line_length) line_length room ∙ ap (λ (k : ℕ). drop k room) inside))

  pub first-length : line_length ≤ length room → length (line_stored line 0 room) ≡ length room
  first-length h = length-append line (drop line_length room) ∙ omega (arith, whole, length-drop line_length room)

-- there is always the header's line
pub header_needed : (wanted : List Bool) → line_length ≤ bytes_needed wanted
unfolding bytes_needed line_count
header_needed wanted = omega arith

-- ---- what the code gives of a page

module _ (page : Page) (wanted : List Bool) (room : List ℕ) (count : ℕ) (counted : count ≡ line_count wanted) where
  pub refused-short : length room < count * line_length
      → (Err ShortRoom ≡ sent_after (Ok tt) wanted room) × (room ≡ room_after (sent_after (Ok tt) wanted room) page wanted room)
  unfolding sent_after room_after bytes_needed
  refused-short short = let no = lt-leb (line_count wanted * line_length) (length room) (omega (arith, counted)) in (rw no refl, rw no refl)

  -- the rest of the lines have room behind the first
  pub rows_fit : count * line_length ≤ length room → (line first : List ℕ) → length line ≡ line_length → first ≡ line_stored line 0 room
      → bytes_needed wanted ≤ length first
  unfolding bytes_needed line_count
  rows_fit enough line first whole p =
      rw p (omega (arith, first-length line whole room (omega (arith, enough, counted)), enough, counted))

  module _ (full : length page.cells.characters ≡ cell_count) where
    all-stored : rows_stored (row_line page) wanted (line_stored (header_line page) 0 room) ≡ end_to_end (lines_of page wanted) ++ drop (bytes_needed wanted) room
    unfolding rows_stored end_to_end lines_of
    all-stored =
        let whole : length (header_line page) ≡ line_length = header-line-length page full in
        λ i.
        first_taken (header_line page) whole room i ++ end_to_end (map (row_line page) (chosen_rows wanted))
        ++ first-behind (header_line page) whole room (bytes_needed wanted) (header_needed wanted) i

    pub all-sent : count * line_length ≤ length room → (first after : List ℕ) → first ≡ line_stored (header_line page) 0 room
        → after ≡ rows_stored (row_line page) wanted first
        → (Ok count ≡ sent_after (Ok tt) wanted room) × (after ≡ room_after (sent_after (Ok tt) wanted room) page wanted room)
    unfolding sent_after room_after bytes_needed
    all-sent enough first after p q =
        let fits = le-leb (line_count wanted * line_length) (length room) (omega (arith, counted)) in
        (rw (fits, counted) refl, rw fits (q ∙ (ap (rows_stored (row_line page) wanted) p ∙ all-stored)))

-- ---- the reader's answer

module _ (bytes : List ℕ) (wanted : List Bool) (room : List ℕ) where
  pub refused_given : (error : ReadError) → read_answer bytes ≡ Err error
      → (sent_paper (Err (Record error)) ≡ sent_paper (send_answer bytes wanted room)) × (room ≡ sent_into bytes wanted room)
  unfolding send_answer sent_after sent_into room_after
  refused_given error e = rw e (refl, refl)

  pub page_sent : read_answer bytes ≡ Ok tt → (page : Page) → page ≡ page_read bytes → (result : Result ℕ SendError) (after : List ℕ)
      → result ≡ sent_after (Ok tt) wanted room → after ≡ room_after (sent_after (Ok tt) wanted room) page wanted room
      → (sent_paper result ≡ sent_paper (send_answer bytes wanted room)) × (after ≡ sent_into bytes wanted room)
  unfolding send_answer sent_into
  page_sent e page same result after p q = (
    ap sent_paper (p ∙ ap (λ (a : Result ⊤ ReadError). sent_after a wanted room) (sym e)),
    q ∙ (λ i. room_after (sent_after (sym e i) wanted room) (same i) wanted room),
  )
