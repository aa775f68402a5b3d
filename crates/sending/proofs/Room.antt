-- The lent room after the lines: it holds them end to end, and each can be taken out of it again.
use mathlib.Core.Path.{◌≡◌, refl, ◌∙◌, ap, sym}
use mathlib.Core.Bool.{Bool, true, false, cond}
use mathlib.Core.List.{List, [], ◌∷◌, ◌++◌}
use Prim.Native.Nat.{ℕ, zero, suc, ◌+◌, ◌*◌, ◌≤◌, ◌<◌}
use native.Mathlib.Nat.{le_of_suc-le-suc, not-suc-le-zero, zero-lt-suc}
use native.Mathlib.Omega.{arith}
use borrow.Author.Tests.{le-leb, leb-true}
use lib.Dec.{leb}
use lib.ListN.{length, get_or, take, drop, length-append}
use lib.Seq.{drop_at, drop-drop, take_at}
use Rattle.std.specs.Prelude.{Result, Ok, Err, ⊤}
use Rattle.laws.proofs.Inverse.{never}
use Rattle.grid.specs.Grid.{last_row}
use Rattle.packet.specs.Lines.{line_length}
use Rattle.page.specs.Reading.{page_read, read_answer}
use Rattle.page.specs.declared.ReadError.{ReadError}
use Rattle.sending.specs.Sending.{bytes_needed, end_to_end, line_count, lines_of, room_after, send_answer, sent_after, sent_into}
use Rattle.sending.specs.declared.SendError.{SendError}
use Rattle.sending.specs.declared.SendError.TheVariants.{ShortRoom}
use Rattle.sending.proofs.Lines.{lines_count, lines_length}
use Rattle.sending.proofs.Whole.{read_whole}

-- ---- lines end to end

-- each has 45 bytes
abbrev pub OfLineLength : List (List ℕ) → Type 0
OfLineLength lines = (k : ℕ) → k < length lines → length (get_or lines k []) ≡ line_length

others : (line : List ℕ) (lines : List (List ℕ)) → OfLineLength (line ∷ lines) → OfLineLength lines
others line lines each k h = each (suc k) (omega arith)

pub length_end_to_end : (lines : List (List ℕ)) → OfLineLength lines → length (end_to_end lines) ≡ length lines * line_length
unfolding end_to_end
length_end_to_end [] each = omega arith
length_end_to_end (line ∷ lines) each =
    length-append line (end_to_end lines) ∙ omega (arith, each 0 (zero-lt-suc _), length_end_to_end lines (others line lines each))

pub line_at_law : (lines : List (List ℕ)) → OfLineLength lines → (k : ℕ) → k < length lines
    → take line_length (drop (k * line_length) (end_to_end lines)) ≡ get_or lines k []
unfolding end_to_end
line_at_law [] each k h = absurd (not-suc-le-zero h)
line_at_law (line ∷ lines) each zero h = take_at line (end_to_end lines) line_length (each 0 (zero-lt-suc _))
line_at_law (line ∷ lines) each (suc k) h =
    ap (take line_length) (past line (end_to_end lines) (each 0 (zero-lt-suc _)) k) ∙ line_at_law lines (others line lines each) k (le_of_suc-le-suc h)
  where
    past : (xs ys : List ℕ) → length xs ≡ line_length → (n : ℕ) → drop (suc n * line_length) (xs ++ ys) ≡ drop (n * line_length) ys
    past xs ys e n =
        ap (λ (m : ℕ). drop m (xs ++ ys)) (let s : suc n * line_length ≡ line_length + n * line_length = omega arith in s)
        ∙ (sym (drop-drop (n * line_length) line_length (xs ++ ys)) ∙ ap (drop (n * line_length)) (drop_at xs ys line_length e))

-- ---- the room

module _ (bytes : List ℕ) (wanted : List Bool) (room : List ℕ) (taken : read_answer bytes ≡ Ok tt) (long : bytes_needed wanted ≤ length room) where
  pub sends : send_answer bytes wanted room ≡ Ok (line_count wanted)
  unfolding send_answer sent_after
  sends =
      ap (λ (answer : Result ⊤ ReadError). sent_after answer wanted room) taken
      ∙ ap (λ (b : Bool). cond {A = Result ℕ SendError} b (Ok (line_count wanted)) (Err ShortRoom)) (le-leb (bytes_needed wanted) (length room) long)

  pub room_after_here : sent_into bytes wanted room ≡ end_to_end (lines_of (page_read bytes) wanted) ++ drop (bytes_needed wanted) room
  unfolding sent_into room_after
  room_after_here = ap (λ (answer : Result ℕ SendError). room_after answer (page_read bytes) wanted room) sends

  module _ (choice : length wanted ≡ last_row) where
    pub sent-lines : OfLineLength (lines_of (page_read bytes) wanted)
    sent-lines = lines_length (page_read bytes) (read_whole bytes taken) wanted choice

    pub sent-length : length (end_to_end (lines_of (page_read bytes) wanted)) ≡ bytes_needed wanted
    unfolding bytes_needed
    sent-length =
        length_end_to_end (lines_of (page_read bytes) wanted) sent-lines
        ∙ ap (λ (n : ℕ). n * line_length) (lines_count (page_read bytes) wanted)

    pub room-holds : take (bytes_needed wanted) (sent_into bytes wanted room) ≡ end_to_end (lines_of (page_read bytes) wanted)
    room-holds =
        ap (take (bytes_needed wanted)) room_after_here
        ∙ take_at (end_to_end (lines_of (page_read bytes) wanted)) (drop (bytes_needed wanted) room) (bytes_needed wanted) sent-length

-- ---- an answer that counts lines

-- was given for a record that the reader takes and a room that is long enough
pub record Counted (answer : Result ⊤ ReadError) (wanted : List Bool) (room : List ℕ) (count : ℕ) : Type 0 where
  pub taken : answer ≡ Ok tt
  pub lines : count ≡ line_count wanted
  pub enough : bytes_needed wanted ≤ length room

-- whether an answer counts lines, and how many
abbrev is_count : Result ℕ SendError → ℕ
is_count (Ok count) = 1
is_count (Err _) = 0

abbrev count_in : Result ℕ SendError → ℕ
count_in (Ok count) = count
count_in (Err _) = 0

counted_if : (fits : Bool) (wanted : List Bool) (room : List ℕ) (count : ℕ) → leb (bytes_needed wanted) (length room) ≡ fits
    → ◌≡◌ {A = Result ℕ SendError} (cond fits (Ok (line_count wanted)) (Err ShortRoom)) (Ok count) → Counted (Ok tt) wanted room count
counted_if true wanted room count e same = record { taken = refl; lines = sym (ap count_in same); enough = leb-true (bytes_needed wanted) (length room) e }
counted_if false wanted room count e same = absurd (never (ap is_count same))

counted_by : (answer : Result ⊤ ReadError) (wanted : List Bool) (room : List ℕ) (count : ℕ) → sent_after answer wanted room ≡ Ok count → Counted answer wanted room count
unfolding sent_after
counted_by (Ok _) wanted room count same = counted_if (leb (bytes_needed wanted) (length room)) wanted room count refl same
counted_by (Err error) wanted room count same = absurd (never (ap is_count same))

pub counted : (bytes : List ℕ) (wanted : List Bool) (room : List ℕ) (count : ℕ) → send_answer bytes wanted room ≡ Ok count
    → Counted (read_answer bytes) wanted room count
unfolding send_answer
counted bytes wanted room count same = counted_by (read_answer bytes) wanted room count same
