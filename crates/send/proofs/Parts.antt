-- What is written, by the writer's answer.
use mathlib.Core.Path.{◌≡◌, refl, sym, ap, ◌∙◌}
use mathlib.Core.Bool.{Bool, true}
use mathlib.Core.List.{List, [], ◌++◌}
use mathlib.Core.Option.{Option, some}
use Prim.Native.Nat.{ℕ, ◌*◌, ◌≤◌}
use native.Mathlib.Omega.{arith}
use lib.ListN.{length, take, length-replicate}
use Rattle.std.specs.Prelude.{Result, Ok, Err, is_ok}
use Rattle.laws.specs.Paper.{Paper, refused_by}
use Rattle.laws.specs.Text.{refused_text}
use Rattle.grid.specs.Grid.{last_row, rows}
use Rattle.packet.specs.Lines.{line_length}
use Rattle.page.specs.Reading.{page_read, read_answer, read_number, read_paper}
use Rattle.page.specs.declared.Page.{Page}
use Rattle.page.specs.declared.ReadError.{ReadError}
use Rattle.page.specs.declared.ReadError.TheVariants.{WrongLength, WrongRowCode, BadDigit, UnlawfulCells}
use Rattle.page.proofs.Papers.{read_ok}
use Rattle.sending.specs.Closing.{closing_line}
use Rattle.sending.specs.Sending.{bytes_needed, send_answer, send_number, sent_into, sent_paper}
use Rattle.sending.specs.declared.SendError.{SendError}
use Rattle.sending.specs.declared.SendError.TheVariants.{Record, ShortRoom}
use Rattle.sending.proofs.Room.{Counted, counted, room-holds}
use Rattle.sending.proofs.Unique.{sent_is}
use Rattle.send.specs.Written.{all_lines, complaint, complaint_of, number_of, output, output_of, room}

module _ (bytes : List ℕ) (wanted : List Bool) (sent : Result ℕ SendError) (answered : sent_paper sent ≡ sent_paper (send_answer bytes wanted room)) where
  -- the number, by the writer's answer
  number_is : (sent_paper sent).number ≡ number_of bytes wanted
  unfolding number_of
  number_is = ap (λ (p : Paper). p.number) answered

  -- what is said and what is written then
  said_is : (complaint_of (sent_paper sent).number ≡ complaint bytes wanted) × (output bytes wanted ≡ output_of (sent_paper sent).number (page_read bytes) wanted)
  unfolding complaint output
  said_is = (ap complaint_of number_is, ap (λ (n : Option ℕ). output_of n (page_read bytes) wanted) (sym number_is))

-- a refusal's line is all that is said, and nothing is written
module _ (bytes : List ℕ) (wanted : List Bool) (error : SendError) (answered : sent_paper (Err error) ≡ sent_paper (send_answer bytes wanted room)) where
  pub refusal_is : (refused_text (send_number error) ≡ complaint bytes wanted) × (output bytes wanted ≡ [])
  unfolding sent_paper refused_by complaint_of output_of send_number read_number
  refusal_is = (sym (line error) ∙ (said_is bytes wanted (Err error) answered).0, (said_is bytes wanted (Err error) answered).1 ∙ none_written error)
    where
      line : (error : SendError) → complaint_of (some (send_number error)) ≡ refused_text (send_number error)
      line (Record WrongLength) = refl
      line (Record WrongRowCode) = refl
      line (Record BadDigit) = refl
      line (Record UnlawfulCells) = refl
      line ShortRoom = refl

      none_written : (error : SendError) → output_of (some (send_number error)) (page_read bytes) wanted ≡ []
      none_written (Record WrongLength) = refl
      none_written (Record WrongRowCode) = refl
      none_written (Record BadDigit) = refl
      none_written (Record UnlawfulCells) = refl
      none_written ShortRoom = refl

module _ (bytes : List ℕ) (wanted : List Bool) (count : ℕ) (answered : sent_paper (Ok count) ≡ sent_paper (send_answer bytes wanted room)) where
  told : Counted (read_answer bytes) wanted room count
  told = counted bytes wanted room count (sym (sent_is (Ok count) (send_answer bytes wanted room) answered))

  -- the record is read a second time, and so it is no refusal
  pub read_again : (given : Result Page ReadError) → read_paper given ≡ read_paper (read_answer bytes) → is_ok given ≡ true
  read_again given is = read_ok given (read_answer bytes) is ∙ ap is_ok told.taken

  -- the lines have room
  pub lines_fit : count * line_length ≤ rows * line_length
  unfolding bytes_needed
  lines_fit = omega (arith, told.lines, told.enough, length-replicate {A = ℕ} (rows * line_length) 0)

  -- what the room holds up to their end, and the closing line, are all that is to be written
  pub output-is : length wanted ≡ last_row → (after : List ℕ) → after ≡ sent_into bytes wanted room → (page : Page) → page ≡ page_read bytes
      → (closing : List ℕ) → closing ≡ closing_line page → take (count * line_length) after ++ closing ≡ output bytes wanted
  unfolding sent_paper output_of all_lines bytes_needed
  output-is choice after left page read closing ends =
      let lines = (λ i. take (told.lines i * line_length) (left i)) ∙ room-holds bytes wanted room told.taken told.enough choice in
      (λ i. lines i ++ (ends ∙ ap closing_line read) i) ∙ sym (said_is bytes wanted (Ok count) answered).1
