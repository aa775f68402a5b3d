-- Document 02, request 2, with request 5: from a page record and a yes or no for each row 1 to 24, the data-lines of one transmission, header first with C4 set, rows
-- rising. Room past the lines stays. Refusals: 20 to 23 in their order, then 30, lent room shorter than 45 bytes for each line.
use Rattle.std.specs.Prelude.{Bool, true, false, cond, List, [], ◌∷◌, ◌++◌, map, ℕ, suc, ◌+◌, ◌*◌, ◌%◌, leb, length, take, drop, Result, Ok, Err, ⊤}
use Rattle.laws.specs.Paper.{Paper, accepted, refused_by}
use Rattle.grid.specs.Grid.{columns}
use Rattle.packet.specs.Lines.{line_length}
use Rattle.packet.specs.Writing.{c4_weight, data_line, header_packet, row_packet}
use Rattle.packet.specs.declared.Header.{Header}
use Rattle.page.specs.Reading.{page_read, read_answer, read_number}
use Rattle.page.specs.declared.Page.{Page}
use Rattle.page.specs.declared.ReadError.{ReadError}
use Rattle.sending.specs.declared.SendError.{SendError}
use Rattle.sending.specs.declared.SendError.TheVariants.{Record, ShortRoom}

-- ---- the rows

-- the rows with a yes, where the first answer is for this row
unfoldable pub chosen_from : ℕ → List Bool → List ℕ
chosen_from row [] = []
chosen_from row (true ∷ wanted) = row ∷ chosen_from (suc row) wanted
chosen_from row (false ∷ wanted) = chosen_from (suc row) wanted

-- the first answer is for row 1
unfoldable pub chosen_rows : List Bool → List ℕ
unfolding chosen_from
chosen_rows wanted = chosen_from 1 wanted

-- ---- the lines

-- C4 is sent set whatever the record says; C5 to C14, digits and time as the record has them
unfoldable pub with_c4 : Header → Header
with_c4 header =
    record {
      tens = header.tens;
      units = header.units;
      hours_tens = header.hours_tens;
      hours_units = header.hours_units;
      minutes_tens = header.minutes_tens;
      minutes_units = header.minutes_units;
      control = c4_weight + header.control % c4_weight;
    }

-- the forty characters of a row, whatever their marks
abbrev pub row_characters : List ℕ → ℕ → List ℕ
row_characters characters row = take columns (drop (row * columns) characters)

unfoldable pub header_line : Page → List ℕ
unfolding data_line header_packet with_c4
header_line page = data_line (header_packet page.magazine (with_c4 page.header) (row_characters page.cells.characters 0))

unfoldable pub row_line : Page → ℕ → List ℕ
unfolding data_line row_packet
row_line page row = data_line (row_packet page.magazine row (row_characters page.cells.characters row))

-- the lines of one transmission
unfoldable pub lines_of : Page → List Bool → List (List ℕ)
unfolding header_line row_line chosen_rows
lines_of page wanted = header_line page ∷ map (row_line page) (chosen_rows wanted)

-- end to end
unfoldable pub end_to_end : List (List ℕ) → List ℕ
end_to_end [] = []
end_to_end (line ∷ lines) = line ++ end_to_end lines

-- ---- the answer

-- the number of lines: the header's and one for each row
unfoldable pub line_count : List Bool → ℕ
unfolding chosen_rows
line_count wanted = suc (length (chosen_rows wanted))

-- 45 bytes for each line
unfoldable pub bytes_needed : List Bool → ℕ
unfolding line_count
bytes_needed wanted = line_count wanted * line_length

-- after what the reader says of the record
unfoldable pub sent_after : Result ⊤ ReadError → List Bool → List ℕ → Result ℕ SendError
unfolding bytes_needed line_count
sent_after (Ok _) wanted room = cond (leb (bytes_needed wanted) (length room)) (Ok (line_count wanted)) (Err ShortRoom)
sent_after (Err error) wanted room = Err (Record error)

unfoldable pub send_answer : List ℕ → List Bool → List ℕ → Result ℕ SendError
unfolding sent_after
send_answer bytes wanted room = sent_after (read_answer bytes) wanted room

unfoldable pub send_number : SendError → ℕ
unfolding read_number
send_number (Record error) = read_number error
send_number ShortRoom = 30

unfoldable pub sent_paper : Result ℕ SendError → Paper
unfolding accepted refused_by send_number
sent_paper (Ok count) = accepted (count ∷ [])
sent_paper (Err error) = refused_by (send_number error) []

-- ---- the room

-- the lent room after each answer
unfoldable pub room_after : Result ℕ SendError → Page → List Bool → List ℕ → List ℕ
unfolding end_to_end lines_of bytes_needed
room_after (Ok count) page wanted room = end_to_end (lines_of page wanted) ++ drop (bytes_needed wanted) room
room_after (Err (Record error)) page wanted room = room
room_after (Err ShortRoom) page wanted room = room

unfoldable pub sent_into : List ℕ → List Bool → List ℕ → List ℕ
unfolding room_after send_answer
sent_into bytes wanted room = room_after (send_answer bytes wanted room) (page_read bytes) wanted room
