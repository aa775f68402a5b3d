-- For the contracts of private functions: no promise rests on these words.
use Rattle.std.specs.Prelude.{Bool, cond, List, ◌++◌, map, ℕ, ◌+◌, ◌*◌, take, drop}
use Rattle.packet.specs.Lines.{line_length}
use Rattle.sending.specs.Sending.{bytes_needed, chosen_rows, end_to_end}

-- a line stored in the room as the next, behind so many
abbrev pub line_stored : List ℕ → ℕ → List ℕ → List ℕ
line_stored line count room = take (count * line_length) room ++ line ++ drop (count * line_length + line_length) room

-- where it is wanted
abbrev pub stored_if : Bool → List ℕ → ℕ → List ℕ → List ℕ
stored_if wanted line count room = cond wanted (line_stored line count room) room

-- the lines of all rows that are wanted, behind the first line of the room
unfoldable pub rows_stored : (ℕ → List ℕ) → List Bool → List ℕ → List ℕ
unfolding end_to_end chosen_rows bytes_needed
rows_stored line wanted room = take line_length room ++ end_to_end (map line (chosen_rows wanted)) ++ drop (bytes_needed wanted) room
