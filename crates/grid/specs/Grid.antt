-- Document 01, with the row limit of document 02, request 5: the display grid of 25 by 40 cells. Every other number of a page or of its record comes from these.
use Rattle.std.specs.Prelude.{ℕ, ◌*◌, ◌-◌}

-- row 0, and the rows 1 to 24
abbrev pub rows : ℕ
rows = 25

abbrev pub columns : ℕ
columns = 40

abbrev pub cell_count : ℕ
cell_count = rows * columns

-- the last row that carries characters; rows past it are not stored
abbrev pub last_row : ℕ
last_row = rows - 1
