-- Document 01, "Programs": the page printer takes a record and prints its lines, 25 by request 5. Nothing is trimmed, and every line ends in a line feed. By request 1 of document
-- 02 a line is a row of the page's cells; what is refused is what the display refuses, by 25.
use Rattle.std.specs.Prelude.{cond, List, [], ◌++◌, map, ℕ, zero, suc, ◌+◌, ◌*◌, take, drop, replicate, Result, Ok, Err}
use Rattle.laws.specs.Paper.{accepted, refused_by}
use Rattle.laws.specs.Text.{line_feed}
use Rattle.grid.specs.Grid.{columns, rows}
use Rattle.display.specs.Pages.{display_answer_paper, is_page, page_cells}
use Rattle.display.specs.declared.Cell.{Cell}
use Rattle.display.specs.declared.NotAPage.{NotAPage}
use Rattle.printing.specs.Printed.{Printed, cell_byte}

-- a row's characters and its line feed, and so many rows
abbrev pub line_size : ℕ
line_size = columns + 1

abbrev pub page_size : ℕ
page_size = rows * line_size

unfoldable pub line_text : List Cell → List ℕ
unfolding cell_byte
line_text cells = map cell_byte cells ++ line_feed

-- so many lines, each of the next 40 cells
unfoldable pub lines_text : ℕ → List Cell → List ℕ
unfolding line_text
lines_text zero cells = []
lines_text (suc count) cells = line_text (take columns cells) ++ lines_text count (drop columns cells)

unfoldable pub page_text : List ℕ → List ℕ
unfolding lines_text page_cells
page_text codes = lines_text rows (page_cells codes)

-- the answer, and the text beside it, which is zeros beside a refusal
unfoldable pub printed_page : List ℕ → Printed
unfolding is_page accepted refused_by page_text
printed_page codes =
    cond (is_page codes)
    (record { answer = accepted []; bytes = page_text codes })
    (record { answer = refused_by 25 []; bytes = replicate page_size 0 })

-- the bytes beside an answer
unfoldable pub bytes_beside : Result (List ℕ) NotAPage → List ℕ
bytes_beside (Ok text) = text
bytes_beside (Err refusal) = replicate page_size 0

unfoldable pub page_paper : Result (List ℕ) NotAPage → Printed
unfolding display_answer_paper bytes_beside
page_paper page = record { answer = display_answer_paper page; bytes = bytes_beside page }
