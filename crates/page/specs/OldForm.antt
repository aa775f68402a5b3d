-- The record and its reader as document 01 had them before document 02, request 5: 24 rows, 1,085 bytes, the four bits zero. No function promises these words. They say
-- what old records are, and what a reader that knows no other does with a new one.
use Rattle.std.specs.Prelude.{List, ℕ, ◌*◌, take, Result, ⊤}
use Rattle.grid.specs.Grid.{columns}
use Rattle.page.specs.Reading.{page_in_rows, read_answer_for}
use Rattle.page.specs.Records.{cells_of, old_rows, page_of, record_for, record_length_of}
use Rattle.page.specs.declared.Page.{Page}
use Rattle.page.specs.declared.ReadError.{ReadError}

abbrev pub old_length : ℕ
old_length = record_length_of old_rows

abbrev pub old_count : ℕ
old_count = old_rows * columns

-- a page's rows 0 to 23
unfoldable pub first_rows : Page → Page
first_rows page =
    page_of page.magazine page.header page.clean (cells_of (take old_count page.cells.characters) (take old_count page.cells.marks))

-- the old form's encoding
unfoldable pub old_record_of : Page → List ℕ
unfolding record_for first_rows
old_record_of page = record_for old_rows (first_rows page)

-- the old reader
unfoldable pub old_answer : List ℕ → Result ⊤ ReadError
unfolding read_answer_for
old_answer bytes = read_answer_for old_rows bytes

unfoldable pub old_page_in : List ℕ → Page
unfolding page_in_rows
old_page_in bytes = page_in_rows old_rows bytes
