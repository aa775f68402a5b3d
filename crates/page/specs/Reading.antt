-- Document 01, "Numbers of refusal", the record reader: 20 to 23, in that order; beside a refusal the page is all zeros. By document 02, request 5, it takes both
-- forms: 20 and 21 with the lengths and the row codes of both, and an old record gives row 24 as spaces marked never.
use Rattle.std.specs.Prelude.{cond, false, List, [], ◌++◌, ℕ, ◌-◌, eqb, length, replicate, Result, Ok, Err, ⊤}
use Rattle.laws.specs.Paper.{Paper, accepted, refused_by}
use Rattle.grid.specs.Grid.{cell_count, rows}
use Rattle.packet.specs.Headers.{zero_header}
use Rattle.page.specs.Lawful.{digits_lawful, cells_lawful, never, space}
use Rattle.page.specs.Records.{cells_of, code_from, old_rows, page_from, page_of, record_length_of, row_code, values_in, zero_cells}
use Rattle.page.specs.declared.Cells.{Cells}
use Rattle.page.specs.declared.Page.{Page}
use Rattle.page.specs.declared.ReadError.{ReadError}
use Rattle.page.specs.declared.ReadError.TheVariants.{WrongLength, WrongRowCode, BadDigit, UnlawfulCells}

-- all zeros, literally: characters 00, marks 0, magazine 0
unfoldable pub zero_page : Page
unfolding zero_header zero_cells
zero_page = page_of 0 zero_header false zero_cells

-- ---- a record of so many rows

-- the page of its bytes, whether it is lawful or not
unfoldable pub page_in_rows : ℕ → List ℕ → Page
unfolding page_from values_in
page_in_rows count bytes = page_from (values_in count bytes)

-- what bytes give that are read as one: 20 by their length, 21 by their row code
unfoldable pub read_answer_for : ℕ → List ℕ → Result ⊤ ReadError
unfolding code_from values_in page_in_rows digits_lawful cells_lawful
read_answer_for count bytes =
    cond (eqb (length bytes) (record_length_of count))
    (cond (eqb (code_from (values_in count bytes)) (row_code count))
    (cond (digits_lawful (page_in_rows count bytes).header) (cond (cells_lawful (page_in_rows count bytes).cells) (Ok tt) (Err UnlawfulCells)) (Err BadDigit))
    (Err WrongRowCode))
    (Err WrongLength)

-- ---- a record of either form, by its length

unfoldable pub rows_in : List ℕ → ℕ
rows_in bytes = cond (eqb (length bytes) (record_length_of old_rows)) old_rows rows

unfoldable pub read_answer : List ℕ → Result ⊤ ReadError
unfolding rows_in read_answer_for
read_answer bytes = read_answer_for (rows_in bytes) bytes

-- cells as many as the grid's: the rest are spaces marked never
unfoldable pub filled : Cells → Cells
filled cells =
    let rest = cell_count - length cells.characters in
    cells_of (cells.characters ++ replicate rest space) (cells.marks ++ replicate rest never)

unfoldable pub filled_page : Page → Page
unfolding filled
filled_page page = page_of page.magazine page.header page.clean (filled page.cells)

unfoldable pub page_in : List ℕ → Page
unfolding filled_page page_in_rows rows_in
page_in bytes = filled_page (page_in_rows (rows_in bytes) bytes)

-- ---- what is given

unfoldable pub read_number : ReadError → ℕ
read_number WrongLength = 20
read_number WrongRowCode = 21
read_number BadDigit = 22
read_number UnlawfulCells = 23

-- whatever an accepted answer holds
unfoldable pub read_paper : {A : Type 0} → Result A ReadError → Paper
unfolding accepted refused_by read_number
read_paper (Ok _) = accepted []
read_paper (Err error) = refused_by (read_number error) []

-- the page beside each answer
unfoldable pub page_beside : Result ⊤ ReadError → List ℕ → Page
unfolding page_in zero_page
page_beside (Ok _) bytes = page_in bytes
page_beside (Err _) bytes = zero_page

unfoldable pub page_read : List ℕ → Page
unfolding page_beside read_answer
page_read bytes = page_beside (read_answer bytes) bytes

-- the page that an answer gives: all zeros where it is a refusal
unfoldable pub page_given : Result Page ReadError → Page
unfolding zero_page
page_given (Ok page) = page
page_given (Err _) = zero_page
