-- What is said of a page that closed. Nothing in doubt is ever read out: the text follows only where the page is clean, and it is what was sent this time and nothing
-- else. Cells that are not fresh are taken as spaces before the page is displayed, and one line says which rows stand there from earlier and were left out. By demand 3 (crate `demands`, A) each row
-- from 1 on of a page that closed clean is wholly fresh or has no fresh cell, so that whole rows are left out; nothing here needs it.
use Rattle.std.specs.Prelude.{Option, Some, None, Bool, cond, ℕ, zero, suc, ◌*◌, ◌/◌, ◌%◌, eqb, ltb, take, drop}
use Rattle.std.specs.List.{list_any}
use mathlib.Core.List.{List, [], ◌∷◌, ◌++◌, zip_with}
use Rattle.laws.specs.Text.{line_feed}
use Rattle.texts.specs.Decimal.{digit_text}
use Rattle.grid.specs.Grid.{columns, rows}
use Rattle.page.specs.Lawful.{is_fresh, older, space}
use Rattle.page.specs.Reading.{page_read}
use Rattle.page.specs.Records.{record_length}
use Rattle.page.specs.declared.Cells.{Cells}
use Rattle.page.specs.declared.Page.{Page}
use Rattle.printing.specs.Letters.{utf8_page_text}
use Rattle.heading.specs.Line.{line_text}
use Rattle.watch.specs.declared.Word.{Word}
use Rattle.watch.specs.declared.Word.TheVariants as word

-- ---- what was sent this time

-- a fresh cell's character, and a space for any other cell
unfoldable pub sent_now : ℕ → ℕ → ℕ
unfolding is_fresh
sent_now character mark = cond (is_fresh mark) character space

unfoldable pub fresh_characters : Cells → List ℕ
unfolding sent_now zip_with
fresh_characters cells = zip_with sent_now cells.characters cells.marks

-- ---- the rows that stand there from earlier

-- one of some cells is marked older
unfoldable pub one_older : List ℕ → Bool
one_older marks = list_any (λ mark. eqb mark older) marks

-- a row's number behind a space: " 9", " 10"
unfoldable pub row_number : ℕ → List ℕ
unfolding digit_text
row_number row =
    cond (ltb row 10) (0x20 ∷ digit_text row ∷ []) (0x20 ∷ digit_text (row / 10) ∷ digit_text (row % 10) ∷ [])

-- the numbers of those among so many rows of which a cell is marked older
unfoldable pub older_rows : ℕ → List ℕ → List ℕ
unfolding one_older row_number
older_rows zero marks = []
older_rows (suc row) marks = older_rows row marks ++ cond (one_older (take columns (drop (columns * row) marks))) (row_number row) []

-- "rows from earlier, left out:"
abbrev pub left_out_words : List ℕ
left_out_words =
    0x72 ∷ 0x6F ∷ 0x77 ∷ 0x73 ∷ 0x20 ∷ 0x66 ∷ 0x72 ∷ 0x6F ∷ 0x6D ∷ 0x20 ∷ 0x65 ∷ 0x61 ∷ 0x72 ∷ 0x6C ∷ 0x69 ∷ 0x65 ∷ 0x72 ∷ 0x2C
    ∷ 0x20 ∷ 0x6C ∷ 0x65 ∷ 0x66 ∷ 0x74 ∷ 0x20 ∷ 0x6F ∷ 0x75 ∷ 0x74 ∷ 0x3A ∷ []

-- no line where there are none
unfoldable pub left_out_text : List ℕ → List ℕ
unfolding one_older older_rows
left_out_text marks = cond (one_older marks) (left_out_words ++ (older_rows rows marks ++ line_feed)) []

-- ---- all that is said of a page, by the word and by how many bytes were mended in its own lines

-- the line that says what closed
abbrev pub page_line : Word → ℕ → Page → List ℕ
page_line which mended page = line_text (Some which) page.magazine page.header mended

-- of a clean page, behind its line: the rows that were left out, and the page in UTF-8, under its own control bits
unfoldable pub cells_text : ℕ → Cells → List ℕ
unfolding left_out_text fresh_characters utf8_page_text
cells_text control cells = left_out_text cells.marks ++ utf8_page_text control (fresh_characters cells)

unfoldable pub page_said : Option Word → ℕ → Page → List ℕ
unfolding line_text cells_text
page_said None mended page = []
page_said (Some word.Clean) mended page = page_line word.Clean mended page ++ cells_text page.header.control page.cells
page_said (Some word.Doubt) mended page = page_line word.Doubt mended page
page_said (Some word.Missing) mended page = page_line word.Missing mended page

-- of the record that was written as the page closed: what lies past it does not matter
unfoldable pub announced : Option Word → ℕ → List ℕ → List ℕ
unfolding page_said page_read
announced which mended lent = page_said which mended (page_read (take record_length lent))
