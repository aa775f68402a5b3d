-- No text is longer than there is room for it.
use Rattle.std.specs.Prelude.{Option, Some, None}
use mathlib.Core.Bool.{cond}
use mathlib.Core.List.{List, [], ◌++◌}
use Prim.Native.Nat.{ℕ, zero, suc, ◌+◌, ◌*◌, ◌^◌, ◌<◌, ◌≤◌}
use native.Mathlib.Omega.{arith}
use lib.Dec.{lit≤, ltb}
use lib.ListN.{length, take, drop, length-append}
use Rattle.grid.specs.Grid.{columns, rows}
use Rattle.laws.specs.Text.{line_feed}
use Rattle.laws.proofs.Keeps.{either}
use Rattle.page.specs.Reading.{page_read}
use Rattle.page.specs.Records.{record_length}
use Rattle.page.specs.declared.Cells.{Cells}
use Rattle.page.specs.declared.Page.{Page}
use Rattle.printing.specs.Letters.{utf8_page_size, utf8_page_text}
use Rattle.printing.proofs.Back.{utf8_most}
use Rattle.heading.proofs.Words.{line_length_law}
use Rattle.watch.specs.declared.Word.{Word}
use Rattle.watch.specs.declared.Word.TheVariants as word
use Rattle.announcing.specs.Private.{Printable}
use Rattle.announcing.specs.Said.{left_out_size, longest}
use Rattle.announcing.specs.Told.{announced, cells_text, fresh_characters, left_out_text, left_out_words, older_rows, one_older, page_line, page_said, row_number}
use Rattle.announcing.proofs.Fresh.{printable_read}

abbrev AtMost : ℕ → List ℕ → Type 0
AtMost most text = length text ≤ most

-- three bytes for each row
pub number_length : (row : ℕ) → length (row_number row) ≤ 3
unfolding row_number
number_length row = either (AtMost 3) (ltb row 10) _ _ (lit≤ tt) (lit≤ tt)

pub older_length : (count : ℕ) (marks : List ℕ) → length (older_rows count marks) ≤ 3 * count
unfolding older_rows
older_length zero marks = omega arith
older_length (suc row) marks =
    let before = older_length row marks in
    let this = either (AtMost 3) (one_older (take columns (drop (columns * row) marks))) (row_number row) [] (number_length row) (lit≤ tt) in
    let both = length-append (older_rows row marks) (cond (one_older (take columns (drop (columns * row) marks))) (row_number row) []) in
    omega arith

pub left_out_length : (marks : List ℕ) → length (left_out_text marks) ≤ left_out_size
unfolding left_out_text
left_out_length marks =
    let numbers = older_length rows marks in
    let inner = length-append (older_rows rows marks) line_feed in
    let whole = length-append left_out_words (older_rows rows marks ++ line_feed) in
    either (AtMost left_out_size) (one_older marks) (left_out_words ++ (older_rows rows marks ++ line_feed)) [] (omega arith) (omega arith)

-- ---- all that is said of a page

cells_length_law : (control : ℕ) (cells : Cells) → Printable cells → length (cells_text control cells) ≤ left_out_size + utf8_page_size
unfolding cells_text
cells_length_law control cells printable =
    let rows_out = left_out_length cells.marks in
    let text = utf8_most control (fresh_characters cells) printable.shown in
    let both = length-append (left_out_text cells.marks) (utf8_page_text control (fresh_characters cells)) in
    omega arith

said_length : (page : Page) → Printable page.cells → (mended : ℕ) → mended < 2 ^ 64 → (which : Option Word) → length (page_said which mended page) ≤ longest
unfolding page_said
said_length page printable mended counted None = omega arith
said_length page printable mended counted (Some word.Clean) =
    let cells = cells_length_law page.header.control page.cells printable in
    let line = line_length_law (Some word.Clean) page.magazine page.header mended counted in
    let both = length-append (page_line word.Clean mended page) (cells_text page.header.control page.cells) in
    omega arith
said_length page printable mended counted (Some word.Doubt) = let line = line_length_law (Some word.Doubt) page.magazine page.header mended counted in omega arith
said_length page printable mended counted (Some word.Missing) = let line = line_length_law (Some word.Missing) page.magazine page.header mended counted in omega arith

pub announced_length : (which : Option Word) (mended : ℕ) → mended < 2 ^ 64 → (lent : List ℕ) → length (announced which mended lent) ≤ longest
unfolding announced
announced_length which mended counted lent =
    let bytes = take record_length lent in
    said_length (page_read bytes) (printable_read bytes) mended counted which
