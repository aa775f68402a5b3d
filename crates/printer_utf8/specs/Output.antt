-- Document 02, request 4: a page printer that writes UTF-8. To standard output it writes the page's lines alone, or only "refused" and the number, as the page printer does; to
-- standard error one line where English stands in, which says which value of C12 to C14 has no set.
use Rattle.std.specs.Prelude.{cond, ◌&&◌, List, [], ◌++◌, ℕ, ◌+◌, eqb, length}
use Rattle.std.proofs.Math.Option.{Option, none, some}
use Rattle.laws.specs.Text.{line_feed, refused_text}
use Rattle.letters.specs.Said.{stand_in_text}
use Rattle.letters.specs.Sets.{stands_in}
use Rattle.page.specs.Reading.{read_answer, read_paper, page_read}
use Rattle.page.specs.declared.Page.{Page}
use Rattle.printing.specs.Letters.{utf8_page_text}

-- the number of the reader's answer: it has always one
unfoldable pub number_of : List ℕ → Option ℕ
number_of input = (read_paper (read_answer input)).number

-- ---- standard output

unfoldable pub output_of : Option ℕ → Page → List ℕ
output_of none page = []
output_of (some number) page = cond (eqb number 0) (utf8_page_text page.header.control page.cells.characters) (refused_text number)

unfoldable pub output : List ℕ → List ℕ
unfolding output_of number_of
output input = output_of (number_of input) (page_read input)

-- ---- standard error

-- "English stands in for letter set 7"
abbrev pub english_line : ℕ → List ℕ
english_line control = stand_in_text control ++ line_feed

-- nothing is said of the letters of a record that is refused
unfoldable pub complaint_of : Option ℕ → ℕ → List ℕ
complaint_of none control = []
complaint_of (some number) control = cond (eqb number 0 && stands_in control) (english_line control) []

unfoldable pub complaint : List ℕ → List ℕ
unfolding complaint_of number_of
complaint input = complaint_of (number_of input) (page_read input).header.control

-- ---- how many bytes both are

unfoldable pub written : List ℕ → ℕ
unfolding complaint output
written input = length (complaint input) + length (output input)
