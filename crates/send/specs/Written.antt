-- What the program writes for a record and the rows that are wanted of it: to standard output the lines of one transmission and then the line that ends its
-- page; or nothing, and to standard error "refused" and the number.
use Rattle.std.specs.Prelude.{Bool, cond, List, [], ◌++◌, ℕ, ◌*◌, eqb, replicate}
use Rattle.std.proofs.Math.Option.{Option, none, some}
use Rattle.laws.specs.Text.{refused_text}
use Rattle.grid.specs.Grid.{rows}
use Rattle.packet.specs.Lines.{line_length}
use Rattle.page.specs.Reading.{page_read}
use Rattle.page.specs.declared.Page.{Page}
use Rattle.sending.specs.Closing.{closing_line}
use Rattle.sending.specs.Sending.{end_to_end, lines_of, send_answer, sent_paper}

-- there is room for every transmission
abbrev pub room : List ℕ
room = replicate (rows * line_length) 0

-- the number of the writer's answer: it has always one
unfoldable pub number_of : List ℕ → List Bool → Option ℕ
unfolding send_answer sent_paper
number_of input wanted = (sent_paper (send_answer input wanted room)).number

-- ---- standard output

unfoldable pub all_lines : Page → List Bool → List ℕ
unfolding end_to_end lines_of closing_line
all_lines page wanted = end_to_end (lines_of page wanted) ++ closing_line page

unfoldable pub output_of : Option ℕ → Page → List Bool → List ℕ
unfolding all_lines
output_of none page wanted = []
output_of (some number) page wanted = cond (eqb number 0) (all_lines page wanted) []

unfoldable pub output : List ℕ → List Bool → List ℕ
unfolding output_of number_of
output input wanted = output_of (number_of input wanted) (page_read input) wanted

-- ---- standard error

unfoldable pub complaint_of : Option ℕ → List ℕ
complaint_of none = []
complaint_of (some number) = cond (eqb number 0) [] (refused_text number)

unfoldable pub complaint : List ℕ → List Bool → List ℕ
unfolding complaint_of number_of
complaint input wanted = complaint_of (number_of input wanted)
