-- Document 01, "Programs": the page printer takes a record and prints its lines, 25 by document 02, request 5, or only "refused" and the number.
use Rattle.std.specs.Prelude.{cond, List, [], ℕ, eqb}
use Rattle.std.proofs.Math.Option.{Option, none, some}
use Rattle.laws.specs.Text.{refused_text}
use Rattle.page.specs.Reading.{read_answer, read_paper, page_read}
use Rattle.printing.specs.Pages.{page_text}

-- by the number of the reader's answer, which has always one
unfoldable pub output_of : Option ℕ → List ℕ → List ℕ
output_of none characters = []
output_of (some number) characters = cond (eqb number 0) (page_text characters) (refused_text number)

-- all that the printer prints
unfoldable pub output : List ℕ → List ℕ
unfolding output_of
output input = output_of (read_paper (read_answer input)).number (page_read input).cells.characters
