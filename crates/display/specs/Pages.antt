-- Document 02, request 1: a row alone, by whether 0D counts on it; which rows are doubled; what the row below a doubled one shows; the page. Then refusal 25, which
-- asks for the page's 1,000 codes, and the answer. With request 5, row 24 is one of the page's.
use Rattle.std.specs.Prelude.{Bool, true, false, not, cond, ◌&&◌, ◌||◌, List, [], ◌∷◌, ◌++◌, map, ℕ, zero, suc, ◌*◌, eqb, leb, length, take, drop, replicate, Result, Ok, Err}
use Rattle.laws.specs.Every.{every}
use Rattle.laws.specs.Paper.{Paper, accepted, refused_by}
use Rattle.grid.specs.Grid.{cell_count, columns, rows}
use Rattle.display.specs.Display.{along, space, start, within, zero_cell}
use Rattle.display.specs.declared.Cell.{Cell}
use Rattle.display.specs.declared.Height.{Height}
use Rattle.display.specs.declared.Height.TheVariants.{Normal, Upper, Lower}
use Rattle.display.specs.declared.NotAPage.{NotAPage}

-- ---- a row alone

abbrev pub double_code : ℕ
double_code = 0x0D

-- the rows on which 0D counts: 1 to 22
abbrev pub first_double : ℕ
first_double = 1

abbrev pub last_double : ℕ
last_double = 22

unfoldable pub may_double : ℕ → Bool
unfolding within
may_double row = within first_double last_double row

-- on rows 0, 23 and 24 the code 0D does nothing: it is read as 00, a control code with no effect
unfoldable pub read_as : Bool → ℕ → ℕ
read_as counts code = cond (not counts && eqb code double_code) 0x00 code

-- a row as its codes alone give it, by whether 0D counts on it
unfoldable pub alone : Bool → List ℕ → List Cell
unfolding along start read_as
alone counts codes = along start (map (read_as counts) codes)

unfoldable pub row_codes : List ℕ → ℕ → List ℕ
row_codes codes row = take columns (drop (columns * row) codes)

unfoldable pub row_alone : List ℕ → ℕ → List Cell
unfolding alone may_double row_codes
row_alone codes row = alone (may_double row) (row_codes codes row)

-- ---- which rows are doubled

-- has a 0D code, in whatever column, and whatever comes after it
unfoldable pub has_double : List ℕ → Bool
has_double [] = false
has_double (code ∷ codes) = eqb code double_code || has_double codes

-- from the top: row 0 is never doubled, and the row below a doubled one isn't searched for 0D itself
unfoldable pub doubled : List ℕ → ℕ → Bool
unfolding may_double has_double row_codes
doubled codes zero = false
doubled codes (suc above) = may_double (suc above) && (not (doubled codes above) && has_double (row_codes codes (suc above)))

-- ---- what the row below a doubled one shows

unfoldable pub is_double : Height → Bool
is_double Normal = false
is_double Upper = true
is_double Lower = true

-- that cell's lower half
unfoldable pub lower_half : Cell → Cell
lower_half cell =
    record {
      symbol = cell.symbol;
      foreground = cell.foreground;
      background = cell.background;
      flash = cell.flash;
      conceal = cell.conceal;
      boxed = cell.boxed;
      height = Lower;
    }

-- a space on that cell's background; all else is as in the cell above
unfoldable pub space_under : Cell → Cell
space_under cell =
    record {
      symbol = space;
      foreground = cell.foreground;
      background = cell.background;
      flash = cell.flash;
      conceal = cell.conceal;
      boxed = cell.boxed;
      height = Normal;
    }

-- under a double cell its lower half, under any other a space
unfoldable pub under : Cell → Cell
unfolding is_double lower_half space_under
under cell = cond (is_double cell.height) (lower_half cell) (space_under cell)

-- ---- the page

-- the row below a doubled one doesn't show its own characters
unfoldable pub row_shown : List ℕ → ℕ → List Cell
unfolding doubled row_alone under
row_shown codes zero = row_alone codes zero
row_shown codes (suc above) = cond (doubled codes above) (map under (row_alone codes above)) (row_alone codes (suc above))

-- the first so many rows, from the top
unfoldable pub rows_shown : List ℕ → ℕ → List Cell
unfolding row_shown
rows_shown codes zero = []
rows_shown codes (suc row) = rows_shown codes row ++ row_shown codes row

unfoldable pub page_cells : List ℕ → List Cell
unfolding rows_shown
page_cells codes = rows_shown codes rows

-- ---- refusal 25, and the answer

-- codes of 00 to 7F
unfoldable pub all_codes : List ℕ → Bool
unfolding every
all_codes codes = every (λ (code : ℕ). leb code 0x7F) codes

-- the page's 1,000 codes
unfoldable pub is_page : List ℕ → Bool
unfolding all_codes
is_page codes = eqb (length codes) cell_count && all_codes codes

-- a value due beside a refusal is all zeros
unfoldable pub zero_cells : List Cell
unfolding zero_cell
zero_cells = replicate cell_count zero_cell

-- the paper's answer, and the cells beside it
pub record Displayed : Type 0 where
  pub answer : Paper
  pub cells : List Cell

-- what is not 1,000 codes of 00 to 7F is refused by 25
unfoldable pub displayed : List ℕ → Displayed
unfolding is_page page_cells zero_cells accepted refused_by
displayed codes =
    cond (is_page codes)
    (record { answer = accepted []; cells = page_cells codes })
    (record { answer = refused_by 25 []; cells = zero_cells })

-- the paper's number and values of the answer: what is shown is no value of the paper's, but stands beside it
unfoldable pub display_answer_paper : {A : Type 0} → Result A NotAPage → Paper
unfolding accepted refused_by
display_answer_paper (Ok shown) = accepted []
display_answer_paper (Err refusal) = refused_by 25 []

-- the cells beside it
unfoldable pub cells_beside : Result (List Cell) NotAPage → List Cell
unfolding zero_cells
cells_beside (Ok cells) = cells
cells_beside (Err refusal) = zero_cells

unfoldable pub displayed_paper : Result (List Cell) NotAPage → Displayed
unfolding display_answer_paper cells_beside
displayed_paper page = record { answer = display_answer_paper page; cells = cells_beside page }
