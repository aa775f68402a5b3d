-- Document 01, "Numbers of refusal": what 24, 22 and 23 ask, each over the whole of a page, and each part to be used alone.
use Rattle.std.specs.Prelude.{Bool, cond, not, ◌&&◌, ◌||◌, [], ℕ, eqb, leb, take, Result, Ok, Err, ⊤}
use Rattle.laws.specs.Every.{every, every_pair}
use Rattle.laws.specs.Fields.{fits}
use Rattle.laws.specs.Paper.{Paper, accepted, refused_by}
use Rattle.packet.specs.Headers.{header_values}
use Rattle.packet.specs.Texts.{header_column}
use Rattle.packet.specs.declared.Header.{Header}
use Rattle.page.specs.declared.Cells.{Cells}
use Rattle.page.specs.declared.CellsError.{CellsError}
use Rattle.page.specs.declared.CellsError.TheVariants.{TooLarge, Unlawful}
use Rattle.page.specs.declared.Page.{Page}
use Rattle.page.specs.Records.{header_widths, mark_width, character_width}

abbrev pub space : ℕ
space = 32

-- the marks: 0 never, 1 older, 2 fresh
abbrev pub never : ℕ
never = 0

abbrev pub older : ℕ
older = 1

abbrev pub fresh : ℕ
fresh = 2

abbrev pub highest_mark : ℕ
highest_mark = fresh

unfoldable pub is_never : ℕ → Bool
is_never mark = eqb mark never

unfoldable pub is_fresh : ℕ → Bool
is_fresh mark = eqb mark fresh

-- ---- 24: magazine not 1 to 8, or a part, mark or character too large for its bits

unfoldable pub magazine_fits : ℕ → Bool
magazine_fits magazine = leb 1 magazine && leb magazine 8

unfoldable pub header_fits : Header → Bool
unfolding every_pair fits header_values
header_fits header = every_pair fits header_widths (header_values header)

unfoldable pub cells_fit : Cells → Bool
unfolding every fits
cells_fit cells = every (fits mark_width) cells.marks && every (fits character_width) cells.characters

unfoldable pub page_fits : Page → Bool
unfolding magazine_fits header_fits cells_fit
page_fits page = magazine_fits page.magazine && (header_fits page.header && cells_fit page.cells)

-- ---- 22: page digit above 9

unfoldable pub digits_lawful : Header → Bool
digits_lawful header = leb header.tens 9 && leb header.units 9

-- ---- 23: mark 3; mark 0 with a character not 20; row 0 column 0 to 7 not marked 0

unfoldable pub cell_lawful : ℕ → ℕ → Bool
cell_lawful mark character = leb mark highest_mark && (not (eqb mark never) || eqb character space)

unfoldable pub cells_lawful : Cells → Bool
unfolding every_pair cell_lawful every is_never
cells_lawful cells = every_pair cell_lawful cells.marks cells.characters && every is_never (take header_column cells.marks)

-- ---- cells alone: 24 before 23

unfoldable pub cells_checked : Cells → Result ⊤ CellsError
unfolding cells_fit cells_lawful
cells_checked cells = cond (cells_fit cells) (cond (cells_lawful cells) (Ok tt) (Err Unlawful)) (Err TooLarge)

unfoldable pub cells_paper : Result ⊤ CellsError → Paper
unfolding accepted refused_by
cells_paper (Ok _) = accepted []
cells_paper (Err TooLarge) = refused_by 24 []
cells_paper (Err Unlawful) = refused_by 23 []
