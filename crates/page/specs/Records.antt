-- Document 01, "The page record", with the row code of document 02, request 5: bit-packed, most significant first: magazine 3 (0 for 8), page tens 4, units 4,
-- hours tens 2, units 4, minutes tens 3, units 4, C4 to C14 in order 11, clean 1, row code 4; then the cells row by row, mark 2 and character 7. The form is said
-- for any number of rows: the old form has 24, in all 1,085 bytes; the new one has the grid's, in all 1,130.
use Rattle.std.specs.Prelude.{Bool, cond, List, [], ◌∷◌, ◌++◌, ℕ, ◌+◌, ◌*◌, ◌%◌, eqb, get_or, drop, length, replicate}
use Rattle.laws.specs.Fields.{fields_bits, fields_of, bytes_of, bits_of}
use Rattle.grid.specs.Grid.{rows, columns, cell_count}
use Rattle.packet.specs.Headers.{header_values}
use Rattle.packet.specs.declared.Header.{Header}
use Rattle.packing.specs.Cells.{cell_values, cell_widths, characters_from, marks_from}
use Rattle.page.specs.declared.Cells.{Cells}
use Rattle.page.specs.declared.Page.{Page}
pub use Rattle.packing.specs.Cells.{character_width, mark_width}

-- the bytes before the cells
abbrev pub head_length : ℕ
head_length = 5

-- each row is 45 whole bytes
abbrev pub row_length : ℕ
row_length = 45

abbrev pub record_length_of : ℕ → ℕ
record_length_of count = head_length + count * row_length

abbrev pub record_length : ℕ
record_length = record_length_of rows

-- the rows of the old form
abbrev pub old_rows : ℕ
old_rows = 24

-- the row code: 0 is the old form, 1 the new
abbrev pub row_code : ℕ → ℕ
row_code count = cond (eqb count old_rows) 0 1

-- ---- the widths

abbrev pub magazine_width : ℕ
magazine_width = 3

-- page tens and units, hours tens and units, minutes tens and units, C4 to C14
abbrev pub header_widths : List ℕ
header_widths = 4 ∷ 4 ∷ 2 ∷ 4 ∷ 3 ∷ 4 ∷ 11 ∷ []

abbrev pub clean_width : ℕ
clean_width = 1

abbrev pub code_width : ℕ
code_width = 4

-- the widths before the cells
abbrev pub head_widths : List ℕ
head_widths = magazine_width ∷ header_widths ++ (clean_width ∷ code_width ∷ [])

unfoldable pub record_widths_of : ℕ → List ℕ
unfolding cell_widths
record_widths_of count = head_widths ++ cell_widths (count * columns)

-- ---- the values of a page, in their order

abbrev pub cells_of : List ℕ → List ℕ → Cells
cells_of characters marks = record { characters = characters; marks = marks }

-- a page of its parts
abbrev pub page_of : ℕ → Header → Bool → Cells → Page
page_of magazine header clean cells = record { magazine = magazine; header = header; clean = clean; cells = cells }

-- the zero of cells: characters 00, marks 0
unfoldable pub zero_cells : Cells
zero_cells = cells_of (replicate cell_count 0) (replicate cell_count 0)

-- 0 for 8
unfoldable pub magazine_value : ℕ → ℕ
magazine_value magazine = magazine % 8

unfoldable pub head_values : ℕ → Header → Bool → ℕ → List ℕ
unfolding magazine_value header_values
head_values magazine header clean code = magazine_value magazine ∷ header_values header ++ (cond clean 1 0 ∷ code ∷ [])

-- in a record of so many rows
unfoldable pub values_of : ℕ → Page → List ℕ
unfolding head_values cell_values
values_of count page =
    head_values page.magazine page.header page.clean (row_code count) ++ cell_values page.cells.marks page.cells.characters

-- the record of a page of so many rows
unfoldable pub record_for : ℕ → Page → List ℕ
unfolding bytes_of fields_bits record_widths_of values_of
record_for count page = bytes_of (record_length_of count) (fields_bits (record_widths_of count) (values_of count page))

-- a page's record, in the new form
unfoldable pub record_of : Page → List ℕ
unfolding record_for
record_of page = record_for rows page

-- ---- and back: the values in a record's bytes, and the page that they are

-- of a record of so many rows
unfoldable pub values_in : ℕ → List ℕ → List ℕ
unfolding bits_of fields_of record_widths_of
values_in count bytes = fields_of (record_widths_of count) (bits_of bytes)

-- 0 is 8
unfoldable pub magazine_from : ℕ → ℕ
magazine_from value = cond (eqb value 0) 8 value

-- the page header's values follow the magazine
unfoldable pub header_at : List ℕ → Header
header_at values =
    record {
      tens = get_or values 1 0;
      units = get_or values 2 0;
      hours_tens = get_or values 3 0;
      hours_units = get_or values 4 0;
      minutes_tens = get_or values 5 0;
      minutes_units = get_or values 6 0;
      control = get_or values 7 0;
    }

unfoldable pub clean_from : List ℕ → Bool
clean_from values = eqb (get_or values 8 0) 1

unfoldable pub code_from : List ℕ → ℕ
code_from values = get_or values 9 0

unfoldable pub cells_from : List ℕ → Cells
unfolding marks_from characters_from
cells_from values = cells_of (characters_from values) (marks_from values)

unfoldable pub page_from : List ℕ → Page
unfolding magazine_from header_at clean_from cells_from
page_from values =
    page_of (magazine_from (get_or values 0 0)) (header_at values) (clean_from values) (cells_from (drop (length head_widths) values))
