-- For the contracts of private functions: no promise rests on these words.
use Rattle.std.specs.Prelude.{Bool, cond, false, List, ◌++◌, ℕ, ◌*◌, ◌/◌, get_or, take, drop, Result, Ok, Err, ⊤}
use Rattle.laws.specs.Fields.{bits_of, bytes_of, fields_bits, fields_of}
use Rattle.grid.specs.Grid.{cell_count, columns, rows}
use Rattle.packing.specs.Cells.{cell_bytes, group_cells}
use Rattle.packet.specs.declared.Header.{Header}
use Rattle.page.specs.Lawful.{cells_lawful}
use Rattle.page.specs.Records.{clean_from, code_from, head_length, head_values, head_widths, header_at, magazine_from, page_of, record_length, row_length}
use Rattle.page.specs.Writing.{page_answer}
use Rattle.page.specs.declared.Cells.{Cells}
use Rattle.page.specs.declared.Page.{Page}
use Rattle.page.specs.declared.ReadError.{ReadError}
use Rattle.page.specs.declared.ReadError.TheVariants.{UnlawfulCells}
use Rattle.page.specs.declared.WriteError.{WriteError}
use Rattle.page.specs.declared.reading.Head.{Head}

-- the groups of cells that fill whole bytes: those of a row, and all
abbrev pub row_groups : ℕ
row_groups = columns / group_cells

abbrev pub group_count : ℕ
group_count = cell_count / group_cells

-- the bytes of the cells
abbrev pub cells_length : ℕ
cells_length = rows * row_length

-- a record with the bytes of its cells stored
abbrev pub cells_stored : List ℕ → List ℕ → List ℕ → List ℕ
cells_stored marks characters lent = take head_length lent ++ cell_bytes cell_count cells_length marks characters ++ drop record_length lent

-- the bytes before the cells
unfoldable pub head_bytes : ℕ → Header → Bool → ℕ → List ℕ
unfolding bytes_of fields_bits head_values
head_bytes magazine header clean code = bytes_of head_length (fields_bits head_widths (head_values magazine header clean code))

-- a page's answer, from its parts
unfoldable pub parts_answer : ℕ → Header → Cells → Result ⊤ WriteError
unfolding page_answer
parts_answer magazine header cells = page_answer (page_of magazine header false cells)

-- the values before the cells in their bytes
unfoldable pub head_fields : List ℕ → List ℕ
unfolding bits_of fields_of
head_fields bytes = fields_of head_widths (bits_of bytes)

-- what they are
unfoldable pub head_from : List ℕ → Head
unfolding magazine_from header_at clean_from code_from
head_from values = record { magazine = magazine_from (get_or values 0 0); header = header_at values; clean = clean_from values; code = code_from values }

-- the page of a head and its cells, or 23
abbrev pub headed_read : Head → Cells → Result Page ReadError
headed_read head cells = cond (cells_lawful cells) (Ok (page_of head.magazine head.header head.clean cells)) (Err UnlawfulCells)
