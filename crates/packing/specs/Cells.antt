-- Document 01, "The page record": bit-packed, most significant first: cells row by row, mark 2 and character 7. So eight cells are nine whole bytes.
use Rattle.std.specs.Prelude.{List, [], ◌∷◌, ℕ, zero, suc, get_or, take}
use Rattle.laws.specs.Fields.{fields_bits, fields_of, bytes_of, bits_of}
use Rattle.packing.specs.declared.EightCells.{EightCells}
use Rattle.packing.specs.declared.NineBytes.{NineBytes}

abbrev pub mark_width : ℕ
mark_width = 2

abbrev pub character_width : ℕ
character_width = 7

-- ---- cells in bytes

-- the widths of so many cells, mark and character each
unfoldable pub cell_widths : ℕ → List ℕ
cell_widths zero = []
cell_widths (suc count) = mark_width ∷ character_width ∷ cell_widths count

-- each cell's mark and character, from the marks and the characters
unfoldable pub cell_values : List ℕ → List ℕ → List ℕ
cell_values [] characters = []
cell_values (mark ∷ marks) [] = []
cell_values (mark ∷ marks) (character ∷ characters) = mark ∷ character ∷ cell_values marks characters

-- so many cells in so many bytes
unfoldable pub cell_bytes : ℕ → ℕ → List ℕ → List ℕ → List ℕ
unfolding bytes_of fields_bits cell_widths cell_values
cell_bytes count bytes marks characters = bytes_of bytes (fields_bits (cell_widths count) (cell_values marks characters))

-- ---- and back

-- the values of so many cells in their bytes
unfoldable pub cell_fields : ℕ → List ℕ → List ℕ
unfolding bits_of fields_of cell_widths
cell_fields count bytes = fields_of (cell_widths count) (bits_of bytes)

-- every other value, mark first
unfoldable pub marks_from : List ℕ → List ℕ
marks_from [] = []
marks_from (mark ∷ []) = []
marks_from (mark ∷ character ∷ values) = mark ∷ marks_from values

unfoldable pub characters_from : List ℕ → List ℕ
characters_from [] = []
characters_from (mark ∷ []) = []
characters_from (mark ∷ character ∷ values) = character ∷ characters_from values

-- ---- a group: eight cells in nine bytes, of which the last stands by itself

abbrev pub group_cells : ℕ
group_cells = 8

abbrev pub group_bytes : ℕ
group_bytes = 9

abbrev pub nine_from : List ℕ → NineBytes
nine_from bytes = record { first = take 8 bytes; last = get_or bytes 8 0 }

unfoldable pub eight_from : List ℕ → EightCells
unfolding marks_from characters_from
eight_from values = record { marks = marks_from values; characters = characters_from values }
