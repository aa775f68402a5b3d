-- A page's text as it is built: so many lines, each with its line feed, and line feeds alone behind them.
use mathlib.Core.Path.{◌≡◌, refl, sym, ◌∙◌, ap}
use mathlib.Core.List.{List, ◌++◌, append_assoc, append-nil, map}
use Prim.Native.Nat.{ℕ, zero, suc, ◌+◌, ◌-◌, ◌*◌, ◌/◌, ◌<◌, ◌≤◌}
use native.Mathlib.Numerals.{add-one}
use native.Mathlib.Omega.{arith}
use lib.ListN.{length, get_or, set, take, drop, replicate, length-append, length-drop, length-map, length-replicate, length-take}
use lib.Seq.{take_all, take_at, drop_at, drop-drop, paste, paste-zero, paste-suc}
use Rattle.laws.specs.Text.{line_feed}
use Rattle.laws.proofs.Lists.{drop_replicate, get_d_map, get_d_part, length_part}
use Rattle.grid.specs.Grid.{cell_count, columns, rows}
use Rattle.display.specs.Display.{zero_cell}
use Rattle.display.specs.Pages.{page_cells}
use Rattle.display.specs.declared.Cell.{Cell}
use Rattle.printing.specs.Printed.{cell_byte}
use Rattle.printing.specs.Pages.{line_size, line_text, lines_text, page_size, page_text}

-- the cells of a row, and their bytes
abbrev pub row_cells : List Cell → ℕ → List Cell
row_cells cells row = take columns (drop (columns * row) cells)

abbrev pub row_bytes : List Cell → ℕ → List ℕ
row_bytes cells row = map cell_byte (row_cells cells row)

line_length_law : (cells : List Cell) → length cells ≡ columns → length (line_text cells) ≡ line_size
unfolding line_text
line_length_law cells forty = length-append (map cell_byte cells) line_feed ∙ ap (λ (n : ℕ). n + 1) (length-map cells cell_byte ∙ forty)

pub lines_length : (count : ℕ) (cells : List Cell) → columns * count ≤ length cells → length (lines_text count cells) ≡ line_size * count
unfolding lines_text
lines_length zero cells h = refl
lines_length (suc count) cells h =
    let first = line_length_law (take columns cells) (length_part cells 0 columns (omega arith)) in
    let dropped = length-drop columns cells in
    let others = lines_length count (drop columns cells) (omega arith) in
    length-append (line_text (take columns cells)) (lines_text count (drop columns cells))
    ∙ (let e : length (line_text (take columns cells)) + length (lines_text count (drop columns cells)) ≡ line_size * suc count = omega arith in e)

-- whatever the cells are, no more than that
line_most : (cells : List Cell) → length cells ≤ columns → length (line_text cells) ≤ line_size
unfolding line_text
line_most cells few =
    let bytes = length-map cells cell_byte in
    let whole = length-append (map cell_byte cells) line_feed in
    omega arith

lines_most : (count : ℕ) (cells : List Cell) → length (lines_text count cells) ≤ line_size * count
unfolding lines_text
lines_most zero cells = omega arith
lines_most (suc count) cells =
    let few = length-take columns cells in
    let first = line_most (take columns cells) (omega arith) in
    let others = lines_most count (drop columns cells) in
    let whole = length-append (line_text (take columns cells)) (lines_text count (drop columns cells)) in
    omega arith

pub page_most : (codes : List ℕ) → length (page_text codes) ≤ page_size
unfolding page_text
page_most codes = let most = lines_most rows (page_cells codes) in omega arith

-- one line more at the end
lines_more : (row : ℕ) (cells : List Cell) → lines_text (suc row) cells ≡ lines_text row cells ++ line_text (row_cells cells row)
unfolding lines_text
lines_more zero cells = append-nil (line_text (take columns cells))
lines_more (suc row) cells =
    let first = line_text (take columns cells) in
    let further : columns + columns * row ≡ columns * suc row = omega arith in
    let from = drop-drop (columns * row) columns cells ∙ ap (λ (n : ℕ). drop n cells) further in
    ap (λ (text : List ℕ). first ++ text) (lines_more row (drop columns cells))
    ∙ (sym (append_assoc first (lines_text row (drop columns cells)) (line_text (row_cells (drop columns cells) row)))
    ∙ ap (λ (behind : List Cell). (first ++ lines_text row (drop columns cells)) ++ line_text (take columns behind)) from)

-- ---- the text as it is built, line by line

feeds : ℕ → List ℕ
feeds count = replicate count 0x0A

up_to : List Cell → ℕ → List ℕ
up_to cells row = lines_text row cells ++ feeds (line_size * (rows - row))

all_there : (cells : List Cell) → up_to cells rows ≡ lines_text rows cells
unfolding up_to feeds
all_there cells = append-nil (lines_text rows cells)

-- ---- and cell by cell

module _ (cells : List Cell) where
  -- the text after so many cells, each stored at its place behind the line feeds of the rows before it
  pub laid : ℕ → List ℕ
  laid zero = replicate page_size 0x0A
  laid (suc place) = set (laid place) (place + place / columns) (cell_byte (get_or cells place zero_cell))

  pub none-laid : laid 0 ≡ replicate page_size 0x0A
  unfolding laid
  none-laid = refl

  pub one-laid : (place : ℕ) → set (laid place) (place + place / columns) (cell_byte (get_or cells place zero_cell)) ≡ laid (place + 1)
  unfolding laid
  one-laid place = ap laid (sym (add-one place))

-- ---- which is the same

module _ (cells : List Cell) (whole : length cells ≡ cell_count) where
  up-to-length : (row : ℕ) → row ≤ rows → length (up_to cells row) ≡ page_size
  unfolding up_to feeds
  up-to-length row h =
      let there = lines_length row cells (omega arith) in
      let behind = length-replicate {A = ℕ} (line_size * (rows - row)) 0x0A in
      length-append (lines_text row cells) (feeds (line_size * (rows - row)))
      ∙ (let e : length (lines_text row cells) + length (replicate (line_size * (rows - row)) 0x0A) ≡ page_size = omega arith in e)

  row-forty : (row : ℕ) → row < rows → length (row_bytes cells row) ≡ columns
  row-forty row h = length-map (row_cells cells row) cell_byte ∙ length_part cells (columns * row) columns (omega arith)

  -- a row's bytes laid behind those before it: its line feed is there already
  module _ (row : ℕ) (h : row < rows) where
    before : List ℕ
    before = lines_text row cells

    behind : List ℕ
    behind = feeds (line_size * (rows - (row + 1)))

    long : length (lines_text row cells) ≡ line_size * row
    long = lines_length row cells (omega arith)

    dropped : drop (line_size * row + columns) (up_to cells row) ≡ line_feed ++ behind
    unfolding up_to feeds behind
    dropped =
        let left : line_size * (rows - row) - columns ≡ suc (line_size * (rows - (row + 1))) = omega arith in
        sym (drop-drop columns (line_size * row) (up_to cells row))
        ∙ (ap (drop columns) (drop_at (lines_text row cells) (feeds (line_size * (rows - row))) (line_size * row) long)
        ∙ (drop_replicate columns (line_size * (rows - row)) 0x0A ∙ ap feeds left))

    one_more : up_to cells (row + 1) ≡ before ++ (row_bytes cells row ++ (line_feed ++ behind))
    unfolding up_to before behind line_text
    one_more =
        let bytes = row_bytes cells row in
        ap (λ (text : List ℕ). text ++ behind) (ap (λ (n : ℕ). lines_text n cells) (add-one row) ∙ lines_more row cells)
        ∙ (append_assoc before (bytes ++ line_feed) behind ∙ ap (λ (text : List ℕ). before ++ text) (append_assoc bytes line_feed behind))

    row_laid : paste (up_to cells row) (line_size * row) (row_bytes cells row) columns ≡ up_to cells (row + 1)
    unfolding up_to before
    row_laid =
        let bytes = row_bytes cells row in
        let rest = drop (line_size * row + columns) (up_to cells row) in
        let all : take columns bytes ≡ bytes = take_all columns bytes (let e = row-forty row h in omega arith) in
        append_assoc (take (line_size * row) (up_to cells row)) (take columns bytes) rest
        ∙ (ap (λ (text : List ℕ). text ++ (take columns bytes ++ rest)) (take_at (lines_text row cells) (feeds (line_size * (rows - row))) (line_size * row) long)
        ∙ (ap (λ (text : List ℕ). before ++ (text ++ rest)) all ∙ (ap (λ (text : List ℕ). before ++ (bytes ++ text)) dropped ∙ sym one_more)))

  part-laid : (row : ℕ) → row < rows → laid cells (columns * row) ≡ up_to cells row → (column : ℕ) → column ≤ columns
      → laid cells (columns * row + column) ≡ paste (up_to cells row) (line_size * row) (row_bytes cells row) column
  part-laid row h done zero k =
      ap (laid cells) (let e : columns * row + 0 ≡ columns * row = omega arith in e) ∙ (done ∙ paste-zero (up_to cells row) (line_size * row) (row_bytes cells row))
  part-laid row h done (suc column) k =
      let text = up_to cells row in
      let bytes = row_bytes cells row in
      let place = columns * row + column in
      let size = up-to-length row (omega arith) in
      let forty = row-forty row h in
      let at : place + place / columns ≡ line_size * row + column = omega arith in
      let inside : column < columns = omega arith in
      let part = length_part cells (columns * row) columns (omega arith) in
      let cell = get_d_part cells (columns * row) columns column zero_cell inside in
      let byte = ap cell_byte (sym cell) ∙ sym (get_d_map cell_byte (row_cells cells row) column 0 zero_cell (omega arith)) in
      ap (laid cells) (let e : columns * row + suc column ≡ place + 1 = omega arith in e)
      ∙ (sym (one-laid cells place)
      ∙ (rw (part-laid row h done column (omega arith), at, byte) (paste-suc text (line_size * row) bytes column 0 (omega arith) (omega arith))))

  rows-laid : (row : ℕ) → row ≤ rows → laid cells (columns * row) ≡ up_to cells row
  unfolding laid up_to feeds lines_text
  rows-laid zero h = refl
  rows-laid (suc row) h =
      let before = rows-laid row (omega arith) in
      let next : columns * suc row ≡ columns * row + columns = omega arith in
      ap (laid cells) next ∙ (part-laid row (omega arith) before columns (omega arith) ∙ (row_laid row (omega arith) ∙ ap (up_to cells) (add-one row)))

  -- after all cells it is the page's lines
  pub all_laid : laid cells cell_count ≡ lines_text rows cells
  all_laid = rows-laid rows (omega arith) ∙ all_there cells
