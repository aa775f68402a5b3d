-- The rows of a page: each has 40 cells, one after the other they are the page, and which of them are worked out alone.
use mathlib.Core.Path.{◌≡◌, refl, ◌∙◌, sym, ap}
use mathlib.Core.Bool.{Bool, true, false, not, ◌&&◌}
use mathlib.Core.List.{List, ◌++◌, map}
use Prim.Native.Nat.{ℕ, zero, suc, ◌+◌, ◌*◌, ◌<◌, ◌≤◌}
use native.Mathlib.Omega.{arith}
use borrow.Author.Tests.{ltb-true, ltb-false}
use lib.Dec.{ltb}
use lib.ListN.{length, get_or, length-append, length-map, get_or-append}
use lib.Seq.{get_or-append-add}
use Rattle.laws.proofs.Keeps.{either}
use Rattle.laws.proofs.Lists.{length_part}
use Rattle.grid.specs.Grid.{cell_count, columns, rows}
use Rattle.display.specs.Display.{along, start}
use Rattle.display.specs.Pages.{alone, doubled, has_double, may_double, page_cells, read_as, row_alone, row_codes, row_shown, rows_shown, under}
use Rattle.display.specs.declared.Cell.{Cell}
use Rattle.display.proofs.Steps.{along_length}

-- ---- which rows lie below a doubled one

abbrev pub below_doubled : List ℕ → ℕ → Bool
below_doubled codes zero = false
below_doubled codes (suc above) = doubled codes above

-- a row is doubled where 0D counts on it, it lies below no doubled one, and it has a 0D code
pub doubled_is : (codes : List ℕ) (row : ℕ) → may_double row && (not (below_doubled codes row) && has_double (row_codes codes row)) ≡ doubled codes row
unfolding doubled may_double
doubled_is codes zero = refl
doubled_is codes (suc above) = refl

-- a row that lies below none is what its codes alone give
pub shown_alone : (codes : List ℕ) (row : ℕ) → below_doubled codes row ≡ false → row_shown codes row ≡ row_alone codes row
unfolding row_shown
shown_alone codes zero e = refl
shown_alone codes (suc above) e = rw e

-- a row that lies below one is made from the cells above it
pub shown_under : (codes : List ℕ) (above : ℕ) → doubled codes above ≡ true → row_shown codes (suc above) ≡ map under (row_alone codes above)
unfolding row_shown
shown_under codes above e = rw e

-- a doubled row does not lie below one
free : (may below has : Bool) → may && (not below && has) ≡ true → below ≡ false
free true true has e = sym e
free true false has e = refl
free false true has e = sym e
free false false has e = refl

pub doubled_free : (codes : List ℕ) (row : ℕ) → doubled codes row ≡ true → below_doubled codes row ≡ false
doubled_free codes row e = free (may_double row) (below_doubled codes row) (has_double (row_codes codes row)) (doubled_is codes row ∙ e)

-- ---- a row has 40 cells, and the rows are the page

pub alone_is : (codes : List ℕ) (row : ℕ) → row_alone codes row ≡ along start (map (read_as (may_double row)) (row_codes codes row))
unfolding row_alone alone
alone_is codes row = refl

module _ (codes : List ℕ) (full : length codes ≡ cell_count) where
  pub codes-forty : (row : ℕ) → row < rows → length (row_codes codes row) ≡ columns
  unfolding row_codes
  codes-forty row h = length_part codes (columns * row) columns (omega arith)

  pub alone-forty : (row : ℕ) → row < rows → length (row_alone codes row) ≡ columns
  alone-forty row h =
      ap length (alone_is codes row)
      ∙ (along_length start (map (read_as (may_double row)) (row_codes codes row)) ∙ (length-map (row_codes codes row) (read_as (may_double row)) ∙ codes-forty row h))

  pub shown-forty : (row : ℕ) → row < rows → length (row_shown codes row) ≡ columns
  unfolding row_shown
  shown-forty zero h = alone-forty 0 h
  shown-forty (suc above) h =
      let here : above < rows = omega arith in
      either (λ (cells : List Cell). length cells ≡ columns) (doubled codes above) (map under (row_alone codes above)) (row_alone codes (suc above))
      (length-map (row_alone codes above) under ∙ alone-forty above here) (alone-forty (suc above) h)

  rows-length : (count : ℕ) → count ≤ rows → length (rows_shown codes count) ≡ columns * count
  unfolding rows_shown
  rows-length zero h = refl
  rows-length (suc row) h =
      let before = rows-length row (omega arith) in
      let last = shown-forty row (omega arith) in
      length-append (rows_shown codes row) (row_shown codes row)
      ∙ (let e : length (rows_shown codes row) + length (row_shown codes row) ≡ columns * suc row = omega arith in e)

  pub page-length : length (page_cells codes) ≡ cell_count
  unfolding page_cells
  page-length = rows-length rows (omega arith)

  -- a cell of the first so many rows: of one before the last, or of the last
  module _ (column : ℕ) (inside : column < columns) (d : Cell) where
    AtCell : ℕ → ℕ → Type 0
    AtCell count row = get_or (rows_shown codes count) (columns * row + column) d ≡ get_or (row_shown codes row) column d

    one_row_more : (count row : ℕ) (b : Bool) → ltb row count ≡ b → count < rows → row < suc count → (row < count → AtCell count row) → AtCell (suc count) row
    unfolding AtCell rows_shown
    one_row_more count row true e k h before =
        let less = ltb-true row count e in
        let long = rows-length count (omega arith) in
        get_or-append (rows_shown codes count) (row_shown codes count) d (columns * row + column) (omega arith) ∙ before less
    one_row_more count row false e k h before =
        let same : row ≡ count = (let least = ltb-false row count e in omega arith) in
        let long = rows-length count (omega arith) in
        let place : columns * row + column ≡ length (rows_shown codes count) + column = omega arith in
        ap (λ (n : ℕ). get_or (rows_shown codes count ++ row_shown codes count) n d) place
        ∙ (get_or-append-add (rows_shown codes count) (row_shown codes count) column d ∙ ap (λ (n : ℕ). get_or (row_shown codes n) column d) (sym same))

    at-cell : (count row : ℕ) → count ≤ rows → row < count → AtCell count row
    at-cell zero row k h = absurd (omega arith)
    at-cell (suc count) row k h = one_row_more count row (ltb row count) refl (omega arith) h (λ less. at-cell count row (omega arith) less)

    -- the page's cell in a row and a column
    pub cell-at : (row : ℕ) → row < rows → get_or (page_cells codes) (columns * row + column) d ≡ get_or (row_shown codes row) column d
    unfolding AtCell page_cells
    cell-at row h = at-cell rows row (omega arith) h
