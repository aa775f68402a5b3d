-- What holds of every cell of a page: what holds of a row's cells, and of what is shown under such a cell.
use mathlib.Core.Path.{◌≡◌}
use mathlib.Core.Bool.{Bool, true, not, ◌&&◌}
use mathlib.Core.List.{List, [], ◌∷◌, ◌++◌, map}
use Prim.Native.Nat.{ℕ, zero, suc, ◌*◌, ◌<◌}
use native.Mathlib.Omega.{arith}
use lib.Dec.{T, eqb, leb}
use lib.ListN.{length, get_or, drop}
use Rattle.laws.proofs.Bools.{passed}
use Rattle.laws.proofs.Keeps.{either, every_drop, every_map, every_take}
use Rattle.grid.specs.Grid.{columns, rows}
use Rattle.display.specs.Display.{along, start}
use Rattle.display.specs.Pages.{all_codes, double_code, doubled, is_page, may_double, page_cells, read_as, row_alone, row_codes, row_shown, rows_shown, under}
use Rattle.display.specs.declared.Cell.{Cell}
use Rattle.display.proofs.Pages.{page_is}
use Rattle.display.proofs.Rows.{alone_is}

-- ---- a row's codes, and as they are read

abbrev is_code : ℕ → Bool
is_code code = leb code 0x7F

row_codes_law : (codes : List ℕ) (row : ℕ) → all_codes codes ≡ true → all_codes (row_codes codes row) ≡ true
unfolding row_codes all_codes
row_codes_law codes row all =
    passed _ (every_take is_code columns (drop (columns * row) codes) (every_drop is_code (columns * row) codes (rw all tt)))

read_code : (counts : Bool) (code : ℕ) → T (is_code code) → T (is_code (read_as counts code))
unfolding read_as
read_code counts code t = either (λ (n : ℕ). T (is_code n)) (not counts && eqb code double_code) 0x00 code tt t

read_codes_law : (counts : Bool) (codes : List ℕ) → all_codes codes ≡ true → all_codes (map (read_as counts) codes) ≡ true
unfolding all_codes
read_codes_law counts codes all = passed _ (every_map is_code is_code (read_as counts) (read_code counts) codes (rw all tt))

-- ---- every cell

abbrev pub Each : (Cell → Type 0) → List Cell → Type 0
Each P [] = Unit {0}
Each P (cell ∷ cells) = P cell × Each P cells

each_append : (P : Cell → Type 0) (cells more : List Cell) → Each P cells → Each P more → Each P (cells ++ more)
each_append P [] more a b = b
each_append P (cell ∷ cells) more a b = (a.0, each_append P cells more a.1 b)

each_map : (P : Cell → Type 0) (f : Cell → Cell) → ((cell : Cell) → P cell → P (f cell)) → (cells : List Cell) → Each P cells → Each P (map f cells)
each_map P f keeps [] a = tt
each_map P f keeps (cell ∷ cells) a = (keeps cell a.0, each_map P f keeps cells a.1)

pub each_at : (P : Cell → Type 0) (cells : List Cell) → Each P cells → (k : ℕ) (d : Cell) → k < length cells → P (get_or cells k d)
each_at P [] each k d h = absurd (omega arith)
each_at P (cell ∷ cells) each zero d h = each.0
each_at P (cell ∷ cells) each (suc k) d h = each_at P cells each.1 k d (omega arith)

module _ (P : Cell → Type 0) (row_has : (codes : List ℕ) → all_codes codes ≡ true → Each P (along start codes))
    (keeps : (cell : Cell) → P cell → P (under cell)) where
  alone-has : (codes : List ℕ) (row : ℕ) → all_codes codes ≡ true → Each P (row_alone codes row)
  alone-has codes row all =
      rw (alone_is codes row) (row_has (map (read_as (may_double row)) (row_codes codes row)) (read_codes_law (may_double row) (row_codes codes row) (row_codes_law codes row all)))

  shown-has : (codes : List ℕ) (row : ℕ) → all_codes codes ≡ true → Each P (row_shown codes row)
  unfolding row_shown
  shown-has codes zero all = alone-has codes 0 all
  shown-has codes (suc above) all =
      either (Each P) (doubled codes above) (map under (row_alone codes above)) (row_alone codes (suc above))
      (each_map P under keeps (row_alone codes above) (alone-has codes above all)) (alone-has codes (suc above) all)

  rows-have : (codes : List ℕ) (count : ℕ) → all_codes codes ≡ true → Each P (rows_shown codes count)
  unfolding rows_shown
  rows-have codes zero all = tt
  rows-have codes (suc row) all = each_append P (rows_shown codes row) (row_shown codes row) (rows-have codes row all) (shown-has codes row all)

  pub page-has : (codes : List ℕ) → is_page codes ≡ true → Each P (page_cells codes)
  unfolding page_cells
  page-has codes e = rows-have codes rows (page_is codes e).1
