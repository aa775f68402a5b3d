-- Each row is 45 whole bytes, and they depend on that row's cells alone.
use mathlib.Core.Path.{◌≡◌, refl, ◌∙◌, ap, sym}
use mathlib.Core.List.{List, ◌++◌}
use Prim.Native.Nat.{ℕ, ◌+◌, ◌*◌, ◌<◌}
use native.Mathlib.Omega.{arith}
use lib.ListN.{take, drop}
use lib.Seq.{drop-append-add}
use Rattle.grid.specs.Grid.{columns, rows}
use Rattle.packing.specs.Cells.{cell_bytes}
use Rattle.packing.proofs.Places.{bytes-at}
use Rattle.page.specs.Private.{head_bytes}
use Rattle.page.specs.Records.{head_length, record_for, record_of, row_code, row_length}
use Rattle.page.specs.declared.Page.{Page}
use Rattle.page.proofs.AnyRows.{WholeFor}
use Rattle.page.proofs.Forms.{length_head, record-split}
use Rattle.page.proofs.Trips.{Whole}

-- the bytes of a row of a record of so many
pub row_bytes_for : (n : ℕ) (page : Page) → WholeFor n page → (row : ℕ) → row < n
    → take row_length (drop (head_length + row_length * row) (record_for n page))
    ≡ cell_bytes columns row_length (take columns (drop (columns * row) page.cells.marks)) (take columns (drop (columns * row) page.cells.characters))
row_bytes_for n page whole row h =
    let head = head_bytes page.magazine page.header page.clean (row_code n) in
    let cells = cell_bytes (n * columns) (n * row_length) page.cells.marks page.cells.characters in
    ap (λ (xs : List ℕ). take row_length (drop (head_length + row_length * row) xs)) (record-split n page)
    ∙ (ap (λ (k : ℕ). take row_length (drop (k + row_length * row) (head ++ cells))) (sym (length_head page.magazine page.header page.clean (row_code n)))
    ∙ (ap (take row_length) (drop-append-add head cells (row_length * row))
    ∙ bytes-at (n * columns) (n * row_length) (columns * row) (row_length * row) columns row_length (omega arith) refl (omega arith) (omega arith) page.cells.marks
    page.cells.characters whole.1 whole.0))

-- and of one of a page's record
pub row_bytes_law : (page : Page) → Whole page → (row : ℕ) → row < rows
    → take row_length (drop (head_length + row_length * row) (record_of page))
    ≡ cell_bytes columns row_length (take columns (drop (columns * row) page.cells.marks)) (take columns (drop (columns * row) page.cells.characters))
unfolding record_of
row_bytes_law = row_bytes_for rows
