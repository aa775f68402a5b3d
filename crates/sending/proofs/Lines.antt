-- The lines of a transmission, one by one: the header's and one for each chosen row, each of 45 bytes.
use mathlib.Core.Path.{◌≡◌, ap}
use mathlib.Core.Bool.{Bool}
use mathlib.Core.List.{List, []}
use Prim.Native.Nat.{ℕ, zero, suc, ◌*◌, ◌≤◌, ◌<◌}
use native.Mathlib.Nat.{le_of_suc-le-suc}
use native.Mathlib.Omega.{arith}
use lib.ListN.{length, get_or, length-map}
use Rattle.laws.proofs.Lists.{get_d_map, length_part}
use Rattle.grid.specs.Grid.{cell_count, columns, last_row}
use Rattle.packet.specs.Lines.{line_length}
use Rattle.packet.specs.Writing.{header_packet, row_packet}
use Rattle.packet.proofs.Packets.{header-packet-length, line_length_law, row-packet-length}
use Rattle.page.specs.declared.Page.{Page}
use Rattle.sending.specs.Sending.{chosen_rows, header_line, line_count, lines_of, row_characters, row_line, with_c4}
use Rattle.sending.proofs.Rows.{chosen-high, chosen-low}

pub lines_count : (page : Page) (wanted : List Bool) → length (lines_of page wanted) ≡ line_count wanted
unfolding lines_of line_count
lines_count page wanted = ap suc (length-map (chosen_rows wanted) (row_line page))

-- what holds of the header's line and of each row's holds of every line
module _ (page : Page) (wanted : List Bool) (choice : length wanted ≡ last_row) (P : List ℕ → Type 0) (first : P (header_line page))
    (others : (row : ℕ) → 1 ≤ row → row ≤ last_row → P (row_line page row)) where
  pub every-line : (k : ℕ) → k < line_count wanted → P (get_or (lines_of page wanted) k [])
  unfolding lines_of line_count
  every-line zero h = first
  every-line (suc k) h =
      let inside : k < length (chosen_rows wanted) = le_of_suc-le-suc h in
      rw (get_d_map (row_line page) (chosen_rows wanted) k [] 0 inside)
      (others (get_or (chosen_rows wanted) k 0) (chosen-low wanted k inside) (omega (arith, chosen-high wanted k inside)))

-- ---- their lengths

module _ (page : Page) (sized : length page.cells.characters ≡ cell_count) where
  pub row_characters_law : (row : ℕ) → row ≤ last_row → length (row_characters page.cells.characters row) ≡ columns
  row_characters_law row h = length_part page.cells.characters (row * columns) columns (omega (arith, sized))

  pub header-line-length : length (header_line page) ≡ line_length
  unfolding header_line
  header-line-length =
      let text = row_characters page.cells.characters 0 in
      line_length_law (header_packet page.magazine (with_c4 page.header) text) (header-packet-length page.magazine (with_c4 page.header) text (row_characters_law 0 (omega arith)))

  pub row-line-length : (row : ℕ) → row ≤ last_row → length (row_line page row) ≡ line_length
  unfolding row_line
  row-line-length row h =
      let text = row_characters page.cells.characters row in
      line_length_law (row_packet page.magazine row text) (row-packet-length page.magazine row text (row_characters_law row h))

  pub lines_length : (wanted : List Bool) → length wanted ≡ last_row → (k : ℕ) → k < length (lines_of page wanted)
      → length (get_or (lines_of page wanted) k []) ≡ line_length
  lines_length wanted choice k h =
      every-line page wanted choice (λ line. length line ≡ line_length) header-line-length (λ row low high. row-line-length row high) k
      (rw (lines_count page wanted) at h)
