-- What an opening and a stored row do to the page, cell by cell.
use mathlib.Core.Path.{◌≡◌, ◌∙◌, ap, sym, subst}
use mathlib.Core.Bool.{true, false, ◌||◌}
use mathlib.Core.List.{List}
use mathlib.Core.Option.{some}
use Prim.Native.Nat.{ℕ, ◌-◌, ◌≤◌, ◌<◌}
use native.Mathlib.Omega.{arith}
use lib.Dec.{lit<}
use lib.ListN.{get_or}
use Rattle.coding.specs.Characters.{character}
use Rattle.grid.specs.Grid.{columns}
use Rattle.packet.specs.Texts.{header_column, text_of}
use Rattle.page.specs.declared.Cells.{Cells}
use Rattle.page.specs.Lawful.{fresh}
use Rattle.receiver.specs.Cells.{first_column, one_missing, row_found, stored}
use Rattle.receiver.specs.Effects.{Outcome, closed, header_taken, opened, row_stored, text_taken}
use Rattle.receiver.specs.declared.Receiver.{Receiver}
use Rattle.receiver.proofs.Marks.{none_fresh_at, opened_none_fresh}
use Rattle.receiver.proofs.Outcomes.{Opens, Stores}
use Rattle.receiver.proofs.Rows.{Stays, character_at, length_found, mark_at, place, stored-other-row, text_first}
use Rattle.receiver.proofs.Sized.{Sized, closed_cells, opened_sized}
use Rattle.receiver.proofs.Undoubted.{all_counted, length_text, stored-fresh}

-- a column's byte has the character of its cell, and the cell is fresh
abbrev pub Shown : List ℕ → Cells → ℕ → ℕ → Type 0
Shown bytes cells row column = (character (get_or bytes column 0) ≡ some (character_at cells row column)) × (mark_at cells row column ≡ fresh)

-- ---- kind 2

module _ (receiver : Receiver) (packet lent : List ℕ) (outcome : Outcome) (opens : Opens receiver packet lent outcome) where
  -- the cells before the header's text
  ready : Cells
  ready = (opened (closed receiver) opens.found).cells

  cells_are : outcome.receiver.cells ≡ stored 0 (text_of packet).bytes ready
  unfolding header_taken row_stored ready
  cells_are = ap (λ (o : Outcome). o.receiver.cells) opens.gives

  pub opening-open : outcome.receiver.«open» ≡ true
  unfolding header_taken row_stored opened
  opening-open = ap (λ (o : Outcome). o.receiver.«open») opens.gives

  pub opening-header : outcome.receiver.header ≡ opens.found
  unfolding header_taken row_stored opened
  opening-header = ap (λ (o : Outcome). o.receiver.header) opens.gives

  -- in doubt just where a byte of the text is missing
  pub opening-doubt : outcome.receiver.doubt ≡ one_missing (row_found 0 (text_of packet).bytes)
  unfolding header_taken row_stored opened
  opening-doubt = ap (λ (o : Outcome). o.receiver.doubt) opens.gives

  -- no cell of another row is fresh
  pub opening-none-fresh : (row column : ℕ) → 1 ≤ row → column < columns → mark_at outcome.receiver.cells row column ≡ fresh → ⊥
  unfolding ready
  opening-none-fresh row column first below e =
      none_fresh_at ready.marks (opened_none_fresh (closed receiver) opens.found) (place row column)
      (sym (stored-other-row 0 (text_of packet).bytes (length_text packet) ready row column (λ z. omega arith) below).1
      ∙ (ap (λ (cells : Cells). mark_at cells row column) (sym cells_are) ∙ e))

  -- without doubt the text is in its cells
  pub opening-text : Sized receiver.cells → outcome.receiver.doubt ≡ false
      → (column : ℕ) → header_column ≤ column → column < columns → Shown (text_of packet).bytes outcome.receiver.cells 0 column
  unfolding ready first_column
  opening-text sized sure column from below =
      subst (λ (cells : Cells). Shown (text_of packet).bytes cells 0 column) (sym cells_are)
      (stored-fresh 0 (text_of packet).bytes (length_text packet) column from below ready
      (opened_sized (closed receiver) opens.found (rw (closed_cells receiver) sized))
      (lit< tt)
      (sym opening-doubt ∙ sure))

  -- and all 32 bytes are counted
  pub opening-count : outcome.receiver.doubt ≡ false → outcome.count ≡ columns - header_column
  unfolding header_taken first_column
  opening-count sure =
      ap (λ (o : Outcome). o.count) opens.gives
      ∙ (all_counted (row_found 0 (text_of packet).bytes) (sym opening-doubt ∙ sure)
      ∙ length_found 0 (text_of packet).bytes (length_text packet))

-- ---- kind 1

module _ (receiver : Receiver) (packet lent : List ℕ) (outcome : Outcome) (stores : Stores receiver packet lent outcome) where
  text-cells : outcome.receiver.cells ≡ stored stores.row (text_of packet).bytes receiver.cells
  unfolding text_taken row_stored
  text-cells = ap (λ (o : Outcome). o.receiver.cells) stores.gives

  pub storing-open : outcome.receiver.«open» ≡ receiver.«open»
  unfolding text_taken row_stored
  storing-open = ap (λ (o : Outcome). o.receiver.«open») stores.gives

  pub storing-header : outcome.receiver.header ≡ receiver.header
  unfolding text_taken row_stored
  storing-header = ap (λ (o : Outcome). o.receiver.header) stores.gives

  pub storing-doubt : outcome.receiver.doubt ≡ receiver.doubt || one_missing (row_found stores.row (text_of packet).bytes)
  unfolding text_taken row_stored
  storing-doubt = ap (λ (o : Outcome). o.receiver.doubt) stores.gives

  -- another row stays
  pub storing-others : (row column : ℕ) → (row ≡ stores.row → ⊥) → column < columns → Stays receiver.cells outcome.receiver.cells row column
  storing-others row column other below =
      subst (λ (cells : Cells). Stays receiver.cells cells row column) (sym text-cells)
      (stored-other-row stores.row (text_of packet).bytes (length_text packet) receiver.cells row column other below)

  -- a whole row is in its cells
  pub storing-text : Sized receiver.cells → one_missing (row_found stores.row (text_of packet).bytes) ≡ false
      → (column : ℕ) → column < columns → Shown (text_of packet).bytes outcome.receiver.cells stores.row column
  storing-text sized sure column below =
      subst (λ (cells : Cells). Shown (text_of packet).bytes cells stores.row column) (sym text-cells)
      (stored-fresh stores.row (text_of packet).bytes (length_text packet) column
      (omega (arith, text_first stores.row stores.ours.first))
      below receiver.cells sized
      (omega (arith, stores.ours.last))
      sure)
