-- What a line that gives its row does to a receiver: each of its characters goes to its cell, fresh, all are counted, and no doubt arises.
use mathlib.Core.Path.{◌≡◌, refl, sym, ap, ap₂, ◌∙◌}
use mathlib.Core.Bool.{Bool, true, false, cond, ◌||◌}
use mathlib.Core.List.{List, [], ◌∷◌, map}
use mathlib.Core.Option.{Option, none, some}
use Prim.Native.Nat.{ℕ, ◌+◌, ◌-◌, ◌≤◌, ◌<◌}
use native.Mathlib.Omega.{arith}
use lib.ListN.{drop, get_or, get_or-replicate, length, length-drop, length-map}
use lib.Seq.{get_or-drop}
use Rattle.std.specs.Prelude as code
use Rattle.std.specs.Prelude.{Ok, None}
use Rattle.laws.specs.Paper.{accepted}
use Rattle.laws.proofs.Lists.{get_d_map}
use Rattle.coding.specs.Characters.{character}
use Rattle.grid.specs.Grid.{cell_count, columns, last_row}
use Rattle.packet.specs.Headers.{header_of}
use Rattle.packet.specs.Lines.{packet_of}
use Rattle.packet.specs.Texts.{header_column, text_of}
use Rattle.packet.specs.declared.Header.{Header}
use Rattle.page.specs.Lawful.{fresh, never, space}
use Rattle.page.specs.declared.Cells.{Cells}
use Rattle.receiver.specs.Cells.{aged, blank, first_column, how_many, one_missing, row_found, stored}
use Rattle.receiver.specs.Effects.{Outcome, clears, closed, closing_word, header_taken, opened, opening_cells, row_stored, taken, text_taken}
use Rattle.receiver.specs.Entries.{entered, line_values, packet_gives}
use Rattle.receiver.specs.Kinds.{seen}
use Rattle.receiver.specs.Selections.{matches}
use Rattle.receiver.specs.declared.Closing.{Closing}
use Rattle.receiver.specs.declared.Receiver.{Receiver}
use Rattle.receiver.proofs.Addressed.{stores-text}
use Rattle.receiver.proofs.Carried.{Going}
use Rattle.receiver.proofs.Causes.{sees-header}
use Rattle.receiver.proofs.Changes.{Shown, opening-count, opening-doubt, opening-header, opening-open, opening-text}
use Rattle.receiver.proofs.Changes.{storing-doubt, storing-header, storing-open, storing-others, storing-text}
use Rattle.receiver.proofs.Closings.{none_open}
use Rattle.receiver.proofs.Outcomes.{Opens, Stores, taken-opens}
use Rattle.receiver.proofs.Rows.{Stays, character_at, first_small, found_at, header_first, length_found, mark_at, place, stored-other-row, text_first}
use Rattle.receiver.proofs.Sized.{Sized}
use Rattle.receiver.proofs.Undoubted.{all_counted, length_text}
use Rattle.demands.proofs.Mended.{unmended}
use Rattle.returning.proofs.Given.{GivesRow}

-- ---- a cell, its character and its mark

abbrev pub CellHolds : Cells → ℕ → ℕ → ℕ → ℕ → Type 0
CellHolds cells row column character mark = (character_at cells row column ≡ character) × (mark_at cells row column ≡ mark)

pub cell_stays : (before after : Cells) (row column character mark : ℕ) → Stays before after row column
    → CellHolds before row column character mark → CellHolds after row column character mark
cell_stays before after row column character mark stays was = (stays.0 ∙ was.0, stays.1 ∙ was.1)

-- ---- what is found in a line that gives its row

none_lost : (xs : List ℕ) → one_missing (map {B = Option ℕ} some xs) ≡ false
unfolding one_missing
none_lost [] = refl
none_lost (x ∷ xs) = none_lost xs

module _ (line : List ℕ) (magazine row : ℕ) (characters : List ℕ) (gives : GivesRow line magazine row characters) where
  abbrev bytes : List ℕ
  bytes = (text_of (packet_of line)).bytes

  whole : length bytes ≡ columns
  whole = length_text (packet_of line)

  -- every character is found
  none_missing : one_missing (row_found row bytes) ≡ false
  none_missing = rw gives.found (none_lost (drop (first_column row) characters))

  -- there are forty of them, counted with the columns before the first
  pub length-given : length characters ≡ columns
  length-given =
      omega (
        arith,
        first_small row,
        length_found row bytes whole,
        ap length gives.found,
        length-map {B = Option ℕ} (drop (first_column row) characters) some,
        length-drop (first_column row) characters,
      )

  -- and what a cell shows of a byte is the character that was given
  module _ (column : ℕ) (from : first_column row ≤ column) (below : column < columns) where
    column-given : character (get_or bytes column 0) ≡ some (get_or characters column 0)
    column-given =
        let k : ℕ = column - first_column row in
        let there : first_column row + k ≡ column = omega arith in
        sym (found_at row bytes whole column from below)
        ∙ (ap (λ (found : List (Option ℕ)). get_or found k none) gives.found
        ∙ (get_d_map {B = Option ℕ} some (drop (first_column row) characters) k none 0
        (omega (arith, length-given, length-drop (first_column row) characters))
        ∙ ap {B = Option ℕ} some
        (get_or-drop (first_column row) characters k 0 ∙ ap (λ (n : ℕ). get_or characters n 0) there)))

    cell-given : (cells : Cells) → Shown bytes cells row column → CellHolds cells row column (get_or characters column 0) fresh
    cell-given cells shown = (cc (column-given, shown.0), shown.1)

-- ---- a row of the open page

module _ (receiver : Receiver) (line lent : List ℕ) (row : ℕ) (characters : List ℕ)
    (gives : GivesRow line receiver.selection.magazine row characters) (first : 1 ≤ row) (last : row ≤ last_row) (going : Going receiver) where
  abbrev outcome : Outcome
  outcome = taken receiver (packet_of line) lent

  abbrev stores : Stores receiver (packet_of line) lent outcome
  stores = stores-text receiver (packet_of line) lent row (record { from = gives.address; first = first; last = last }) going.0

  all_found : one_missing (row_found row (text_of (packet_of line)).bytes) ≡ false
  all_found = none_missing line receiver.selection.magazine row characters gives

  counted : how_many (row_found row (text_of (packet_of line)).bytes) ≡ columns
  counted =
      all_counted (row_found row (text_of (packet_of line)).bytes) all_found
      ∙ omega (arith, length_found row (text_of (packet_of line)).bytes (length_text (packet_of line)), text_first row first)

  -- kind 1, all forty are counted, and nothing is mended
  pub stored_answer : (packet_gives receiver (packet_of line) lent).answer ≡ accepted (line_values 1 columns None 0)
  unfolding entered text_taken
  stored_answer =
      ap₂ (λ (o : Outcome) (mended : ℕ). (entered o mended).answer) stores.gives (unmended receiver line gives.rules)
      ∙ ap (λ (n : ℕ). accepted (line_values 1 n None 0)) counted

  pub stored-going : Going outcome.receiver
  stored-going = (
    storing-open receiver (packet_of line) lent outcome stores ∙ going.0,
    storing-doubt receiver (packet_of line) lent outcome stores ∙ ap₂ ◌||◌ going.1 all_found,
  )

  pub stored-header : outcome.receiver.header ≡ receiver.header
  stored-header = storing-header receiver (packet_of line) lent outcome stores

  -- the row has its characters, and every other row stays
  pub stored-cell : Sized receiver.cells → (column : ℕ) → column < columns
      → CellHolds outcome.receiver.cells row column (get_or characters column 0) fresh
  stored-cell sized column below =
      cell-given line receiver.selection.magazine row characters gives column (omega (arith, text_first row first)) below outcome.receiver.cells
      (storing-text receiver (packet_of line) lent outcome stores sized all_found column below)

  pub stored-others : (other column : ℕ) → (other ≡ row → ⊥) → column < columns → Stays receiver.cells outcome.receiver.cells other column
  stored-others other column differs below = storing-others receiver (packet_of line) lent outcome stores other column differs below

-- ---- a header that matches

module _ (receiver : Receiver) (line lent : List ℕ) (found : Header) (characters : List ℕ)
    (gives : GivesRow line receiver.selection.magazine 0 characters) (read : header_of (packet_of line) ≡ Ok found)
    (matched : matches receiver.selection found ≡ true) where
  abbrev opening : Outcome
  opening = taken receiver (packet_of line) lent

  abbrev opens : Opens receiver (packet_of line) lent opening
  opens =
      record {
        found = found;
        ours = gives.address;
        read = read;
        matched = matched;
        gives =
            taken-opens receiver (packet_of line) lent found
            (ap (seen receiver.selection.magazine) gives.address ∙ sees-header receiver.selection.magazine) read matched;
      }

  sure : opening.receiver.doubt ≡ false
  sure = opening-doubt receiver (packet_of line) lent opening opens ∙ none_missing line receiver.selection.magazine 0 characters gives

  pub opened-going : Going opening.receiver
  opened-going = (opening-open receiver (packet_of line) lent opening opens, sure)

  pub opened-header : opening.receiver.header ≡ found
  opened-header = opening-header receiver (packet_of line) lent opening opens

  -- kind 2 with all 32 counted, nothing mended, and nothing to close where no page was open
  pub opened-answer : receiver.«open» ≡ false → (packet_gives receiver (packet_of line) lent).answer ≡ accepted (line_values 2 (columns - header_column) None 0)
  unfolding entered header_taken
  opened-answer shut =
      ap₂ (λ (o : Outcome) (mended : ℕ). accepted (line_values o.kind opening.count o.closing mended)) opens.gives (unmended receiver line gives.rules)
      ∙ (ap (λ (n : ℕ). accepted (line_values 2 n (closing_word receiver) 0)) (opening-count receiver (packet_of line) lent opening opens sure)
      ∙ ap (λ (word : code.Option Closing). accepted (line_values 2 (columns - header_column) word 0)) (none_open receiver shut))

  -- row 0 has its characters
  pub opened-cell : Sized receiver.cells → (column : ℕ) → header_column ≤ column → column < columns
      → CellHolds opening.receiver.cells 0 column (get_or characters column 0) fresh
  opened-cell sized column from below =
      cell-given line receiver.selection.magazine 0 characters gives column (omega (arith, header_first)) below opening.receiver.cells
      (opening-text receiver (packet_of line) lent opening opens sized sure column from below)

  -- and with C4 set every other row is space and never
  module _ (clearing : clears found ≡ true) where
    cleared-cells : opening.receiver.cells ≡ stored 0 (text_of (packet_of line)).bytes blank
    unfolding header_taken row_stored opened opening_cells
    cleared-cells =
        ap (λ (o : Outcome). o.receiver.cells) opens.gives
        ∙ ap (λ (b : Bool). stored 0 (text_of (packet_of line)).bytes (cond b blank (aged (closed receiver).cells))) clearing

    pub opened-blank : (row column : ℕ) → 1 ≤ row → row ≤ last_row → column < columns → CellHolds opening.receiver.cells row column space never
    unfolding blank
    opened-blank row column first last below =
        let (character, mark) =
        stored-other-row 0 (text_of (packet_of line)).bytes (length_text (packet_of line)) blank row column (λ e. omega arith) below in (
          ap (λ (cells : Cells). character_at cells row column) cleared-cells
              ∙ (character ∙ get_or-replicate cell_count (place row column) space 0 (omega arith)),
          ap (λ (cells : Cells). mark_at cells row column) cleared-cells
              ∙ (mark ∙ get_or-replicate cell_count (place row column) never 0 (omega arith)),
        )
