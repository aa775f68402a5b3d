-- A row stored, seen cell by cell: every cell of another row stays, and in the stored row each odd-parity byte is in its cell, fresh, and the cells of
-- the others stay.
use mathlib.Core.Path.{◌≡◌, refl, ◌∙◌, ap, sym}
use mathlib.Core.Bool.{Bool, cond}
use mathlib.Core.List.{List}
use mathlib.Core.Option.{Option, none, some}
use Prim.Native.Nat.{ℕ, ◌+◌, ◌-◌, ◌*◌, ◌≤◌, ◌<◌}
use native.Mathlib.Decide.{dec_lt}
use native.Mathlib.Omega.{arith}
use borrow.Author.Tests.{ne_eqb}
use lib.Dec.{eqb, lit≤}
use lib.ListN.{drop, get_or, length, length-drop, length-map}
use lib.Seq.{get_or-drop}
use Rattle.laws.proofs.Keeps.{chosen}
use Rattle.laws.proofs.Lists.{get_d_map}
use Rattle.coding.specs.Characters.{character}
use Rattle.grid.specs.Grid.{columns, rows}
use Rattle.packet.specs.Texts.{header_column}
use Rattle.page.specs.declared.Cells.{Cells}
use Rattle.page.specs.Lawful.{fresh}
use Rattle.receiver.specs.Cells.{first_column, kept_character, kept_mark, laid, row_found, row_place, stored}
use Rattle.receiver.proofs.Laid.{laid-after, laid-at, laid-before}
use Rattle.receiver.proofs.Sized.{Sized}

-- ---- cells by row and column

abbrev pub place : ℕ → ℕ → ℕ
place row column = row * columns + column

abbrev pub character_at : Cells → ℕ → ℕ → ℕ
character_at cells row column = get_or cells.characters (place row column) 0

abbrev pub mark_at : Cells → ℕ → ℕ → ℕ
mark_at cells row column = get_or cells.marks (place row column) 0

-- a cell stays as it was
abbrev pub Stays : Cells → Cells → ℕ → ℕ → Type 0
Stays before after row column = (character_at after row column ≡ character_at before row column) × (mark_at after row column ≡ mark_at before row column)

pub header_first : first_column 0 ≡ header_column
unfolding first_column
header_first = refl

pub text_first : (row : ℕ) → 1 ≤ row → first_column row ≡ 0
unfolding first_column
text_first row h = ap (λ (b : Bool). cond b header_column 0) (ne_eqb row 0 (λ e. omega arith))

pub first_small : (row : ℕ) → first_column row ≤ header_column
unfolding first_column
first_small row = chosen (λ (n : ℕ). n ≤ header_column) (eqb row 0) header_column 0 (λ t. lit≤ tt) (λ t. lit≤ tt)

pub place_is : (row column : ℕ) → first_column row ≤ column → row_place row + (column - first_column row) ≡ place row column
unfolding row_place
place_is row column from = omega arith

-- ---- a row laid over a list of cells

module _ (row : ℕ) (bytes : List ℕ) (whole : length bytes ≡ columns) where
  pub length_found : length (row_found row bytes) ≡ columns - first_column row
  unfolding row_found
  length_found =
      length-map (drop (first_column row) bytes) character
      ∙ (length-drop (first_column row) bytes ∙ ap (λ (n : ℕ). n - first_column row) whole)

  pub found_at : (column : ℕ) → first_column row ≤ column → column < columns
      → get_or (row_found row bytes) (column - first_column row) none ≡ character (get_or bytes column 0)
  unfolding row_found
  found_at column from below =
      get_d_map character (drop (first_column row) bytes) (column - first_column row) none 0
      (omega (arith, length-drop (first_column row) bytes))
      ∙ ap character
      (get_or-drop (first_column row) bytes (column - first_column row) 0
      ∙ ap (λ (k : ℕ). get_or bytes k 0) (back column (first_column row) from))
    where
      back : (a b : ℕ) → b ≤ a → b + (a - b) ≡ a
      back a b h = omega arith

  module _ (keep : Option ℕ → ℕ → ℕ → ℕ) (xs others : List ℕ) where
    over : List ℕ
    over = laid keep (row_place row) (row_found row bytes) xs others

    -- another row
    other_row : (row' column : ℕ) → (row' ≡ row → ⊥) → column < columns → get_or over (place row' column) 0 ≡ get_or xs (place row' column) 0
    unfolding over row_place
    other_row row' column other below = by (dec_lt row' row)
      where
        by : Dec (row' < row) → get_or over (place row' column) 0 ≡ get_or xs (place row' column) 0
        by (yes above) = laid-before keep (row_place row) (row_found row bytes) xs others (place row' column) 0 (omega arith)
        by (no under) =
            laid-after keep (row_place row) (row_found row bytes) xs others (place row' column) 0
            (omega (arith, length_found, first_small row))

    -- a column before the row's first
    early-column : (column : ℕ) → column < first_column row → get_or over (place row column) 0 ≡ get_or xs (place row column) 0
    unfolding over row_place
    early-column column h = laid-before keep (row_place row) (row_found row bytes) xs others (place row column) 0 (omega arith)

    -- a column of the row
    row-column : (column : ℕ) → first_column row ≤ column → column < columns → place row column < length xs
        → get_or over (place row column) 0 ≡ keep (character (get_or bytes column 0)) (get_or xs (place row column) 0) (get_or others (place row column) 0)
    unfolding over
    row-column column from below inside =
        let k : ℕ = column - first_column row in
        ap (λ (n : ℕ). get_or over n 0) (sym at_place)
        ∙ (laid-at keep (row_place row) (row_found row bytes) xs others k 0 (omega (arith, length_found)) (omega (arith, at_place))
        ∙ (ap (λ (f : Option ℕ). keep f (get_or xs (row_place row + k) 0) (get_or others (row_place row + k) 0)) (found_at column from below)
        ∙ ap (λ (n : ℕ). keep (character (get_or bytes column 0)) (get_or xs n 0) (get_or others n 0)) at_place))
      where
        at_place : row_place row + (column - first_column row) ≡ place row column
        at_place = place_is row column from

-- ---- a row stored

module _ (row : ℕ) (bytes : List ℕ) (whole : length bytes ≡ columns) (cells : Cells) where
  -- a cell of another row
  pub stored-other-row : (row' column : ℕ) → (row' ≡ row → ⊥) → column < columns → Stays cells (stored row bytes cells) row' column
  unfolding stored over
  stored-other-row row' column other below = (
    other_row row bytes whole kept_character cells.characters cells.marks row' column other below,
    other_row row bytes whole kept_mark cells.marks cells.characters row' column other below,
  )

  -- a column before the row's first, which row 0 has
  pub stored-early-column : (column : ℕ) → column < first_column row → Stays cells (stored row bytes cells) row column
  unfolding stored over
  stored-early-column column h = (
    early-column row bytes whole kept_character cells.characters cells.marks column h,
    early-column row bytes whole kept_mark cells.marks cells.characters column h,
  )

  module _ (sized : Sized cells) (inside : row < rows) (column : ℕ) (from : first_column row ≤ column) (below : column < columns) where
    -- a byte of odd parity
    pub stored-character : (code : ℕ) → character (get_or bytes column 0) ≡ some code
        → (character_at (stored row bytes cells) row column ≡ code) × (mark_at (stored row bytes cells) row column ≡ fresh)
    unfolding stored over kept_character kept_mark
    stored-character code e = (
      row-column row bytes whole kept_character cells.characters cells.marks column from below (omega arith)
          ∙ ap (λ (f : Option ℕ). kept_character f (character_at cells row column) (mark_at cells row column)) e,
      row-column row bytes whole kept_mark cells.marks cells.characters column from below (omega arith)
          ∙ ap (λ (f : Option ℕ). kept_mark f (mark_at cells row column) (character_at cells row column)) e,
    )

    -- and one of even parity
    pub stored-nothing : character (get_or bytes column 0) ≡ none → Stays cells (stored row bytes cells) row column
    unfolding stored over kept_character kept_mark
    stored-nothing e = (
      row-column row bytes whole kept_character cells.characters cells.marks column from below (omega arith)
          ∙ ap (λ (f : Option ℕ). kept_character f (character_at cells row column) (mark_at cells row column)) e,
      row-column row bytes whole kept_mark cells.marks cells.characters column from below (omega arith)
          ∙ ap (λ (f : Option ℕ). kept_mark f (mark_at cells row column) (character_at cells row column)) e,
    )
