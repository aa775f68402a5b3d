-- Storing, clearing and ageing keep what 24 and 23 ask of cells: a stored character is below 128 and marked fresh, and no row is stored over row 0's
-- columns 0 to 7.
use mathlib.Core.Bool.{Bool, true}
use mathlib.Core.List.{List, map}
use mathlib.Core.Option.{Option, none, some}
use Prim.Native.Nat.{ℕ, zero, suc, ◌%◌, ◌≤◌}
use native.Mathlib.Nat.{mod-lt}
use native.Mathlib.Omega.{arith}
use lib.Count.{ones}
use lib.Dec.{T, eqb→eq, lit<, lit≤, lt→ltb}
use lib.ListN.{drop, take}
use Rattle.laws.specs.Every.{every, every_pair}
use Rattle.laws.specs.Fields.{fits}
use Rattle.laws.proofs.Bools.{both_left, both_right}
use Rattle.laws.proofs.Keeps.{both, chosen, every_map, every_mapped, every-pair-map, every-pair-replicate, every-replicate, take_map}
use Rattle.coding.specs.Bits.{odd}
use Rattle.coding.specs.Characters.{character}
use Rattle.page.specs.Lawful.{cell_lawful, cells_fit, cells_lawful, is_fresh, is_never, never, older, space}
use Rattle.grid.specs.Grid.{cell_count}
use Rattle.page.specs.Records.{character_width, mark_width}
use Rattle.page.specs.declared.Cells.{Cells}
use Rattle.packet.specs.Texts.{header_column}
use Rattle.receiver.specs.Cells.{age, aged, blank, first_column, kept_character, kept_mark, laid, row_found, row_place, stored}
use Rattle.receiver.proofs.Laid.{every-laid, every-pair-laid, take-laid}

-- ---- the cells

-- what 24 and 23 ask of cells
abbrev pub Sound : Cells → Type 0
Sound cells = T (cells_fit cells) × T (cells_lawful cells)

pub blank_sound : Sound blank
unfolding cells_fit cells_lawful blank
blank_sound = (
  both (every (fits mark_width) blank.marks) (every (fits character_width) blank.characters)
      (every-replicate (fits mark_width) cell_count never tt)
      (every-replicate (fits character_width) cell_count space tt),
  both (every_pair cell_lawful blank.marks blank.characters) (every is_never (take header_column blank.marks))
      (every-pair-replicate cell_lawful cell_count never space tt)
      tt,
)

-- a stored character is below 128
abbrev small : Option ℕ → Bool
small none = true
small (some c) = fits character_width c

character_small : (byte : ℕ) → T (small (character byte))
unfolding character fits
character_small byte =
    chosen (λ (o : Option ℕ). T (small o)) (odd (ones byte)) (some (byte % 128)) none
    (λ t. lt→ltb (byte % 128) 128 (mod-lt byte (lit< tt)))
    (λ t. tt)

found_small : (row : ℕ) (bytes : List ℕ) → T (every small (row_found row bytes))
unfolding row_found
found_small row bytes = every_mapped small character character_small (drop (first_column row) bytes)

-- what is kept of a cell is as lawful as what was there
kept_mark_law : (f : Option ℕ) (m c : ℕ) → T (small f) → T (fits mark_width m) → T (fits mark_width (kept_mark f m c))
unfolding kept_mark fits
kept_mark_law none m c s t = t
kept_mark_law (some new) m c s t = tt

kept_character_law : (f : Option ℕ) (c m : ℕ) → T (small f) → T (fits character_width c) → T (fits character_width (kept_character f c m))
unfolding kept_character
kept_character_law none c m s t = t
kept_character_law (some new) c m s t = s

kept_cell : (f : Option ℕ) (m c : ℕ) → T (cell_lawful m c) → T (cell_lawful (kept_mark f m c) (kept_character f c m))
unfolding kept_mark kept_character cell_lawful
kept_cell none m c t = t
kept_cell (some new) m c t = tt

-- no row is stored over row 0's columns 0 to 7
pub header_kept : (row : ℕ) → header_column ≤ row_place row
unfolding row_place first_column
header_kept zero = lit≤ tt
header_kept (suc row) = omega arith

pub stored_sound : (row : ℕ) (bytes : List ℕ) (cells : Cells) → Sound cells → Sound (stored row bytes cells)
unfolding cells_fit cells_lawful stored
stored_sound row bytes cells s =
    let marks_fit = every (fits mark_width) cells.marks in
    let characters_fit = every (fits character_width) cells.characters in
    let pairs = every_pair cell_lawful cells.marks cells.characters in
    let head = every is_never (take header_column cells.marks) in
    let marks = laid kept_mark (row_place row) (row_found row bytes) cells.marks cells.characters in
    let characters = laid kept_character (row_place row) (row_found row bytes) cells.characters cells.marks in (
      both (every (fits mark_width) marks) (every (fits character_width) characters)
          (every-laid kept_mark small (fits mark_width) kept_mark_law (row_place row) (row_found row bytes) cells.marks cells.characters
          (found_small row bytes) (both_left marks_fit characters_fit s.0))
          (every-laid kept_character small (fits character_width) kept_character_law (row_place row) (row_found row bytes) cells.characters cells.marks
          (found_small row bytes) (both_right marks_fit characters_fit s.0)),
      both (every_pair cell_lawful marks characters) (every is_never (take header_column marks))
          (every-pair-laid kept_mark kept_character cell_lawful kept_cell (row_place row) (row_found row bytes) cells.marks cells.characters
          (both_left pairs head s.1))
          (rw (take-laid kept_mark header_column (row_place row) (row_found row bytes) cells.marks cells.characters (header_kept row))
          (both_right pairs head s.1)),
    )

-- fresh becomes older, and every other mark stays
age_cases : (P : ℕ → Type 0) (m : ℕ) → P older → P m → P (age m)
unfolding age
age_cases P m p q = chosen P (is_fresh m) older m (λ t. p) (λ t. q)

aged_fits : (m : ℕ) → T (fits mark_width m) → T (fits mark_width (age m))
unfolding fits
aged_fits m t = age_cases (λ (n : ℕ). T (fits mark_width n)) m tt t

aged_lawful : (m c : ℕ) → T (cell_lawful m c) → T (cell_lawful (age m) c)
unfolding cell_lawful
aged_lawful m c t = age_cases (λ (n : ℕ). T (cell_lawful n c)) m tt t

aged_never : (m : ℕ) → T (is_never m) → T (is_never (age m))
unfolding is_never age is_fresh
aged_never m t = rw (eqb→eq m never t) tt

pub aged_sound : (cells : Cells) → Sound cells → Sound (aged cells)
unfolding cells_fit cells_lawful aged
aged_sound cells s =
    let marks_fit = every (fits mark_width) cells.marks in
    let characters_fit = every (fits character_width) cells.characters in
    let pairs = every_pair cell_lawful cells.marks cells.characters in
    let head = every is_never (take header_column cells.marks) in (
      both (every (fits mark_width) (map age cells.marks)) characters_fit
          (every_map (fits mark_width) (fits mark_width) age aged_fits cells.marks (both_left marks_fit characters_fit s.0))
          (both_right marks_fit characters_fit s.0),
      both (every_pair cell_lawful (map age cells.marks) cells.characters) (every is_never (take header_column (map age cells.marks)))
          (every-pair-map cell_lawful age aged_lawful cells.marks cells.characters (both_left pairs head s.1))
          (rw (take_map age header_column cells.marks)
          (every_map is_never is_never age aged_never (take header_column cells.marks) (both_right pairs head s.1))),
    )
