-- Worked arguments, computed from the definitions: whether each names rows, and which are wanted.
use mathlib.Core.Path.{◌≡◌, refl}
use mathlib.Core.Bool.{Bool, true, false}
use mathlib.Core.List.{List, [], ◌∷◌, ◌++◌}
use Prim.Native.Nat.{ℕ, ◌-◌}
use lib.ListN.{replicate}
use Rattle.grid.specs.Grid.{last_row}
use Rattle.choosing.specs.Chosen.{names_rows, wanted_rows}

abbrev pub told : List ℕ → Bool × List Bool
told argument = (names_rows argument, wanted_rows argument)

abbrev pub no_rows : Bool × List Bool
no_rows = (false, replicate last_row false)

-- so many rows that are wanted, and so many that are not
abbrev pub yes : ℕ → List Bool
yes n = replicate n true

abbrev pub no : ℕ → List Bool
no n = replicate n false

-- ---- arguments that name rows

-- "1-5,20"
pub range_and_row : told (0x31 ∷ 0x2D ∷ 0x35 ∷ 0x2C ∷ 0x32 ∷ 0x30 ∷ []) ≡ (true, yes 5 ++ (no 14 ++ (yes 1 ++ no (last_row - 20))))
unfolding wanted_rows
range_and_row = refl

-- "7"
pub one_row : told (0x37 ∷ []) ≡ (true, no 6 ++ (yes 1 ++ no (last_row - 7)))
unfolding wanted_rows
one_row = refl

-- "24"
pub last_row_law : told (0x32 ∷ 0x34 ∷ []) ≡ (true, no (last_row - 1) ++ yes 1)
unfolding wanted_rows
last_row_law = refl

-- "1-24"
pub all_rows : told (0x31 ∷ 0x2D ∷ 0x32 ∷ 0x34 ∷ []) ≡ (true, yes last_row)
unfolding wanted_rows
all_rows = refl

-- "1-5,3"
pub overlapping : told (0x31 ∷ 0x2D ∷ 0x35 ∷ 0x2C ∷ 0x33 ∷ []) ≡ (true, yes 5 ++ no (last_row - 5))
unfolding wanted_rows
overlapping = refl

-- "20,1-5"
pub any_order : told (0x32 ∷ 0x30 ∷ 0x2C ∷ 0x31 ∷ 0x2D ∷ 0x35 ∷ []) ≡ (true, yes 5 ++ (no 14 ++ (yes 1 ++ no (last_row - 20))))
unfolding wanted_rows
any_order = refl

-- "9-09"
pub one_to_itself : told (0x39 ∷ 0x2D ∷ 0x30 ∷ 0x39 ∷ []) ≡ (true, no 8 ++ (yes 1 ++ no (last_row - 9)))
unfolding wanted_rows
one_to_itself = refl

-- ---- arguments that name none

-- "0"
pub row_zero : told (0x30 ∷ []) ≡ no_rows
unfolding wanted_rows
row_zero = refl

-- "25"
pub past_the_last : told (0x32 ∷ 0x35 ∷ []) ≡ no_rows
unfolding wanted_rows
past_the_last = refl

-- "5-1"
pub falling : told (0x35 ∷ 0x2D ∷ 0x31 ∷ []) ≡ no_rows
unfolding wanted_rows
falling = refl

-- ""
pub empty : told [] ≡ no_rows
unfolding wanted_rows
empty = refl

-- "1,"
pub no_part_behind : told (0x31 ∷ 0x2C ∷ []) ≡ no_rows
unfolding wanted_rows
no_part_behind = refl

-- ",1"
pub no_part_before : told (0x2C ∷ 0x31 ∷ []) ≡ no_rows
unfolding wanted_rows
no_part_before = refl

-- "1-5-7"
pub two_hyphens : told (0x31 ∷ 0x2D ∷ 0x35 ∷ 0x2D ∷ 0x37 ∷ []) ≡ no_rows
unfolding wanted_rows
two_hyphens = refl

-- "1-"
pub no_end : told (0x31 ∷ 0x2D ∷ []) ≡ no_rows
unfolding wanted_rows
no_end = refl

-- "001"
pub three_digits : told (0x30 ∷ 0x30 ∷ 0x31 ∷ []) ≡ no_rows
unfolding wanted_rows
three_digits = refl

-- " 1"
pub space : told (0x20 ∷ 0x31 ∷ []) ≡ no_rows
unfolding wanted_rows
space = refl

-- "1,a"
pub letter : told (0x31 ∷ 0x2C ∷ 0x61 ∷ []) ≡ no_rows
unfolding wanted_rows
letter = refl
