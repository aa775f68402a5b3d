-- The marked cases 9 to 12 of document 01, computed. A row's first cells depend on its first codes alone, and none of these is 0D, so that each holds of every row that
-- starts with these codes and lies below no doubled one (`Halves`, `first-shown`).
use mathlib.Core.Path.{◌≡◌, refl}
use mathlib.Core.Bool.{Bool, true, false}
use mathlib.Core.List.{[], ◌∷◌, map}
use Prim.Native.Nat.{ℕ}
use Rattle.display.specs.Display.{space, pattern, start, along}
use Rattle.display.specs.declared.Cell.{Cell}
use Rattle.display.specs.declared.Symbol.{Symbol}
use Rattle.display.specs.declared.Symbol.TheVariants.{Letter, Mosaic}

-- 9. Mosaic 35→21, 60→32, 7F→63
pub case_9 : map pattern (0x35 ∷ 0x60 ∷ 0x7F ∷ []) ≡ 21 ∷ 32 ∷ 63 ∷ []
unfolding pattern
case_9 = refl

abbrev pub in_colour : Cell → Symbol × ℕ
in_colour cell = (cell.symbol, cell.foreground)

-- 10. Codes 11 7F 1E 12 20: space; 63 red; 63 red; 63 red; 0 green
pub case_10 : map in_colour (along start (0x11 ∷ 0x7F ∷ 0x1E ∷ 0x12 ∷ 0x20 ∷ []))
    ≡ (space, 7) ∷ (Mosaic 63 false, 1) ∷ (Mosaic 63 false, 1) ∷ (Mosaic 63 false, 1) ∷ (Mosaic 0 false, 2) ∷ []
unfolding along start
case_10 = refl

abbrev is_boxed : Cell → Bool
is_boxed cell = cell.boxed

-- 11. 0B 0B 41 0A 0A: cells 1 to 3 boxed
pub case_11 : map is_boxed (along start (0x0B ∷ 0x0B ∷ 0x41 ∷ 0x0A ∷ 0x0A ∷ [])) ≡ false ∷ true ∷ true ∷ true ∷ false ∷ []
unfolding along start
case_11 = refl

abbrev in_colours : Cell → Symbol × ℕ × ℕ
in_colours cell = (cell.symbol, cell.foreground, cell.background)

-- 12. 01 1D 41: the A is red on red
pub case_12 : map in_colours (along start (0x01 ∷ 0x1D ∷ 0x41 ∷ [])) ≡ (space, 7, 0) ∷ (space, 1, 1) ∷ (Letter 0x41, 1, 1) ∷ []
unfolding along start
case_12 = refl
