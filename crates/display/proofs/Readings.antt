-- Worked rows where the papers could be read in more than one way, computed: each shows which reading the definitions have.
use mathlib.Core.Path.{◌≡◌, refl}
use mathlib.Core.Bool.{Bool, true, false}
use mathlib.Core.List.{List, [], ◌∷◌, ◌++◌, map}
use Prim.Native.Nat.{ℕ}
use lib.ListN.{replicate}
use Rattle.display.specs.Display.{space, blank, start, along}
use Rattle.display.specs.Pages.{alone, doubled, may_double, under}
use Rattle.display.specs.declared.Cell.{Cell}
use Rattle.display.specs.declared.Height.{Height}
use Rattle.display.specs.declared.Height.TheVariants.{Normal, Upper, Lower}
use Rattle.display.specs.declared.Symbol.{Symbol}
use Rattle.display.specs.declared.Symbol.TheVariants.{Letter, Mosaic}
use Rattle.display.proofs.Marked.{in_colour}

abbrev symbols : List ℕ → List Symbol
symbols codes = map (λ (cell : Cell). cell.symbol) (along start codes)

abbrev full : Symbol
full = Mosaic 63 false

-- the held mosaic keeps its own form and shows in the current foreground: a separated one past 19 (contiguous) and 12 (green)
pub own_form : map in_colour (along start (0x11 ∷ 0x1A ∷ 0x7F ∷ 0x1E ∷ 0x19 ∷ 0x12 ∷ 0x00 ∷ []))
    ≡ (space, 7) ∷ (space, 1) ∷ (Mosaic 63 true, 1) ∷ (Mosaic 63 true, 1) ∷ (Mosaic 63 true, 1) ∷ (Mosaic 63 true, 1) ∷ (Mosaic 63 true, 2) ∷ []
unfolding along start
own_form = refl

-- 0D changes size after its cell, which still shows what was held; a second 0D changes nothing
pub blank_after_0_d : symbols (0x11 ∷ 0x1E ∷ 0x7F ∷ 0x0D ∷ 0x00 ∷ 0x7F ∷ 0x0D ∷ 0x00 ∷ []) ≡ space ∷ blank ∷ full ∷ full ∷ blank ∷ full ∷ full ∷ full ∷ []
unfolding along start
blank_after_0_d = refl

-- 0C changes size at its own cell, which is blank already; a 0C in normal size changes nothing
pub blank_at_0_c : symbols (0x11 ∷ 0x1E ∷ 0x0D ∷ 0x7F ∷ 0x0C ∷ 0x7F ∷ 0x0C ∷ []) ≡ space ∷ blank ∷ blank ∷ full ∷ blank ∷ full ∷ full ∷ []
unfolding along start
blank_at_0_c = refl

-- the mode of a colour code's own cell is the one before it: held mosaic at 07, space at 17; after both, held is blank
pub mode-after : symbols (0x11 ∷ 0x1E ∷ 0x7F ∷ 0x07 ∷ 0x17 ∷ 0x00 ∷ []) ≡ space ∷ blank ∷ full ∷ full ∷ space ∷ blank ∷ []
unfolding along start
mode-after = refl

-- a letter in mosaics leaves what is held
pub letter_leaves : symbols (0x11 ∷ 0x1E ∷ 0x7F ∷ 0x41 ∷ 0x00 ∷ []) ≡ space ∷ blank ∷ full ∷ Letter 0x41 ∷ full ∷ []
unfolding along start
letter_leaves = refl

-- a colour code's own cell is still concealed
pub still_concealed : map (λ (cell : Cell). cell.conceal) (along start (0x18 ∷ 0x41 ∷ 0x01 ∷ 0x41 ∷ [])) ≡ true ∷ true ∷ true ∷ false ∷ []
unfolding along start
still_concealed = refl

-- 1D takes the foreground before it, and 1C goes back to black at its own cell
pub backgrounds : map (λ (cell : Cell). cell.background) (along start (0x1D ∷ 0x01 ∷ 0x1D ∷ 0x41 ∷ 0x1C ∷ [])) ≡ 7 ∷ 7 ∷ 1 ∷ 1 ∷ 0 ∷ []
unfolding along start
backgrounds = refl

-- "right after" is the cell before in the same row: a pair that is split boxes nothing
pub split_pair : map (λ (cell : Cell). cell.boxed) (along start (0x0B ∷ 0x41 ∷ 0x0B ∷ 0x0B ∷ 0x0A ∷ 0x41 ∷ 0x0A ∷ 0x0A ∷ []))
    ≡ false ∷ false ∷ false ∷ true ∷ true ∷ true ∷ true ∷ false ∷ []
unfolding along start
split_pair = refl

-- ---- double height

abbrev sizes : List Cell → List (Symbol × Height)
sizes cells = map (λ (cell : Cell). (cell.symbol, cell.height)) cells

-- 0D's own cell is still normal, 0C's own cell is normal again
pub upper_halves : sizes (along start (0x41 ∷ 0x0D ∷ 0x42 ∷ 0x0C ∷ 0x43 ∷ []))
    ≡ (Letter 0x41, Normal) ∷ (space, Normal) ∷ (Letter 0x42, Upper) ∷ (space, Normal) ∷ (Letter 0x43, Normal) ∷ []
unfolding along start
upper_halves = refl

-- below them: the lower half, and spaces
pub lower_halves : sizes (map under (along start (0x41 ∷ 0x0D ∷ 0x42 ∷ 0x0C ∷ 0x43 ∷ [])))
    ≡ (space, Normal) ∷ (space, Normal) ∷ (Letter 0x42, Lower) ∷ (space, Normal) ∷ (space, Normal) ∷ []
unfolding under along start
lower_halves = refl

abbrev on_ground : Cell → Symbol × ℕ × Bool × Bool
on_ground cell = (cell.symbol, cell.background, cell.conceal, cell.boxed)

-- the space below a cell that is not double is on that cell's background, and concealed and boxed as it is
pub below_on_red : map on_ground (map under (along start (0x01 ∷ 0x1D ∷ 0x18 ∷ 0x0B ∷ 0x0B ∷ 0x41 ∷ [])))
    ≡ (space, 0, false, false)
    ∷ (space, 1, false, false)
    ∷ (space, 1, true, false)
    ∷ (space, 1, true, false)
    ∷ (space, 1, true, true)
    ∷ (space, 1, true, true)
    ∷ []
unfolding under along start
below_on_red = refl

-- where 0D does not count it is like 00: no size changes, and what is held stays, as it does not where 0D counts
pub held_past_0_d : map (λ (cell : Cell). cell.symbol) (alone false (0x11 ∷ 0x1E ∷ 0x7F ∷ 0x0D ∷ 0x00 ∷ 0x41 ∷ []))
    ≡ space ∷ blank ∷ full ∷ full ∷ full ∷ Letter 0x41 ∷ []
unfolding alone
held_past_0_d = refl

abbrev doubled_first : List ℕ → List Bool
doubled_first codes = map (doubled codes) (0 ∷ 1 ∷ 2 ∷ 3 ∷ 4 ∷ [])

abbrev last_column : List ℕ
last_column = replicate 39 0x20 ++ (0x0D ∷ [])

-- 0D in the last column of five rows running: row 0 takes none, row 1 takes row 2, which is not asked, and row 3 takes row 4
pub five_running : doubled_first (last_column ++ (last_column ++ (last_column ++ (last_column ++ last_column)))) ≡ false ∷ true ∷ false ∷ true ∷ false ∷ []
unfolding doubled
five_running = refl

abbrev undone_on_row1 : List ℕ
undone_on_row1 = replicate 40 0x20 ++ (0x0D ∷ 0x0C ∷ [])

-- a 0D on row 1 that is undone at once takes the row below all the same
pub undone : doubled_first undone_on_row1 ≡ false ∷ true ∷ false ∷ false ∷ false ∷ []
unfolding doubled
undone = refl

-- 0D counts on rows 1 and 22, and not on rows 0, 23 and 24
pub first_and_last : map may_double (0 ∷ 1 ∷ 22 ∷ 23 ∷ 24 ∷ []) ≡ false ∷ true ∷ true ∷ false ∷ false ∷ []
unfolding may_double
first_and_last = refl
