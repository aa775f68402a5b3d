-- For the contracts of private functions: no promise rests on these words.
use Rattle.std.specs.Prelude.{Bool, false, not, ◌&&◌, ◌||◌, List, ℕ, ◌+◌, ◌-◌, ◌/◌, take, drop}
use Rattle.grid.specs.Grid.{columns}
use Rattle.display.specs.Display.{within}
use Rattle.display.specs.Pages.{has_double, may_double}
use Rattle.display.specs.declared.state.RowState.{RowState}
use Rattle.display.specs.declared.Symbol.{Symbol}
use Rattle.display.specs.declared.doubling.PageRow.{PageRow}

-- a state in which nothing is new but what is held and the code before, as after a code with no effects after its cell
unfoldable pub passed : RowState → Symbol → ℕ → RowState
passed state held code =
    record {
      mosaics = state.mosaics;
      foreground = state.foreground;
      background = state.background;
      flash = state.flash;
      conceal = state.conceal;
      boxed = state.boxed;
      double = state.double;
      separated = state.separated;
      hold = state.hold;
      held = held;
      before = code;
    }

-- the codes from the first to the last that take effect at their own cell, in their two runs
unfoldable pub acts_at_once : ℕ → Bool
unfolding within
acts_at_once code = within 0x09 0x0C code || within 0x18 0x1E code

-- ---- the way down a page

-- row 0, which lies below none, and on which 0D does not count
abbrev pub first_row : PageRow
first_row = record { end = columns; below = false; counts = false }

-- whether the row is doubled, by what is known of it
abbrev pub doubles : PageRow → List ℕ → Bool
doubles row codes = row.counts && (not row.below && has_double (take columns (drop (row.end - columns) codes)))

-- the row below: its number is this row's end, counted in rows
abbrev pub next_row : PageRow → List ℕ → PageRow
next_row row codes = record { end = row.end + columns; below = doubles row codes; counts = may_double (row.end / columns) }
