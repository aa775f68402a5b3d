-- Document 01, "Display cells", in its order: what a row starts with, what a code does at its own cell, what is shown, what a code does after its
-- cell, and a row, code by code, which is that step repeated; `Pages` has the page. Codes are hexadecimal, patterns decimal.
use Rattle.std.specs.Prelude.{Bool, true, false, not, cond, ◌&&◌, ◌||◌, List, [], ◌∷◌, ℕ, ◌+◌, ◌*◌, ◌%◌, eqb, leb, ltb}
use Rattle.laws.specs.Digits.{bit}
use Rattle.display.specs.declared.Cell.{Cell}
use Rattle.display.specs.declared.Height.{Height}
use Rattle.display.specs.declared.Height.TheVariants.{Normal, Upper}
use Rattle.display.specs.declared.state.RowState.{RowState}
use Rattle.display.specs.declared.Symbol.{Symbol}
use Rattle.display.specs.declared.Symbol.TheVariants.{Letter, Mosaic}

-- ---- the start of a row

-- space (letter 20)
abbrev pub space : Symbol
space = Letter 0x20

-- held blank (mosaic 0, contiguous)
abbrev pub blank : Symbol
blank = Mosaic 0 false

abbrev pub black : ℕ
black = 0

abbrev pub white : ℕ
white = 7

-- starting letters, white on black, steady, revealed, unboxed, normal, contiguous, hold off, held blank; no code before, for which 00 stands
unfoldable pub start : RowState
start =
    record {
      mosaics = false;
      foreground = white;
      background = black;
      flash = false;
      conceal = false;
      boxed = false;
      double = false;
      separated = false;
      hold = false;
      held = blank;
      before = 0x00;
    }

-- ---- taking effect at their own cell

-- a code right after the same code
unfoldable pub second : ℕ → RowState → ℕ → Bool
second of state code = eqb code of && eqb state.before of

-- size really changes at its own cell: 0C while double
unfoldable pub ends_double : RowState → ℕ → Bool
ends_double state code = eqb code 0x0C && state.double

-- 09 steady, 0C normal, 18 conceal, 19 contiguous, 1A separated, 1C black background, 1D background becomes foreground, 1E hold; 0B right after 0B
-- boxes from the second, 0A right after 0A unboxes from the second; held goes blank when size really changes
unfoldable pub own_cell : RowState → ℕ → RowState
unfolding second ends_double
own_cell state code =
    record {
      mosaics = state.mosaics;
      foreground = state.foreground;
      background = cond (eqb code 0x1C) black (cond (eqb code 0x1D) state.foreground state.background);
      flash = cond (eqb code 0x09) false state.flash;
      conceal = cond (eqb code 0x18) true state.conceal;
      boxed = cond (second 0x0B state code) true (cond (second 0x0A state code) false state.boxed);
      double = cond (eqb code 0x0C) false state.double;
      separated = cond (eqb code 0x19) false (cond (eqb code 0x1A) true state.separated);
      hold = cond (eqb code 0x1E) true state.hold;
      held = cond (ends_double state code) blank state.held;
      before = state.before;
    }

-- ---- what is shown

-- a code from one to another
unfoldable pub within : ℕ → ℕ → ℕ → Bool
within low high code = leb low code && leb code high

unfoldable pub pattern : ℕ → ℕ
unfolding bit
pattern code = bit code 1 + 2 * bit code 2 + 4 * bit code 3 + 8 * bit code 4 + 16 * bit code 5 + 32 * bit code 7

-- in mosaics, codes 20 to 3F and 60 to 7F give the pattern
unfoldable pub gives_pattern : RowState → ℕ → Bool
unfolding within
gives_pattern state code = state.mosaics && (within 0x20 0x3F code || within 0x60 0x7F code)

-- with their contiguous or separated form
unfoldable pub mosaic : RowState → ℕ → Symbol
unfolding pattern
mosaic state code = Mosaic (pattern code) state.separated

-- a control code shows space, or the held mosaic while hold is on in mosaics
unfoldable pub shown_control : RowState → Symbol
shown_control state = cond (state.hold && state.mosaics) state.held space

unfoldable pub shown : RowState → ℕ → Symbol
unfolding gives_pattern mosaic shown_control
shown state code = cond (ltb code 0x20) (shown_control state) (cond (gives_pattern state code) (mosaic state code) (Letter code))

-- a double cell is the upper half, whose lower half the row below shows
abbrev pub height_of : Bool → Height
height_of double = cond double Upper Normal

-- a cell shows a symbol; besides, foreground and background, flash, conceal, boxed, double
unfoldable pub cell : RowState → Symbol → Cell
cell state symbol =
    record {
      symbol = symbol;
      foreground = state.foreground;
      background = state.background;
      flash = state.flash;
      conceal = state.conceal;
      boxed = state.boxed;
      height = height_of state.double;
    }

-- ---- after their cell

-- 01 to 07 letters in that colour, which is their low three bits too
unfoldable pub letters_colour : ℕ → Bool
unfolding within
letters_colour code = within 0x01 0x07 code

-- 11 to 17 mosaics in the colour of the low three bits
unfoldable pub mosaics_colour : ℕ → Bool
unfolding within
mosaics_colour code = within 0x11 0x17 code

unfoldable pub colour : ℕ → Bool
unfolding letters_colour mosaics_colour
colour code = letters_colour code || mosaics_colour code

-- letters/mosaics or size really changes after the cell
unfoldable pub changes_after : RowState → ℕ → Bool
unfolding letters_colour mosaics_colour
changes_after state code =
    letters_colour code && state.mosaics || mosaics_colour code && not state.mosaics || eqb code 0x0D && not state.double

-- 01 to 07 letters, 11 to 17 mosaics (both also reveal), 08 flash, 0D double, 1F release; a pattern becomes held; held goes blank when letters/mosaics
-- or size really changes. 00, 0E, 0F, 10 and 1B stand neither here nor at the own cell: they change nothing
unfoldable pub after_cell : RowState → ℕ → RowState
unfolding letters_colour mosaics_colour colour changes_after gives_pattern mosaic
after_cell state code =
    record {
      mosaics = cond (letters_colour code) false (cond (mosaics_colour code) true state.mosaics);
      foreground = cond (colour code) (code % 8) state.foreground;
      background = state.background;
      flash = cond (eqb code 0x08) true state.flash;
      conceal = cond (colour code) false state.conceal;
      boxed = state.boxed;
      double = cond (eqb code 0x0D) true state.double;
      separated = state.separated;
      hold = cond (eqb code 0x1F) false state.hold;
      held = cond (changes_after state code) blank (cond (gives_pattern state code) (mosaic state code) state.held);
      before = code;
    }

-- ---- a row, code by code

-- effects at a code's own cell come before it is shown
unfoldable pub cell_at : RowState → ℕ → Cell
unfolding own_cell shown cell
cell_at state code = cell (own_cell state code) (shown (own_cell state code) code)

unfoldable pub next : RowState → ℕ → RowState
unfolding own_cell after_cell
next state code = after_cell (own_cell state code) code

-- the cells of some codes, from a state on
unfoldable pub along : RowState → List ℕ → List Cell
unfolding cell_at next
along state [] = []
along state (code ∷ codes) = cell_at state code ∷ along (next state code) codes

-- ---- the zero cell

-- the letter 00 with every part 0 or false, and normal, for the place of cells that are not there
unfoldable pub zero_cell : Cell
zero_cell =
    record {
      symbol = Letter 0x00;
      foreground = 0;
      background = 0;
      flash = false;
      conceal = false;
      boxed = false;
      height = Normal;
    }
