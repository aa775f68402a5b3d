-- What a cell can hold: colours of 0 to 7, patterns of six bits, letters of 00 to 7F. It holds of every page's cells, shown or refused.
use mathlib.Core.Path.{◌≡◌, refl, sym, ◌∙◌}
use mathlib.Core.Bool.{Bool, true, false, cond, ◌&&◌}
use mathlib.Core.List.{List, [], ◌∷◌}
use Prim.Native.Nat.{ℕ, zero, suc, ◌≤◌, ◌<◌, ◌%◌}
use native.Mathlib.Omega.{arith}
use borrow.Author.Tests.{leb-true}
use lib.Dec.{eqb, leb, ltb, lit<, lit≤}
use lib.ListN.{replicate}
use Rattle.laws.proofs.Bools.{both_true}
use Rattle.laws.proofs.Keeps.{either}
use Rattle.grid.specs.Grid.{cell_count}
use Rattle.display.specs.Display.{blank, start, ends_double, own_cell, pattern, gives_pattern, mosaic, shown_control, shown, cell}
use Rattle.display.specs.Display.{colour, changes_after, after_cell, cell_at, next, along, zero_cell}
use Rattle.display.specs.Pages.{all_codes, displayed, is_double, is_page, lower_half, space_under, under, zero_cells}
use Rattle.display.specs.declared.Cell.{Cell}
use Rattle.display.specs.declared.Symbol.{Symbol}
use Rattle.display.specs.declared.Symbol.TheVariants.{Letter, Mosaic}
use Rattle.display.specs.declared.state.RowState.{RowState}
use Rattle.display.proofs.Each.{Each, page-has}
use Rattle.display.proofs.Pages.{shown_page, refused_page}
use Rattle.display.proofs.Steps.{along_none, along_cons, codes_cons, cell_at_is, next_is}

abbrev pub SmallSymbol : Symbol → Type 0
SmallSymbol (Letter code) = code ≤ 0x7F
SmallSymbol (Mosaic bits separated) = bits < 64

pub record Small (cell : Cell) : Type 0 where
  pub symbol : SmallSymbol cell.symbol
  pub foreground : cell.foreground ≤ 7
  pub background : cell.background ≤ 7

-- the same of what goes from cell to cell
record Kept (state : RowState) : Type 0 where
  held : SmallSymbol state.held
  foreground : state.foreground ≤ 7
  background : state.background ≤ 7

abbrev Colour : ℕ → Type 0
Colour n = n ≤ 7

low_bits : (code : ℕ) → pattern code < 64
unfolding pattern
low_bits code = omega arith

mosaic_small : (state : RowState) (code : ℕ) → SmallSymbol (mosaic state code)
unfolding mosaic
mosaic_small state code = low_bits code

own_kept : (state : RowState) (code : ℕ) → Kept state → Kept (own_cell state code)
unfolding own_cell
own_kept state code k =
    record {
      held = either SmallSymbol (ends_double state code) blank state.held (lit< tt) k.held;
      foreground = k.foreground;
      background =
          either Colour (eqb code 0x1C) 0 (cond (eqb code 0x1D) state.foreground state.background) (lit≤ tt)
          (either Colour (eqb code 0x1D) state.foreground state.background k.foreground k.background);
    }

after_kept : (state : RowState) (code : ℕ) → Kept state → Kept (after_cell state code)
unfolding after_cell
after_kept state code k =
    record {
      held =
          either SmallSymbol (changes_after state code) blank (cond (gives_pattern state code) (mosaic state code) state.held) (lit< tt)
          (either SmallSymbol (gives_pattern state code) (mosaic state code) state.held (mosaic_small state code) k.held);
      foreground = either Colour (colour code) (code % 8) state.foreground (omega arith) k.foreground;
      background = k.background;
    }

next_kept : (state : RowState) (code : ℕ) → Kept state → Kept (next state code)
next_kept state code k = rw (← next_is state code) (after_kept (own_cell state code) code (own_kept state code k))

shown_small : (state : RowState) (code : ℕ) → code ≤ 0x7F → Kept state → SmallSymbol (shown state code)
unfolding shown
shown_small state code h k =
    either SmallSymbol (ltb code 0x20) (shown_control state) (cond (gives_pattern state code) (mosaic state code) (Letter code))
    (either SmallSymbol (state.hold && state.mosaics) state.held (Letter 0x20) k.held (lit≤ tt))
    (either SmallSymbol (gives_pattern state code) (mosaic state code) (Letter code) (mosaic_small state code) h)

cell_small : (state : RowState) (symbol : Symbol) → SmallSymbol symbol → Kept state → Small (cell state symbol)
unfolding cell
cell_small state symbol h k = record { symbol = h; foreground = k.foreground; background = k.background }

cell_at_small : (state : RowState) (code : ℕ) → code ≤ 0x7F → Kept state → Small (cell_at state code)
cell_at_small state code h k =
    let own = own_kept state code k in
    rw (← cell_at_is state code) (cell_small (own_cell state code) (shown (own_cell state code) code) (shown_small (own_cell state code) code h own) own)

along_small : (state : RowState) (codes : List ℕ) → all_codes codes ≡ true → Kept state → Each Small (along state codes)
along_small state [] e k = rw (along_none state) tt
along_small state (code ∷ codes) e k =
    let both = both_true (leb code 0x7F) (all_codes codes) (sym (codes_cons code codes) ∙ e) in
    rw (along_cons state code codes)
    (cell_at_small state code (leb-true code 0x7F both.0) k, along_small (next state code) codes both.1 (next_kept state code k))

start_kept : Kept start
unfolding start
start_kept = record { held = lit< tt; foreground = lit≤ tt; background = lit≤ tt }

zero_small : Small zero_cell
unfolding zero_cell
zero_small = record { symbol = lit≤ tt; foreground = lit≤ tt; background = lit≤ tt }

many : (n : ℕ) (cell : Cell) → Small cell → Each Small (replicate n cell)
many zero cell s = tt
many (suc n) cell s = (s, many n cell s)

zeros_small : Each Small zero_cells
unfolding zero_cells
zeros_small = many cell_count zero_cell zero_small

-- what is under a small cell has its colours, and its symbol or a space
under_small : (cell : Cell) → Small cell → Small (under cell)
unfolding under
under_small cell s =
    either Small (is_double cell.height) (lower_half cell) (space_under cell)
    (record { symbol = s.symbol; foreground = s.foreground; background = s.background })
    (record { symbol = lit≤ tt; foreground = s.foreground; background = s.background })

small_if : (codes : List ℕ) (page : Bool) → is_page codes ≡ page → Each Small (displayed codes).cells
small_if codes true e = rw (shown_page codes e) (page-has Small (λ row all. along_small start row all start_kept) under_small codes e)
small_if codes false e = rw (refused_page codes e) zeros_small

pub small : (codes : List ℕ) → Each Small (displayed codes).cells
small codes = small_if codes (is_page codes) refl
