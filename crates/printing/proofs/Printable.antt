-- Every cell of a page is printed as a character that can be printed, 20 to 7E: what is held is always a mosaic, and letters are of 20 to 7F.
use mathlib.Core.Path.{◌≡◌, refl, sym, ◌∙◌, subst}
use mathlib.Core.Bool.{Bool, true, false, cond, ◌&&◌}
use mathlib.Core.List.{List, [], ◌∷◌}
use Prim.Native.Nat.{ℕ, ◌≤◌}
use native.Mathlib.Omega.{arith}
use borrow.Author.Tests.{leb-true, ltb-false, eqb-false}
use lib.Dec.{eqb, leb, ltb, lit≤}
use Rattle.laws.proofs.Bools.{both_true}
use Rattle.laws.proofs.Keeps.{either}
use Rattle.display.specs.Display.{
  space,
  blank,
  start,
  ends_double,
  own_cell,
  gives_pattern,
  mosaic,
  shown_control,
  shown,
  cell,
  changes_after,
  after_cell,
  cell_at,
  next,
  along,
}
use Rattle.display.specs.Pages.{all_codes, is_double, is_page, lower_half, page_cells, space_under, under}
use Rattle.display.specs.declared.Symbol.{Symbol}
use Rattle.display.specs.declared.Symbol.TheVariants.{Letter, Mosaic}
use Rattle.display.specs.declared.Cell.{Cell}
use Rattle.display.specs.declared.state.RowState.{RowState}
use Rattle.display.proofs.Each.{Each, page-has}
use Rattle.display.proofs.Steps.{along_none, along_cons, codes_cons, cell_at_is, next_is}
use Rattle.printing.specs.Printed.{unprinted, symbol_byte, cell_byte}

abbrev pub Printable : ℕ → Type 0
Printable byte = (0x20 ≤ byte) × (byte ≤ 0x7E)

-- ---- what is held is always a mosaic

abbrev IsMosaic : Symbol → Type 0
IsMosaic (Letter code) = ⊥
IsMosaic (Mosaic bits separated) = Unit {0}

pattern_mosaic : (state : RowState) (code : ℕ) → IsMosaic (mosaic state code)
unfolding mosaic
pattern_mosaic state code = tt

own_held : (state : RowState) (code : ℕ) → IsMosaic state.held → IsMosaic (own_cell state code).held
unfolding own_cell
own_held state code h = either IsMosaic (ends_double state code) blank state.held tt h

after_held : (state : RowState) (code : ℕ) → IsMosaic state.held → IsMosaic (after_cell state code).held
unfolding after_cell
after_held state code h =
    either IsMosaic (changes_after state code) blank (cond (gives_pattern state code) (mosaic state code) state.held) tt
    (either IsMosaic (gives_pattern state code) (mosaic state code) state.held (pattern_mosaic state code) h)

next_held : (state : RowState) (code : ℕ) → IsMosaic state.held → IsMosaic (next state code).held
next_held state code h =
    subst (λ (s : RowState). IsMosaic s.held) (next_is state code) (after_held (own_cell state code) code (own_held state code h))

-- ---- a symbol that is shown

PrintableSymbol : Symbol → Type 0
PrintableSymbol symbol = Printable (symbol_byte symbol)

mosaic_printable : (symbol : Symbol) → IsMosaic symbol → PrintableSymbol symbol
unfolding PrintableSymbol symbol_byte
mosaic_printable (Letter code) h = absurd h
mosaic_printable (Mosaic bits separated) h = (lit≤ tt, lit≤ tt)

byte_printable : (code : ℕ) (last : Bool) → eqb code 0x7F ≡ last → 0x20 ≤ code → code ≤ 0x7F → Printable (cond last unprinted code)
byte_printable code true e low high = (lit≤ tt, lit≤ tt)
byte_printable code false e low high = let other = eqb-false code 0x7F e in (low, below code high other)
  where
    below : (code : ℕ) → code ≤ 0x7F → (code ≡ 0x7F → ⊥) → code ≤ 0x7E
    below code high other = omega arith

letter_printable : (code : ℕ) → 0x20 ≤ code → code ≤ 0x7F → PrintableSymbol (Letter code)
unfolding PrintableSymbol symbol_byte
letter_printable code low high = byte_printable code (eqb code 0x7F) refl low high

control_printable : (state : RowState) → IsMosaic state.held → PrintableSymbol (shown_control state)
unfolding shown_control
control_printable state h =
    either PrintableSymbol (state.hold && state.mosaics) state.held space (mosaic_printable state.held h)
    (letter_printable 0x20 (lit≤ tt) (lit≤ tt))

by_code : (state : RowState) (code : ℕ) (control : Bool) → ltb code 0x20 ≡ control → code ≤ 0x7F → IsMosaic state.held
    → PrintableSymbol (cond control (shown_control state) (cond (gives_pattern state code) (mosaic state code) (Letter code)))
by_code state code true e high h = control_printable state h
by_code state code false e high h =
    either PrintableSymbol (gives_pattern state code) (mosaic state code) (Letter code)
    (mosaic_printable (mosaic state code) (pattern_mosaic state code)) (letter_printable code (ltb-false code 0x20 e) high)

shown_printable : (state : RowState) (code : ℕ) → code ≤ 0x7F → IsMosaic state.held → PrintableSymbol (shown state code)
unfolding shown
shown_printable state code high h = by_code state code (ltb code 0x20) refl high h

cell_printable : (state : RowState) (code : ℕ) → code ≤ 0x7F → IsMosaic state.held → Printable (cell_byte (cell_at state code))
unfolding cell_byte cell PrintableSymbol
cell_printable state code high h =
    subst (λ (c : Cell). Printable (symbol_byte c.symbol)) (cell_at_is state code)
    (shown_printable (own_cell state code) code high (own_held state code h))

-- ---- the page

abbrev pub PrintableCell : Cell → Type 0
PrintableCell cell = Printable (cell_byte cell)

along_printable : (codes : List ℕ) (state : RowState) → all_codes codes ≡ true → IsMosaic state.held → Each PrintableCell (along state codes)
along_printable [] state all h = rw (along_none state) tt
along_printable (code ∷ codes) state all h =
    let both = both_true (leb code 0x7F) (all_codes codes) (sym (codes_cons code codes) ∙ all) in
    rw (along_cons state code codes)
    (cell_printable state code (leb-true code 0x7F both.0) h, along_printable codes (next state code) both.1 (next_held state code h))

start_held : IsMosaic start.held
unfolding start
start_held = tt

-- under a cell its own symbol is shown, or a space
under_printable : (cell : Cell) → PrintableCell cell → PrintableCell (under cell)
unfolding under cell_byte lower_half space_under symbol_byte
under_printable cell h = either PrintableCell (is_double cell.height) (lower_half cell) (space_under cell) h (lit≤ tt, lit≤ tt)

pub page_printable : (codes : List ℕ) → is_page codes ≡ true → Each PrintableCell (page_cells codes)
page_printable codes e = page-has PrintableCell (λ row all. along_printable row start all start_held) under_printable codes e
