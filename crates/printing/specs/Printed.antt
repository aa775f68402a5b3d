-- Document 01, "Programs": the page printer prints "?" for mosaics and 7F, and concealed letters as letters. A control code prints what its cell shows: a space, or
-- "?" where it shows a held mosaic. By request 1 of document 02 a lower half prints its letter again.
use Rattle.std.specs.Prelude.{cond, List, ℕ, eqb}
use Rattle.laws.specs.Paper.{Paper}
use Rattle.display.specs.declared.Cell.{Cell}
use Rattle.display.specs.declared.Symbol.{Symbol}
use Rattle.display.specs.declared.Symbol.TheVariants.{Letter, Mosaic}

-- "?"
abbrev pub unprinted : ℕ
unprinted = 0x3F

-- a letter as itself; "?" for mosaics, a blank one too, and for 7F
unfoldable pub symbol_byte : Symbol → ℕ
symbol_byte (Letter code) = cond (eqb code 0x7F) unprinted code
symbol_byte (Mosaic bits separated) = unprinted

-- whatever the cell's colours are, whether it flashes, is concealed or boxed, and whether it is a half
unfoldable pub cell_byte : Cell → ℕ
unfolding symbol_byte
cell_byte cell = symbol_byte cell.symbol

-- the answer, and the bytes beside it
pub record Printed : Type 0 where
  pub answer : Paper
  pub bytes : List ℕ
