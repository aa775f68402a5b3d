-- A page as a whole: when it is shown and when it is refused, and that it has always the grid's cells.
use mathlib.Core.Path.{◌≡◌, refl}
use mathlib.Core.Bool.{Bool, true, false}
use mathlib.Core.List.{List, [], ◌∷◌}
use Prim.Native.Nat.{ℕ, suc, ◌<◌, ◌≤◌}
use native.Mathlib.Omega.{arith}
use borrow.Author.Tests.{eq-eqb, eqb-true, le-leb}
use lib.Dec.{eqb}
use lib.ListN.{length, get_or, length-replicate}
use Rattle.laws.specs.Paper.{accepted, refused_by}
use Rattle.laws.proofs.Bools.{both_true}
use Rattle.grid.specs.Grid.{cell_count}
use Rattle.display.specs.Display.{zero_cell}
use Rattle.display.specs.Pages.{all_codes, displayed, is_page, page_cells, zero_cells}
use Rattle.display.proofs.Rows.{page-length}
use Rattle.display.proofs.Steps.{codes_none, codes_cons}

-- as many codes as the grid's cells, of 00 to 7F, are shown
pub shown_page : (codes : List ℕ) → is_page codes ≡ true → displayed codes ≡ record { answer = accepted []; cells = page_cells codes }
unfolding displayed
shown_page codes e = rw e

-- all else is refused by 25, with cells that are all zeros
pub refused_page : (codes : List ℕ) → is_page codes ≡ false → displayed codes ≡ record { answer = refused_by 25 []; cells = zero_cells }
unfolding displayed
refused_page codes e = rw e

-- a page has as many codes as the grid's cells, each of 00 to 7F
pub page_is : (codes : List ℕ) → is_page codes ≡ true → (length codes ≡ cell_count) × (all_codes codes ≡ true)
unfolding is_page
page_is codes e =
    let both = both_true (eqb (length codes) cell_count) (all_codes codes) e in
    (eqb-true _ _ both.0, both.1)

all_codes_law : (codes : List ℕ) → ((i : ℕ) → i < length codes → get_or codes i 0 ≤ 0x7F) → all_codes codes ≡ true
all_codes_law [] h = codes_none
all_codes_law (code ∷ codes) h =
    rw (codes_cons code codes, le-leb code 0x7F (h 0 (omega arith))) (all_codes_law codes (λ i k. h (suc i) (omega arith)))

-- so many codes, each of 00 to 7F, are a page
pub a_page : (codes : List ℕ) → length codes ≡ cell_count → ((i : ℕ) → i < length codes → get_or codes i 0 ≤ 0x7F) → is_page codes ≡ true
unfolding is_page
a_page codes e h = rw (eq-eqb (length codes) cell_count e) (all_codes_law codes h)

zeros_length : length zero_cells ≡ cell_count
unfolding zero_cells
zeros_length = length-replicate cell_count zero_cell

always : (codes : List ℕ) (page : Bool) → is_page codes ≡ page → length (displayed codes).cells ≡ cell_count
always codes true e = rw (shown_page codes e) (page-length codes (page_is codes e).0)
always codes false e = rw (refused_page codes e) zeros_length

-- the page has always the grid's cells, shown or refused
pub always_whole : (codes : List ℕ) → length (displayed codes).cells ≡ cell_count
always_whole codes = always codes (is_page codes) refl
