-- The codes of a page that is read from a record, or of the zeros beside a refused one: always the grid's count of 00 to 7F, so that no page of a record is refused by 25, and
-- every cell of it can be printed.
use mathlib.Core.Path.{◌≡◌, refl}
use mathlib.Core.Bool.{Bool, true, false, cond, ◌&&◌}
use mathlib.Core.List.{List, [], ◌∷◌}
use Prim.Native.Nat.{ℕ, ◌^◌}
use native.Mathlib.Omega.{arith}
use borrow.Author.Tests.{eq-eqb, le-leb, ltb-true}
use lib.Dec.{T, ltb}
use lib.ListN.{length, length-replicate}
use Rattle.std.specs.Prelude.{Result, Ok, Err, ⊤}
use Rattle.laws.specs.Every.{every}
use Rattle.laws.specs.Fields.{fits}
use Rattle.laws.proofs.Bools.{both_true, passed}
use Rattle.laws.proofs.Inverse.{never}
use Rattle.laws.proofs.Keeps.{every-replicate}
use Rattle.grid.specs.Grid.{cell_count}
use Rattle.display.specs.Pages.{all_codes, is_page, page_cells}
use Rattle.display.proofs.Each.{Each}
use Rattle.display.proofs.Steps.{codes_cons, codes_none}
use Rattle.page.specs.Lawful.{cells_fit, cells_lawful, digits_lawful, header_fits, magazine_fits, page_fits}
use Rattle.page.specs.Records.{character_width, mark_width}
use Rattle.page.specs.Reading.{page_beside, page_in, page_read, read_answer, zero_page}
use Rattle.page.specs.Writing.{page_answer}
use Rattle.page.specs.declared.Page.{Page}
use Rattle.page.specs.declared.ReadError.{ReadError}
use Rattle.page.specs.declared.WriteError.{WriteError}
use Rattle.page.specs.declared.WriteError.TheVariants.{TooLarge, BadDigit, UnlawfulCells}
use Rattle.page.proofs.Trips.{whole-read, writes-read}
use Rattle.printing.proofs.Printable.{PrintableCell, page_printable}

-- ---- characters of seven bits are codes

abbrev pub Characters : List ℕ → Type 0
Characters characters = (length characters ≡ cell_count) × (every (fits character_width) characters ≡ true)

codes_fit : (characters : List ℕ) → every (fits character_width) characters ≡ true → all_codes characters ≡ true
unfolding every fits
codes_fit [] e = codes_none
codes_fit (code ∷ codes) e =
    let both = both_true (ltb code (2 ^ character_width)) (every (fits character_width) codes) e in
    let small = ltb-true code (2 ^ character_width) both.0 in
    rw (codes_cons code codes, le-leb code 0x7F (omega arith), codes_fit codes both.1)

pub page_of_law : (characters : List ℕ) → Characters characters → is_page characters ≡ true
unfolding is_page
page_of_law characters h = rw (eq-eqb (length characters) cell_count h.0, codes_fit characters h.1)

-- ---- those of a page that can be written, and of zeros

fits_of : (fit : Bool) (other : Result ⊤ WriteError) → cond fit other (Err TooLarge) ≡ Ok tt → fit ≡ true
fits_of true other e = refl
fits_of false other e = absurd (never (cc))

page_fits_law : (page : Page) → page_answer page ≡ Ok tt → page_fits page ≡ true
unfolding page_answer
page_fits_law page e =
    fits_of (page_fits page) (cond (digits_lawful page.header) (cond (cells_lawful page.cells) (Ok tt) (Err UnlawfulCells)) (Err BadDigit)) e

characters_fit : (page : Page) → page_fits page ≡ true → every (fits character_width) page.cells.characters ≡ true
unfolding page_fits cells_fit
characters_fit page e =
    let inner = (both_true (magazine_fits page.magazine) (header_fits page.header && cells_fit page.cells) e).1 in
    let cells = (both_true (header_fits page.header) (cells_fit page.cells) inner).1 in
    (both_true (every (fits mark_width) page.cells.marks) (every (fits character_width) page.cells.characters) cells).1

zero_fits : T (fits character_width 0)
unfolding fits
zero_fits = tt

zeros : Characters zero_page.cells.characters
unfolding zero_page
zeros = (length-replicate {A = ℕ} cell_count 0, passed _ (every-replicate (fits character_width) cell_count 0 zero_fits))

beside : (answer : Result ⊤ ReadError) (bytes : List ℕ) → read_answer bytes ≡ answer → Characters (page_beside answer bytes).cells.characters
unfolding page_beside
beside (Ok tt) bytes e = ((whole-read bytes e).0, characters_fit (page_in bytes) (page_fits_law (page_in bytes) (writes-read bytes e)))
beside (Err error) bytes e = zeros

marks_beside : (answer : Result ⊤ ReadError) (bytes : List ℕ) → read_answer bytes ≡ answer → length (page_beside answer bytes).cells.marks ≡ cell_count
unfolding page_beside zero_page
marks_beside (Ok tt) bytes e = (whole-read bytes e).1
marks_beside (Err error) bytes e = length-replicate {A = ℕ} cell_count 0

-- ---- whatever the record's bytes are

pub marks_read : (bytes : List ℕ) → length (page_read bytes).cells.marks ≡ cell_count
unfolding page_read
marks_read bytes = marks_beside (read_answer bytes) bytes refl

pub characters_read : (bytes : List ℕ) → Characters (page_read bytes).cells.characters
unfolding page_read
characters_read bytes = beside (read_answer bytes) bytes refl

-- never refused by 25
pub page_shown : (bytes : List ℕ) → is_page (page_read bytes).cells.characters ≡ true
page_shown bytes = page_of_law (page_read bytes).cells.characters (characters_read bytes)

-- and so every cell is printed as one of 20 to 7E
pub cells_printable : (bytes : List ℕ) → Each PrintableCell (page_cells (page_read bytes).cells.characters)
cells_printable bytes = page_printable (page_read bytes).cells.characters (page_shown bytes)
