-- A row alone: its first cells depend on its first codes alone, codes without a 0D give the same on every row, and a page of spaces is blank.
use mathlib.Core.Path.{◌≡◌, refl, ◌∙◌, sym, ap}
use mathlib.Core.Bool.{Bool, true, false, and-false}
use mathlib.Core.List.{List, [], ◌∷◌, ◌++◌, map}
use Prim.Native.Nat.{ℕ, zero, suc, ◌+◌, ◌-◌, ◌*◌, ◌<◌, ◌≤◌}
use native.Mathlib.Omega.{arith}
use borrow.Author.Tests.{eq-eqb}
use lib.Dec.{eqb, leb}
use lib.ListN.{length, take, replicate, length-replicate, replicate-append-replicate}
use Rattle.laws.specs.Paper.{accepted}
use Rattle.laws.proofs.Bools.{neither, passed}
use Rattle.laws.proofs.Keeps.{every-replicate, take_map}
use Rattle.laws.proofs.Lists.{drop_replicate, take_replicate}
use Rattle.grid.specs.Grid.{cell_count, columns, rows}
use Rattle.display.specs.Display.{along, black, cell_at, next, space, start, white}
use Rattle.display.specs.Pages.{
  all_codes,
  alone,
  displayed,
  double_code,
  doubled,
  has_double,
  is_page,
  may_double,
  page_cells,
  read_as,
  row_alone,
  row_codes,
  row_shown,
  rows_shown,
}
use Rattle.display.specs.declared.Cell.{Cell}
use Rattle.display.specs.declared.Height.TheVariants.{Normal}
use Rattle.display.specs.declared.state.RowState.{RowState}
use Rattle.display.proofs.Pages.{shown_page}
use Rattle.display.proofs.Rows.{below_doubled, doubled_is, shown_alone}
use Rattle.display.proofs.Steps.{along_cons, along_none, as_it_is}

-- ---- the first cells

-- the first n cells are those of the first n codes, whatever comes after them
pub first_cells : (n : ℕ) (state : RowState) (codes : List ℕ) → take n (along state codes) ≡ along state (take n codes)
first_cells zero state codes = sym (along_none state)
first_cells (suc n) state [] = ap (take (suc n)) (along_none state) ∙ sym (along_none state)
first_cells (suc n) state (code ∷ codes) =
    ap (take (suc n)) (along_cons state code codes)
    ∙ (ap (λ (cells : List Cell). cell_at state code ∷ cells) (first_cells n (next state code) codes) ∙ sym (along_cons state code (take n codes)))

pub first_alone : (n : ℕ) (counts : Bool) (codes : List ℕ) → take n (alone counts codes) ≡ alone counts (take n codes)
unfolding alone
first_alone n counts codes = first_cells n start (map (read_as counts) codes) ∙ ap (along start) (take_map (read_as counts) n codes)

-- ---- codes without a 0D are read as they are

as_they_are : (counts : Bool) (codes : List ℕ) → has_double codes ≡ false → map (read_as counts) codes ≡ codes
unfolding has_double
as_they_are counts [] none = refl
as_they_are counts (code ∷ codes) none =
    let both = neither (eqb code double_code) (has_double codes) none in
    ap (λ (n : ℕ). n ∷ map (read_as counts) codes) (as_it_is counts code both.0) ∙ ap (λ (rest : List ℕ). code ∷ rest) (as_they_are counts codes both.1)

-- so they give on every row what they give where 0D counts: the marked cases 9 to 12 are such codes
pub plain_alone : (counts : Bool) (codes : List ℕ) → has_double codes ≡ false → alone counts codes ≡ along start codes
unfolding alone
plain_alone counts codes none = ap (along start) (as_they_are counts codes none)

-- where 0D counts, every code is read as it is
pub counted_alone : (codes : List ℕ) → alone true codes ≡ along start codes
unfolding alone read_as
counted_alone codes = ap (along start) (all codes) where
  all : (codes : List ℕ) → map (read_as true) codes ≡ codes
  all [] = refl
  all (code ∷ codes) = ap (λ (rest : List ℕ). code ∷ rest) (all codes)

-- ---- a page of spaces is spaces, white on black

abbrev pub blank_cell : Cell
blank_cell =
    record {
      symbol = space;
      foreground = white;
      background = black;
      flash = false;
      conceal = false;
      boxed = false;
      height = Normal;
    }

abbrev pub spaces : List ℕ
spaces = replicate cell_count 0x20

row_of_spaces : (row : ℕ) → row < rows → row_codes spaces row ≡ replicate columns 0x20
unfolding row_codes
row_of_spaces row h =
    ap (take columns) (drop_replicate (columns * row) cell_count 0x20) ∙ take_replicate columns (cell_count - columns * row) 0x20 (omega arith)

none_double : has_double (replicate columns 0x20) ≡ false
unfolding has_double
none_double = refl

blank_row : along start (replicate columns 0x20) ≡ replicate columns blank_cell
unfolding along start
blank_row = refl

module _ (row : ℕ) (h : row < rows) where
  no-double : has_double (row_codes spaces row) ≡ false
  no-double = ap has_double (row_of_spaces row h) ∙ none_double

  spaces-alone : row_alone spaces row ≡ replicate columns blank_cell
  unfolding row_alone
  spaces-alone = plain_alone (may_double row) (row_codes spaces row) no-double ∙ (ap (along start) (row_of_spaces row h) ∙ blank_row)

  not-doubled : doubled spaces row ≡ false
  not-doubled = sym (doubled_is spaces row) ∙ rw (no-double, and-false, and-false)

free_row : (row : ℕ) → row < rows → below_doubled spaces row ≡ false
free_row zero h = refl
free_row (suc above) h = not-doubled above (omega arith)

blank_rows : (count : ℕ) → count ≤ rows → rows_shown spaces count ≡ replicate (columns * count) blank_cell
unfolding rows_shown
blank_rows zero h = refl
blank_rows (suc row) h =
    let shown = shown_alone spaces row (free_row row (omega arith)) ∙ spaces-alone row (omega arith) in
    let more : columns * row + columns ≡ columns * suc row = omega arith in
    ap (λ (cells : List Cell). cells ++ row_shown spaces row) (blank_rows row (omega arith))
    ∙ (ap (λ (cells : List Cell). replicate (columns * row) blank_cell ++ cells) shown
    ∙ (replicate-append-replicate (columns * row) columns blank_cell ∙ ap (λ (n : ℕ). replicate n blank_cell) more))

blank_page : page_cells spaces ≡ replicate cell_count blank_cell
unfolding page_cells
blank_page = blank_rows rows (omega arith)

spaces_fit : is_page spaces ≡ true
unfolding is_page all_codes
spaces_fit = rw (eq-eqb (length spaces) cell_count (length-replicate {A = ℕ} cell_count 0x20)) (passed _ (every-replicate (λ (code : ℕ). leb code 0x7F) cell_count 0x20 tt))

pub page_of_spaces : displayed spaces ≡ record { answer = accepted []; cells = replicate cell_count blank_cell }
page_of_spaces = rw (shown_page spaces spaces_fit, blank_page)
