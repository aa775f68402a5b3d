-- The laws of double height, of any page that is shown, by row and column: rows 0, 23 and 24 make no double cell; a row that lies below no doubled one is what its codes
-- alone give; a lower half is its upper half but for the word and stands under it, and each upper half has one; no two rows running both have an upper half.
use mathlib.Core.Path.{◌≡◌, refl, ◌∙◌, sym, ap}
use mathlib.Core.Bool.{Bool, true, false, not, cond, ◌&&◌, ◌||◌, false≢true}
use mathlib.Core.List.{List, [], ◌∷◌, map}
use Prim.Native.Nat.{ℕ, zero, suc, ◌+◌, ◌*◌, ◌<◌, ◌≤◌}
use native.Mathlib.Omega.{arith}
use borrow.Author.Tests.{lt-leb}
use lib.Dec.{eqb, leb}
use lib.ListN.{length, get_or, take, drop}
use lib.Seq.{ext_get_or, take-take}
use Rattle.laws.proofs.Bools.{neither}
use Rattle.laws.proofs.Lists.{get_d_map, get_d_part, length_part}
use Rattle.grid.specs.Grid.{cell_count, columns, last_row, rows}
use Rattle.display.specs.Display.{along, cell_at, height_of, next, own_cell, start, within, zero_cell}
use Rattle.display.specs.Pages.{
  Displayed,
  displayed,
  double_code,
  doubled,
  first_double,
  has_double,
  is_double,
  is_page,
  last_double,
  lower_half,
  may_double,
  page_cells,
  read_as,
  row_alone,
  row_codes,
  row_shown,
  space_under,
  under,
}
use Rattle.display.specs.declared.Cell.{Cell}
use Rattle.display.specs.declared.Height.{Height}
use Rattle.display.specs.declared.Height.TheVariants.{Normal, Upper, Lower}
use Rattle.display.specs.declared.state.RowState.{RowState}
use Rattle.display.proofs.Each.{Each, each_at}
use Rattle.display.proofs.Firsts.{first_alone, plain_alone}
use Rattle.display.proofs.Pages.{page_is, shown_page}
use Rattle.display.proofs.Rows.{below_doubled, doubled_is, shown_alone, shown_under, doubled_free, alone_is, alone-forty, page-length, cell-at}
use Rattle.display.proofs.Steps.{along_none, along_cons}

-- ---- past the last row on which 0D counts no row is doubled

and_false : (b : Bool) → b && false ≡ false
and_false true = refl
and_false false = refl

may_not : (row : ℕ) → last_double < row → may_double row ≡ false
unfolding may_double within
may_not row late = ap (λ (low : Bool). leb first_double row && low) (lt-leb row last_double late) ∙ and_false (leb first_double row)

late_plain : (codes : List ℕ) (row : ℕ) → last_double < row → doubled codes row ≡ false
unfolding doubled
late_plain codes zero late = refl
late_plain codes (suc above) late = ap (λ (may : Bool). may && (not (doubled codes above) && has_double (row_codes codes (suc above)))) (may_not (suc above) late)

-- ---- a row in which no 0D counts has no double cell

abbrev IsNormal : Cell → Type 0
IsNormal cell = cell.height ≡ Normal

-- such a row keeps its state of normal size
still : (ends double : Bool) → double ≡ false → cond ends false double ≡ false
still true double e = refl
still false double e = e

calm_cell : (state : RowState) (code : ℕ) → state.double ≡ false → IsNormal (cell_at state code)
unfolding cell_at
calm_cell state code calm = ap height_of (still (eqb code 0x0C) state.double calm)

calm_next : (state : RowState) (code : ℕ) → eqb code double_code ≡ false → state.double ≡ false → (next state code).double ≡ false
unfolding next
calm_next state code none calm = rw none (still (eqb code 0x0C) state.double calm)

-- a code that does not count, or is none, is not read as 0D
not_read : (counts : Bool) (code : ℕ) (rest : Bool) → counts && (eqb code double_code || rest) ≡ false → eqb (read_as counts code) double_code ≡ false
unfolding read_as
not_read true code rest e = (neither (eqb code double_code) rest e).0
not_read false code rest e = by_code (eqb code double_code) refl where
  by_code : (is : Bool) → eqb code double_code ≡ is → eqb (cond is 0x00 code) double_code ≡ false
  by_code true f = refl
  by_code false f = f

others : (counts : Bool) (code : ℕ) (rest : Bool) → counts && (eqb code double_code || rest) ≡ false → counts && rest ≡ false
others true code rest e = (neither (eqb code double_code) rest e).1
others false code rest e = refl

calm_row : (counts : Bool) (codes : List ℕ) (state : RowState) → counts && has_double codes ≡ false → state.double ≡ false
    → Each IsNormal (along state (map (read_as counts) codes))
unfolding has_double
calm_row counts [] state none calm = rw (along_none state) tt
calm_row counts (code ∷ codes) state none calm =
    let read = read_as counts code in
    let here = not_read counts code (has_double codes) none in
    rw (along_cons state read (map (read_as counts) codes))
    (calm_cell state read calm, calm_row counts codes (next state read) (others counts code (has_double codes) none) (calm_next state read here calm))

start_calm : start.double ≡ false
unfolding start
start_calm = refl

-- ---- heights

abbrev height_number : Height → ℕ
height_number Normal = 0
height_number Upper = 1
height_number Lower = 2

differ : {height other : Height} → height ≡ other → {A : Type 0} → (height_number height ≡ height_number other → ⊥) → A
differ e apart = absurd (apart (ap height_number e))

-- what is shown under a cell is never an upper half, and is a lower half just under a double cell
module _ (cell : Cell) where
  below_by : Bool → Cell
  below_by double = cond double (lower_half cell) (space_under cell)

  upper_by : (double : Bool) → (below_by double).height ≡ Upper → ⊥
  unfolding below_by lower_half space_under
  upper_by true e = differ e (λ n. omega arith)
  upper_by false e = differ e (λ n. omega arith)

  lower_by : (double : Bool) → is_double cell.height ≡ double → (below_by double).height ≡ Lower → is_double cell.height ≡ true
  unfolding below_by lower_half space_under
  lower_by true is e = is
  lower_by false is e = differ e (λ n. omega arith)

  not-upper : (under cell).height ≡ Upper → ⊥
  unfolding under below_by
  not-upper e = upper_by (is_double cell.height) e

  double-above : (under cell).height ≡ Lower → is_double cell.height ≡ true
  unfolding under below_by
  double-above e = lower_by (is_double cell.height) refl e

  lower-is : is_double cell.height ≡ true → under cell ≡ lower_half cell
  unfolding under
  lower-is double = rw double

-- a row alone has no lower half
abbrev NotLower : Cell → Type 0
NotLower cell = cell.height ≡ Lower → ⊥

upper_or_normal : (double : Bool) → height_of double ≡ Lower → ⊥
upper_or_normal true e = differ e (λ n. omega arith)
upper_or_normal false e = differ e (λ n. omega arith)

not_lower_at : (state : RowState) (code : ℕ) → NotLower (cell_at state code)
unfolding cell_at own_cell
not_lower_at state code = upper_or_normal (own_cell state code).double

not_lower : (state : RowState) (codes : List ℕ) → Each NotLower (along state codes)
not_lower state [] = rw (along_none state) tt
not_lower state (code ∷ codes) = rw (along_cons state code codes) (not_lower_at state code, not_lower (next state code) codes)

double_not_lower : (height : Height) → is_double height ≡ true → (height ≡ Lower → ⊥) → height ≡ Upper
unfolding is_double
double_not_lower Normal double other = absurd (false≢true double)
double_not_lower Upper double other = refl
double_not_lower Lower double other = absurd (other refl)

-- ---- the laws

module _ (codes : List ℕ) (page : is_page codes ≡ true) where
  full : length codes ≡ cell_count
  full = (page_is codes page).0

  cells_are : (displayed codes).cells ≡ page_cells codes
  cells_are = ap (λ (d : Displayed). d.cells) (shown_page codes page)

  abbrev pub cell_in : ℕ → ℕ → Cell
  cell_in row column = get_or (displayed codes).cells (columns * row + column) zero_cell

  module _ (row column : ℕ) (h : row < rows) (k : column < columns) where
    cell-shown : cell_in row column ≡ get_or (row_shown codes row) column zero_cell
    cell-shown = ap (λ (cells : List Cell). get_or cells (columns * row + column) zero_cell) cells_are ∙ cell-at codes full column k zero_cell row h

    cell-alone : below_doubled codes row ≡ false → cell_in row column ≡ get_or (row_alone codes row) column zero_cell
    cell-alone free = cell-shown ∙ ap (λ (cells : List Cell). get_or cells column zero_cell) (shown_alone codes row free)

    has-alone : (P : Cell → Type 0) → Each P (along start (map (read_as (may_double row)) (row_codes codes row))) → below_doubled codes row ≡ false
        → P (cell_in row column)
    has-alone P each free =
        let forty = alone-forty codes full row h in
        rw (cell-alone free) (each_at P (row_alone codes row) (rw (alone_is codes row) each) column zero_cell (omega arith))

  -- a row that lies below no doubled one is what its codes alone give
  pub row-alone : (row : ℕ) → row < rows → below_doubled codes row ≡ false
      → take columns (drop (columns * row) (displayed codes).cells) ≡ row_alone codes row
  row-alone row h free =
      let size = ap length cells_are ∙ page-length codes full in
      let part = length_part (displayed codes).cells (columns * row) columns (omega arith) in
      let forty = alone-forty codes full row h in
      ext_get_or zero_cell (take columns (drop (columns * row) (displayed codes).cells)) (row_alone codes row) (part ∙ sym forty)
      (λ k inside.
      let small : k < columns = omega arith in
      get_d_part (displayed codes).cells (columns * row) columns k zero_cell small ∙ cell-alone row k h small free)

  -- the row below a doubled one is made from the cells above it
  pub row_under : (above column : ℕ) → suc above < rows → column < columns → doubled codes above ≡ true
      → cell_in (suc above) column ≡ under (cell_in above column)
  row_under above column h k double =
      let inside : above < rows = omega arith in
      let forty = alone-forty codes full above inside in
      cell-shown (suc above) column h k
      ∙ (ap (λ (cells : List Cell). get_or cells column zero_cell) (shown_under codes above double)
      ∙ (get_d_map under (row_alone codes above) column zero_cell zero_cell (omega arith)
      ∙ ap under (sym (cell-alone above column inside k (doubled_free codes above double)))))

  -- a row on which no 0D counts, or that has none, has normal cells alone
  alone-normal : (row column : ℕ) → row < rows → column < columns → below_doubled codes row ≡ false
      → may_double row && has_double (row_codes codes row) ≡ false → (cell_in row column).height ≡ Normal
  alone-normal row column h k free none =
      has-alone row column h k IsNormal (calm_row (may_double row) (row_codes codes row) start none start_calm) free

  -- rows 0, 23 and 24 make no double cell themselves: where one has any, it is below a doubled row
  pub made-normal : (row column : ℕ) → row < rows → column < columns → may_double row ≡ false → below_doubled codes row ≡ false
      → (cell_in row column).height ≡ Normal
  made-normal row column h k plain free = alone-normal row column h k free (rw plain)

  pub row-0-normal : (column : ℕ) → column < columns → (cell_in 0 column).height ≡ Normal
  unfolding may_double
  row-0-normal column k = made-normal 0 column (omega arith) k refl refl

  not-doubled : (may below has : Bool) → may && (not below && has) ≡ false → below ≡ false → may && has ≡ false
  not-doubled may true has e free = absurd (false≢true (sym free))
  not-doubled may false has e free = e

  -- a row that is not doubled has no upper half
  no-upper : (row column : ℕ) (below : Bool) → below_doubled codes row ≡ below → row < rows → column < columns → doubled codes row ≡ false
      → (cell_in row column).height ≡ Upper → ⊥
  no-upper zero column true e h k plain upper = absurd (false≢true e)
  no-upper (suc above) column true e h k plain upper =
      not-upper (cell_in above column) (ap (λ (cell : Cell). cell.height) (sym (row_under above column h k e)) ∙ upper)
  no-upper row column false e h k plain upper =
      let none = not-doubled (may_double row) (below_doubled codes row) (has_double (row_codes codes row)) (doubled_is codes row ∙ plain) e in
      differ (sym (alone-normal row column h k e none) ∙ upper) (λ n. omega arith)

  -- the rows past the last on which 0D counts
  module _ (row : ℕ) (late : last_double < row) (h : row < rows) where
    pub late-normal : (column : ℕ) → column < columns → below_doubled codes row ≡ false → (cell_in row column).height ≡ Normal
    late-normal column k free = made-normal row column h k (may_not row late) free

    pub late-not-upper : (column : ℕ) → column < columns → (cell_in row column).height ≡ Upper → ⊥
    late-not-upper column k upper = no-upper row column (below_doubled codes row) refl h k (late_plain codes row late) upper

  -- row 23 can be the lower half of row 22; row 24 lies below a row that is never doubled
  pub last-row-normal : (column : ℕ) → column < columns → (cell_in last_row column).height ≡ Normal
  unfolding doubled may_double
  last-row-normal column k = late-normal last_row (omega arith) (omega arith) column k refl

  -- no two rows running both have an upper half
  two-upper : (row column column' : ℕ) → suc row < rows → column < columns → column' < columns → (double : Bool) → doubled codes row ≡ double
      → (cell_in row column).height ≡ Upper → (cell_in (suc row) column').height ≡ Upper → ⊥
  two-upper row column column' h k k' true e upper upper' =
      not-upper (cell_in row column') (ap (λ (cell : Cell). cell.height) (sym (row_under row column' h k' e)) ∙ upper')
  two-upper row column column' h k k' false e upper upper' = no-upper row column (below_doubled codes row) refl (omega arith) k e upper

  pub no-two-upper : (row column column' : ℕ) → suc row < rows → column < columns → column' < columns
      → (cell_in row column).height ≡ Upper → (cell_in (suc row) column').height ≡ Upper → ⊥
  no-two-upper row column column' h k k' = two-upper row column column' h k k' (doubled codes row) refl

  -- a lower half is the upper half above it but for the word
  lower-by-row : (above column : ℕ) → suc above < rows → column < columns → (double : Bool) → doubled codes above ≡ double
      → (cell_in (suc above) column).height ≡ Lower
      → ((cell_in above column).height ≡ Upper) × (cell_in (suc above) column ≡ lower_half (cell_in above column))
  lower-by-row above column h k true e lower =
      let made = row_under above column h k e in
      let double = double-above (cell_in above column) (ap (λ (cell : Cell). cell.height) (sym made) ∙ lower) in
      let read = map (read_as (may_double above)) (row_codes codes above) in
      let other = has-alone above column (omega arith) k NotLower (not_lower start read) (doubled_free codes above e) in
      (double_not_lower (cell_in above column).height double other, made ∙ lower-is (cell_in above column) double)
  lower-by-row above column h k false e lower =
      let read = map (read_as (may_double (suc above))) (row_codes codes (suc above)) in
      absurd (has-alone (suc above) column h k NotLower (not_lower start read) e lower)

  pub lower-half : (above column : ℕ) → suc above < rows → column < columns → (cell_in (suc above) column).height ≡ Lower
      → ((cell_in above column).height ≡ Upper) × (cell_in (suc above) column ≡ lower_half (cell_in above column))
  lower-half above column h k = lower-by-row above column h k (doubled codes above) refl

  -- each upper half has its lower half below it
  upper-by-row : (above column : ℕ) → suc above < rows → column < columns → (double : Bool) → doubled codes above ≡ double
      → (cell_in above column).height ≡ Upper → cell_in (suc above) column ≡ lower_half (cell_in above column)
  unfolding is_double
  upper-by-row above column h k true e upper =
      row_under above column h k e ∙ lower-is (cell_in above column) (ap is_double upper)
  upper-by-row above column h k false e upper = absurd (no-upper above column (below_doubled codes above) refl (omega arith) k e upper)

  pub upper-half : (above column : ℕ) → suc above < rows → column < columns → (cell_in above column).height ≡ Upper
      → cell_in (suc above) column ≡ lower_half (cell_in above column)
  upper-half above column h k = upper-by-row above column h k (doubled codes above) refl

  -- the first cells of a row that lies below none are those of its first codes, where these have no 0D: so the marked cases hold of every such row
  pub first-shown : (n row : ℕ) → n ≤ columns → row < rows → below_doubled codes row ≡ false → has_double (take n (row_codes codes row)) ≡ false
      → take n (drop (columns * row) (displayed codes).cells) ≡ along start (take n (row_codes codes row))
  unfolding row_alone
  first-shown n row few h free none =
      sym (take-take n columns (drop (columns * row) (displayed codes).cells) few)
      ∙ (ap (take n) (row-alone row h free)
      ∙ (first_alone n (may_double row) (row_codes codes row) ∙ plain_alone (may_double row) (take n (row_codes codes row)) none))
