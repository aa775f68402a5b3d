-- The way down a page: what is known of each row and at each of its cells, and that it is known of the next one.
use mathlib.Core.Path.{◌≡◌, refl, ◌∙◌, sym, ap}
use mathlib.Core.Bool.{Bool, true, false, false≢true}
use mathlib.Core.List.{List, [], ◌∷◌, ◌++◌, map}
use Prim.Native.Nat.{ℕ, zero, suc, ◌+◌, ◌-◌, ◌*◌, ◌/◌, ◌<◌, ◌≤◌}
use native.Mathlib.Numerals.{add-one}
use native.Mathlib.Omega.{arith}
use lib.ListN.{length, get_or, set, take, drop, length-set, length-map}
use lib.Seq.{drop-cons, take_all, take-suc, take-suc-set, get_or-take}
use Rattle.laws.proofs.Lists.{get_d_map, get_d_part}
use Rattle.grid.specs.Grid.{cell_count, columns, rows}
use Rattle.display.specs.Display.{along, cell_at, next, start, zero_cell}
use Rattle.display.specs.Pages.{may_double, page_cells, read_as, row_alone, row_codes, row_shown, under}
use Rattle.display.specs.Private.{doubles, first_row, next_row}
use Rattle.display.specs.declared.Cell.{Cell}
use Rattle.display.specs.declared.doubling.PageRow.{PageRow}
use Rattle.display.specs.declared.state.RowState.{RowState}
use Rattle.display.proofs.Rows.{
  below_doubled,
  doubled_is,
  doubled_free,
  shown_alone,
  shown_under,
  alone_is,
  codes-forty,
  alone-forty,
  shown-forty,
  page-length,
  cell-at,
}
use Rattle.display.proofs.Steps.{along_cons}

-- the codes of a row, as they are read on it
abbrev read_codes : List ℕ → ℕ → List ℕ
read_codes codes number = map (read_as (may_double number)) (row_codes codes number)

-- from this place on, the state gives the row's cells, where the row is one alone
abbrev pub Ahead : List ℕ → ℕ → ℕ → RowState → Type 0
Ahead codes number place state =
    below_doubled codes number ≡ false
    → along state (drop (place - columns * number) (read_codes codes number)) ≡ drop (place - columns * number) (row_shown codes number)

-- the cells before this place are the page's
pub record Filled (codes : List ℕ) (place : ℕ) (cells : List Cell) : Type 0 where
  pub size : length cells ≡ cell_count
  pub done : take place cells ≡ take place (page_cells codes)

-- the row of a number, and what the way down holds of it
pub record Numbered (codes : List ℕ) (row : PageRow) (number : ℕ) : Type 0 where
  pub end : row.end ≡ columns * (number + 1)
  pub counts : row.counts ≡ may_double number
  pub below : row.below ≡ below_doubled codes number

-- a place in a row that is one alone, and what the way down holds at it
pub record Reached (codes : List ℕ) (number : ℕ) (state : RowState) (place : ℕ) (cells : List Cell) : Type 0 where
  pub filled : Filled codes place cells
  pub ahead : Ahead codes number place state

heads : {A : Type 0} {x y : A} {xs ys : List A} → ◌≡◌ {A = List A} (x ∷ xs) (y ∷ ys) → x ≡ y
heads {x = x} e = ap (λ xs. get_or xs 0 x) e

tails : {A : Type 0} {x y : A} {xs ys : List A} → ◌≡◌ {A = List A} (x ∷ xs) (y ∷ ys) → xs ≡ ys
tails e = ap (drop 1) e

-- of what is equal
pub filled_as : {codes : List ℕ} {place : ℕ} {cells cells' : List Cell} → Filled codes place cells → cells' ≡ cells → Filled codes place cells'
filled_as filled e = rw e filled

pub filled_to : {codes : List ℕ} {place place' : ℕ} {cells : List Cell} → Filled codes place cells → place' ≡ place → Filled codes place' cells
filled_to filled e = rw e filled

-- ---- at the start

pub begun : (codes : List ℕ) (cells : List Cell) → length cells ≡ cell_count → Numbered codes first_row 0 × Filled codes 0 cells
unfolding may_double
begun codes cells size = (record { end = refl; counts = refl; below = refl }, record { size = size; done = refl })

-- ---- a row

module _ {codes : List ℕ} {row : PageRow} {number : ℕ} (known : Numbered codes row number) where
  pub first_place : row.end - columns ≡ columns * number
  first_place = let end = known.end in omega arith

  -- whether the next row lies below a doubled one
  below_next : doubles row codes ≡ below_doubled codes (number + 1)
  unfolding row_codes
  below_next = rw (known.counts, known.below, first_place) (doubled_is codes number ∙ ap (below_doubled codes) (sym (add-one number)))

  -- the next row
  pub next_row_here : Numbered codes (next_row row codes) (number + 1)
  next_row_here =
      let end = known.end in
      record {
        end = omega arith;
        counts = ap may_double (let at : row.end / columns ≡ number + 1 = omega arith in at);
        below = below_next;
      }

  -- at the first of the row's cells
  pub row_start : {cells : List Cell} → Filled codes (columns * number) cells → {state : RowState} → state ≡ start
      → Reached codes number state (row.end - columns) cells
  row_start filled from =
      let none : row.end - columns - columns * number ≡ 0 = (let first = first_place in omega arith) in
      record { filled = filled_to filled first_place; ahead = λ free. rw (none, from) (sym (shown_alone codes number free ∙ alone_is codes number)) }

-- ---- a cell

-- row 0 lies below none
below_inside : (codes : List ℕ) (number : ℕ) → below_doubled codes number ≡ true → 0 < number
below_inside codes zero e = absurd (false≢true e)
below_inside codes (suc above) e = omega arith

-- the cell under one of a doubled row
under_at : (codes : List ℕ) → length codes ≡ cell_count → (number column : ℕ) → number < rows → column < columns → below_doubled codes number ≡ true
    → (d : Cell) (place : ℕ) → place ≡ columns * number + column
    → under (get_or (page_cells codes) (place - columns) d) ≡ get_or (row_shown codes number) column zero_cell
under_at codes full zero column h k e d place here = absurd (false≢true e)
under_at codes full (suc above) column h k e d place here =
    let at : place - columns ≡ columns * above + column = omega arith in
    let inside : above < rows = omega arith in
    let forty = alone-forty codes full above inside in
    let alone = shown_alone codes above (doubled_free codes above e) in
    ap (λ (n : ℕ). under (get_or (page_cells codes) n d)) at
    ∙ (ap under (cell-at codes full column k d above inside ∙ ap (λ (cells : List Cell). get_or cells column d) alone)
    ∙ (sym (get_d_map under (row_alone codes above) column zero_cell d (omega arith))
    ∙ ap (λ (cells : List Cell). get_or cells column zero_cell) (sym (shown_under codes above e))))

-- a place in a row, with the cells before it filled
module _ {codes : List ℕ} (full : length codes ≡ cell_count) {row : PageRow} {number : ℕ} (known : Numbered codes row number) (last : number < rows)
    {place : ℕ} (from : row.end - columns ≤ place) (before : place < row.end) {cells : List Cell} (filled : Filled codes place cells) where
  abbrev column : ℕ
  column = place - columns * number

  here : place ≡ columns * number + column
  here = let end = known.end in omega arith

  inside : column < columns
  inside = let end = known.end in omega arith

  one_more : place + 1 - columns * number ≡ suc column
  one_more = let end = known.end in omega arith

  in-codes : column < length (read_codes codes number)
  in-codes =
      let long = length-map (row_codes codes number) (read_as (may_double number)) in
      let forty = codes-forty codes full number last in
      let short = inside in
      omega arith

  in_row : column < length (row_shown codes number)
  in_row =
      let forty = shown-forty codes full number last in
      let short = inside in
      omega arith

  -- the cell that is due here
  abbrev due : Cell
  due = get_or (row_shown codes number) column zero_cell

  -- the code at this place, as it is read on this row
  abbrev code_read : ℕ
  code_read = read_as row.counts (get_or codes place 0)

  code_here : get_or (read_codes codes number) column 0 ≡ code_read
  unfolding row_codes
  code_here =
      let read = read_as (may_double number) in
      let forty = codes-forty codes full number last in
      let short = inside in
      get_d_map read (row_codes codes number) column 0 0 (omega arith)
      ∙ (ap read (get_d_part codes (columns * number) columns column 0 inside ∙ ap (λ (n : ℕ). get_or codes n 0) (sym here))
      ∙ ap (λ (counts : Bool). read_as counts (get_or codes place 0)) (sym known.counts))

  -- the cell of a row that lies below none, and what is then ahead
  module _ (free : row.below ≡ false) (state : RowState) (ahead : Ahead codes number place state) where
    one_on : cell_at state code_read ∷ along (next state code_read) (drop (suc column) (read_codes codes number)) ≡ due ∷ drop (suc column) (row_shown codes number)
    one_on =
        let more = drop-cons (read_codes codes number) column 0 in-codes in
        let behind = drop (suc column) (read_codes codes number) in
        let shown = drop-cons (row_shown codes number) column zero_cell in_row in
        sym (ap (along state) (more ∙ ap (λ (n : ℕ). n ∷ behind) code_here) ∙ along_cons state code_read behind) ∙ (ahead (sym known.below ∙ free) ∙ shown)

    pub cell-alone : cell_at state code_read ≡ due
    cell-alone = heads one_on

    pub ahead-alone : Ahead codes number (place + 1) (next state code_read)
    ahead-alone f = rw one_more (tails one_on)

  -- the cell of a row that lies below one, from the cell above it
  module _ (e : row.below ≡ true) where
    pub above-there : columns ≤ place
    above-there =
        let lower = below_inside codes number (sym known.below ∙ e) in
        let at = here in
        omega arith

    pub cell-under : (d : Cell) → under (get_or cells (place - columns) d) ≡ due
    cell-under d =
        let less : place - columns < place = (let there = above-there in omega arith) in
        let stored = ap (λ (done : List Cell). get_or done (place - columns) d) filled.done in
        ap under (sym (get_or-take place cells (place - columns) d less) ∙ (stored ∙ get_or-take place (page_cells codes) (place - columns) d less))
        ∙ under_at codes full number column last inside (sym known.below ∙ e) d place here

  -- the cell that is due, stored
  pub stored : {cell : Cell} → cell ≡ due → Filled codes (place + 1) (set cells place cell)
  stored {cell = cell} is =
      let size = filled.size in
      let end = known.end in
      let long = page-length codes full in
      let placed = cell-at codes full column inside zero_cell number last in
      let same = ap (λ (n : ℕ). get_or (page_cells codes) n zero_cell) here ∙ placed in
      record {
        size = length-set cells place cell ∙ size;
        done =
            rw (add-one place)
            (take-suc-set cells place cell (omega arith)
            ∙ (ap (λ (done : List Cell). done ++ (cell ∷ [])) filled.done
            ∙ (ap (λ (end : Cell). take place (page_cells codes) ++ (end ∷ [])) (is ∙ sym same) ∙ sym (take-suc (page_cells codes) place zero_cell (omega arith)))));
      }

  -- the next place of a row that lies below none, once the cell that is due is stored
  pub next-column : row.below ≡ false → (state : RowState) → Ahead codes number place state
      → {cell : Cell} {after : RowState} → cell ≡ cell_at state code_read → after ≡ next state code_read
      → Reached codes number after (place + 1) (set cells place cell)
  next-column free state ahead shown then =
      record { filled = stored (shown ∙ cell-alone free state ahead); ahead = λ f. rw then (ahead-alone free state ahead f) }

-- ---- at the end

pub at_end : (codes : List ℕ) → length codes ≡ cell_count → {place : ℕ} {cells : List Cell} → Filled codes place cells → cell_count ≤ place → cells ≡ page_cells codes
at_end codes full {place = place} {cells = cells} filled all =
    let long = page-length codes full in
    let size = filled.size in
    sym (take_all place cells (omega arith)) ∙ (filled.done ∙ take_all place (page_cells codes) (omega arith))
