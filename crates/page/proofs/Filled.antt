-- Cells filled up to the grid's: they are as many, they are lawful where they were, and nothing is changed where nothing is missing.
use mathlib.Core.Path.{◌≡◌, ◌∙◌, ap, sym}
use mathlib.Core.Bool.{Bool, true, cond, ◌&&◌}
use mathlib.Core.List.{List, [], ◌∷◌, ◌++◌, append-nil}
use Prim.Native.Nat.{ℕ, ◌+◌, ◌*◌, ◌-◌, ◌≤◌}
use native.Mathlib.Omega.{arith}
use lib.Dec.{T}
use lib.ListN.{length, length-append, length-replicate, replicate}
use lib.Seq.{take-append-le}
use Rattle.std.specs.Prelude.{Ok, Err}
use Rattle.laws.specs.Every.{every, every_pair}
use Rattle.laws.specs.Fields.{fits}
use Rattle.laws.proofs.Bools.{both_true, passed}
use Rattle.laws.proofs.Keeps.{every_append, every-pair-replicate, every-replicate, passes}
use Rattle.grid.specs.Grid.{cell_count, columns, rows}
use Rattle.packet.specs.Texts.{header_column}
use Rattle.packing.specs.Cells.{character_width, mark_width}
use Rattle.page.specs.Lawful.{cell_lawful, cells_fit, cells_lawful, is_never, never, page_fits, space}
use Rattle.page.specs.Reading.{filled, filled_page}
use Rattle.page.specs.Records.{cells_of, page_of}
use Rattle.page.specs.Writing.{page_answer}
use Rattle.page.specs.declared.Cells.{Cells}
use Rattle.page.specs.declared.Page.{Page}
use Rattle.page.specs.declared.WriteError.TheVariants.{TooLarge, BadDigit, UnlawfulCells}
use Rattle.page.proofs.AnyRows.{CellsFor, WholeFor, parts, shown}

-- pairs that pass, put behind two lists of one length, change no answer
pairs_behind : (test : ℕ → ℕ → Bool) (k a b : ℕ) → T (test a b) → (xs ys : List ℕ) → length xs ≡ length ys
    → every_pair test (xs ++ replicate k a) (ys ++ replicate k b) ≡ every_pair test xs ys
unfolding every_pair
pairs_behind test k a b t [] [] e = passed (every_pair test (replicate k a) (replicate k b)) (every-pair-replicate test k a b t)
pairs_behind test k a b t [] (y ∷ ys) e = absurd (omega arith)
pairs_behind test k a b t (x ∷ xs) [] e = absurd (omega arith)
pairs_behind test k a b t (x ∷ xs) (y ∷ ys) e = ap (λ (rest : Bool). test x y && rest) (pairs_behind test k a b t xs ys (omega arith))

-- nor do single ones
fit_behind : (width k a : ℕ) → T (fits width a) → (xs : List ℕ) → every (fits width) xs ≡ true → every (fits width) (xs ++ replicate k a) ≡ true
fit_behind width k a t xs e =
    passed (every (fits width) (xs ++ replicate k a))
    (every_append (fits width) xs (replicate k a) (passes (every (fits width) xs) e) (every-replicate (fits width) k a t))

-- ---- cells of so many rows

module _ (n : ℕ) (few : n ≤ rows) where
  -- as many as the grid's
  length-filled : (a : ℕ) (xs : List ℕ) → length xs ≡ n * columns → length (xs ++ replicate (cell_count - n * columns) a) ≡ cell_count
  length-filled a xs e =
      length-append xs (replicate (cell_count - n * columns) a) ∙ (ap (λ (k : ℕ). length xs + k) (length-replicate (cell_count - n * columns) a) ∙ omega arith)

  module _ (cells : Cells) (whole : CellsFor n cells) where
    abbrev rest : ℕ
    rest = cell_count - length cells.characters

    pub filled-whole : CellsFor rows (filled cells)
    unfolding filled
    filled-whole = (
      ap (λ (k : ℕ). length (cells.characters ++ replicate (cell_count - k) space)) whole.0 ∙ length-filled space cells.characters whole.0,
      ap (λ (k : ℕ). length (cells.marks ++ replicate (cell_count - k) never)) whole.0 ∙ length-filled never cells.marks whole.1,
    )

    pub filled-fits : cells_fit cells ≡ true → cells_fit (filled cells) ≡ true
    unfolding filled cells_fit fits
    filled-fits e =
        let both = both_true (every (fits mark_width) cells.marks) (every (fits character_width) cells.characters) e in
        let marks = fit_behind mark_width rest never tt cells.marks both.0 in
        let characters = fit_behind character_width rest space tt cells.characters both.1 in
        λ i. marks i && characters i

    -- row 0 is as it was
    pub filled-lawful : 1 ≤ n → cells_lawful (filled cells) ≡ cells_lawful cells
    unfolding filled cells_lawful cell_lawful
    filled-lawful some =
        let pairs = pairs_behind cell_lawful rest never space tt cells.marks cells.characters (whole.1 ∙ sym whole.0) in
        let first = take-append-le header_column cells.marks (replicate rest never) (omega (arith, whole.1)) in
        λ i. pairs i && every is_never (first i)

  -- the writer takes a page that is filled up where it took the page
  pub filled-written : 1 ≤ n → (page : Page) → WholeFor n page → page_answer page ≡ Ok tt → page_answer (filled_page page) ≡ Ok tt
  unfolding page_answer filled_page page_fits
  filled-written some page whole taken =
      let fit = parts n page whole taken in
      let magazine = fit.0 in
      let header = fit.1 in
      let inside = filled-fits page.cells whole fit.2 in
      let digits = (shown page taken).1 in
      let lawful = filled-lawful page.cells whole some ∙ (shown page taken).2 in
      λ i. cond (magazine i && (header i && inside i)) (cond (digits i) (cond (lawful i) (Ok tt) (Err UnlawfulCells)) (Err BadDigit)) (Err TooLarge)

-- ---- of a page that has all the grid's, nothing is changed

nothing_behind : (a : ℕ) (xs : List ℕ) (k : ℕ) → k ≡ cell_count → xs ++ replicate (cell_count - k) a ≡ xs
nothing_behind a xs k e = ap (λ (j : ℕ). xs ++ replicate j a) (let none : cell_count - k ≡ 0 = omega arith in none) ∙ append-nil xs

pub filled_same : (page : Page) → WholeFor rows page → filled_page page ≡ page
unfolding filled_page filled
filled_same page whole =
    let characters = nothing_behind space page.cells.characters (length page.cells.characters) whole.0 in
    let marks = nothing_behind never page.cells.marks (length page.cells.characters) whole.0 in
    λ i. page_of page.magazine page.header page.clean (cells_of (characters i) (marks i))
