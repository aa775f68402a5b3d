use mathlib.Core.Path.{◌≡◌, ◌∙◌, ap, sym}
use mathlib.Core.Bool.{true, false}
use Prim.Native.Nat.{◌*◌}
use lib.ListN.{drop}
use Rattle.std.specs.Prelude.{Ok, is_ok}
use Rattle.std.proofs.Common.{rules}
use Rattle.std.proofs.lemmas.Result.{err_from_is_err_and}
use Rattle.grid.specs.Grid.{columns}
use Rattle.packing.specs.Cells.{cell_fields}
use Rattle.page.specs.Lawful.{cells_checked, cells_fit, cells_lawful}
use Rattle.page.specs.Reading.{filled}
use Rattle.page.specs.Records.{cells_from, head_length}
use Rattle.page.specs.declared.Cells.{Cells}
use Rattle.page.specs.declared.ReadError.TheVariants.{UnlawfulCells}
use Rattle.page.proofs.AnyRows.{whole_cells}
use Rattle.page.proofs.Checks.{lawful_is_ok}
use Rattle.page.proofs.Filled.{filled-fits}
use Rattle.page.proofs.Papers.{check_is}
use Rattle.page.proofs.Forms.{cells_fit_here, headed, length_back}
use Rattle.page.proofs.reading.with_cells.Goals as goal
use Rattle.page.proofs.reading.with_cells.Goals.{After-check_cells}

-- the cells as they are read
module _ (c : After-check_cells) where
  cells-read : Cells
  cells-read = filled (cells_from (cell_fields (c.args.count * columns) (drop head_length c.args.«record».now)))

  cells_are : c.cells_in-cells.result ≡ cells-read
  unfolding cells-read
  cells_are = c.cells_in-cells.ensures

  fit : cells_fit cells-read ≡ true
  unfolding cells-read
  fit =
      let n = c.args.count in
      let bytes = c.args.«record».now in
      filled-fits n c.requires.1 (cells_from (cell_fields (n * columns) (drop head_length bytes))) (whole_cells n (drop head_length bytes))
      (cells_fit_here n (drop head_length bytes) (length_back n bytes c.requires.0))

  -- they are lawful just where the check has nothing against them
  lawful : is_ok c.check_cells.result ≡ cells_lawful cells-read
  lawful = ap is_ok (check_is _ _ c.check_cells.ensures ∙ ap cells_checked cells_are) ∙ lawful_is_ok cells-read fit

pub returns-in_err-map_err : goal.returns-in_err-map_err
unfolding cells-read
returns-in_err-map_err c =
    let k = (goal.at.returns-in_err-map_err c).After-check_cells in
    let p = err_from_is_err_and c.from_residual.result c.from_residual.ensures.1 in
    let other : cells_lawful (cells-read k) ≡ false = sym (lawful k) ∙ (sym c.map_err.ensures.variant ∙ ap is_ok c.in_err-map_err.was) in
    let is : c.in_err-map_err.field-0.0 ≡ UnlawfulCells = search rules in
    rw (p.1, p.2, is, other)

pub returns : goal.returns
unfolding cells-read
returns c =
    let k = (goal.at.returns c).After-check_cells in
    let is : cells_lawful (cells-read k) ≡ true = sym (lawful k) ∙ (sym c.map_err.ensures.variant ∙ ap is_ok c.in_ok-map_err.was) in
    (λ i. Ok (headed c.args.head (cells_are k i))) ∙ (rw is)
