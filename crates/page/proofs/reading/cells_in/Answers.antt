use mathlib.Core.Path.{◌≡◌, refl, ◌∙◌, ap}
use mathlib.Core.List.{List}
use Prim.Native.Nat.{ℕ, ◌*◌}
use native.Mathlib.Omega.{arith}
use borrow.Author.Rules.{rules}
use lib.ListN.{length, replicate, take, drop}
use Rattle.std.proofs.lemmas.Slice.{put_mid-paste}
use Rattle.laws.proofs.Runs.{over}
use Rattle.grid.specs.Grid.{cell_count}
use Rattle.packing.specs.Cells.{group_cells}
use Rattle.packing.specs.declared.EightCells.{EightCells}
use Rattle.page.specs.Lawful.{never, space}
use Rattle.page.specs.Private.{row_groups}
use Rattle.page.specs.Records.{head_length}
use Rattle.page.proofs.Loading.{characters_read, eight_laid, laid_filled, length-all-characters, length-all-marks, marks_read}
use Rattle.page.proofs.reading.cells_in.Goals as goal
use Rattle.page.proofs.reading.cells_in.Goals.{After-unpacked-eight}
use Rattle.page.proofs.reading.cells_in.Invariants.{all_characters, all_marks}

-- the eight cells that were read
module _ (c : After-unpacked-eight) where
  abbrev bytes : List ℕ
  bytes = c.args.«record».now

  abbrev groups : ℕ
  groups = c.args.count * row_groups

  abbrev here : ℕ
  here = c.loop-group.group

  abbrev eight : EightCells
  eight = c.unpacked-eight.result

  eight-characters : length eight.characters ≡ group_cells
  eight-characters = search rules

  eight-marks : length eight.marks ≡ group_cells
  eight-marks = search rules

  read-characters : eight.characters ≡ take group_cells (drop (here * group_cells) (all_characters groups bytes))
  read-characters =
      characters_read groups head_length bytes (search rules) here (search rules) c.eight_at.result _ eight c.eight_at.ensures refl
      c.unpacked-eight.ensures

  read-marks : eight.marks ≡ take group_cells (drop (here * group_cells) (all_marks groups bytes))
  read-marks =
      marks_read groups head_length bytes (search rules) here (search rules) c.eight_at.result _ eight c.eight_at.ensures refl
      c.unpacked-eight.ensures

pub loop-group-preserved : goal.loop-group-preserved
loop-group-preserved c =
    let read = (goal.at.loop-group-preserved c).After-unpacked-eight in
    let loop = c.loop-group in
    let characters-long = length-all-characters (groups read) head_length (bytes read) (search rules) in
    let marks-long = length-all-marks (groups read) head_length (bytes read) (search rules) in (
      eight_laid _ (all_characters (groups read) (bytes read)) (here read) (omega arith) loop.characters _ (eight read).characters (eight-characters read) (read-characters read) loop.invariant.0
          (put_mid-paste _ _ _ _ _ group_cells c.copy_from_slice.ensures.after (omega arith) (omega (arith, eight-characters read))),
      eight_laid _ (all_marks (groups read) (bytes read)) (here read) (omega arith) loop.marks _ (eight read).marks (eight-marks read) (read-marks read) loop.invariant.1
          (put_mid-paste _ _ _ _ _ group_cells c.copy_from_slice-in-loop-group.ensures.after (omega arith) (omega (arith, eight-marks read))),
    )

pub returns : goal.returns
returns c =
    let «record» = c.args.«record».now in
    let groups = c.args.count * row_groups in
    let loop = c.loop-group in
    let end : loop.group ≡ groups = omega arith in
    laid_filled c.args.count groups refl «record» loop.characters loop.marks
    (loop.invariant.0 ∙ ap (λ (k : ℕ). over (replicate cell_count space) (all_characters groups «record») (k * group_cells)) end)
    (loop.invariant.1 ∙ ap (λ (k : ℕ). over (replicate cell_count never) (all_marks groups «record») (k * group_cells)) end)
