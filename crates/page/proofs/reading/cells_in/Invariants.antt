use mathlib.Core.Path.{◌≡◌}
use mathlib.Core.List.{List}
use Prim.Native.Nat.{ℕ, ◌*◌}
use lib.ListN.{drop}
use Rattle.laws.proofs.Runs.{over}
use Rattle.packing.specs.Cells.{cell_fields, characters_from, group_cells, marks_from}
use Rattle.page.specs.Private.{row_groups}
use Rattle.page.specs.Records.{head_length}
use Rattle.page.proofs.reading.cells_in.Given as goal

-- what the cells of so many groups will be
abbrev pub all_characters : ℕ → List ℕ → List ℕ
all_characters groups «record» = characters_from (cell_fields (groups * group_cells) (drop head_length «record»))

abbrev pub all_marks : ℕ → List ℕ → List ℕ
all_marks groups «record» = marks_from (cell_fields (groups * group_cells) (drop head_length «record»))

abbrev pub invariant-loop-group : goal.invariant-loop-group
invariant-loop-group l =
    (l.characters ≡ over l.initial.characters (all_characters (l.count * row_groups) l.«record») (l.group * group_cells))
    × (l.marks ≡ over l.initial.marks (all_marks (l.count * row_groups) l.«record») (l.group * group_cells))
