use mathlib.Core.Path.{◌≡◌}
use Prim.Native.Nat.{◌*◌}
use lib.Seq.{paste}
use Rattle.grid.specs.Grid.{cell_count}
use Rattle.packing.specs.Cells.{cell_bytes, group_bytes}
use Rattle.page.specs.Private.{cells_length}
use Rattle.page.specs.Records.{head_length}
use Rattle.page.proofs.writing.store_cells.Given as goal

abbrev pub invariant-loop-group : goal.invariant-loop-group
invariant-loop-group l =
    l.«record» ≡ paste l.initial.«record» head_length (cell_bytes cell_count cells_length l.marks l.characters) (l.group * group_bytes)
