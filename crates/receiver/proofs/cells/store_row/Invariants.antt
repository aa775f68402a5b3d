use mathlib.Core.Path.{◌≡◌}
use Prim.Native.Nat.{◌*◌, ◌≤◌}
use lib.ListN.{length}
use Rattle.grid.specs.Grid.{columns, last_row}
use Rattle.receiver.proofs.Storing.{Storing}
use Rattle.receiver.proofs.cells.store_row.Given as goal

abbrev pub invariant-loop-column : goal.invariant-loop-column
invariant-loop-column l =
    (l.column ≤ columns) × (l.place ≡ l.row * columns) × (l.row ≤ last_row) × (columns ≡ length l.bytes)
    × Storing l.row l.bytes l.initial.cells.characters l.initial.cells.marks l.cells.characters l.cells.marks l.written_so_far l.column
