use mathlib.Core.Path.{◌≡◌}
use Prim.Native.Nat.{◌+◌, ◌≤◌}
use lib.ListN.{length}
use Rattle.grid.specs.Grid.{cell_count, last_row}
use Rattle.sending.specs.Sending.{row_line}
use Rattle.sending.proofs.Storing.{Storing}
use Rattle.sending.proofs.store_rows.Given as goal

abbrev pub invariant-loop-at : goal.invariant-loop-at
invariant-loop-at l =
    (l.count ≤ 1 + l.at) × (length l.wanted ≡ last_row) × (length l.page.cells.characters ≡ cell_count)
    × Storing (row_line l.page) l.wanted l.initial.room l.at l.count l.room
