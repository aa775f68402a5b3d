use Prim.Native.Nat.{◌+◌, ◌-◌, ◌*◌, ◌≤◌}
use mathlib.Core.Path.{◌≡◌}
use Rattle.grid.specs.Grid.{columns}
use Rattle.display.proofs.Walks.{Filled, Numbered, Reached}
use Rattle.display.proofs.fill.Given as goal

-- as many rows are filled as were counted, and the row is the next
abbrev pub invariant-loop : goal.invariant-loop
invariant-loop l = (l.row.end ≡ columns * (l.counter + 1)) × (Numbered l.codes l.row l.counter × Filled l.codes (columns * l.counter) l.cells)

abbrev pub invariant-loop-place : goal.invariant-loop-place
invariant-loop-place l = Filled l.codes l.place l.cells

abbrev pub invariant-cells : goal.invariant-cells
invariant-cells l = (l.row.end - columns ≤ l.place) × ((l.place ≤ l.row.end) × Reached l.codes l.counter l.state l.place l.cells)

abbrev pub decreases-cells : goal.decreases-cells
decreases-cells l = l.row.end - l.place

abbrev pub invariant-printed : goal.invariant-printed
invariant-printed l = (l.initial.place ≤ l.place) × ((l.place ≤ l.row.end) × Reached l.codes l.counter l.state l.place l.cells)

abbrev pub decreases-printed : goal.decreases-printed
decreases-printed l = l.row.end - l.place
