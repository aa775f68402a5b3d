use mathlib.Core.Path.{◌≡◌}
use Prim.Native.Nat.{ℕ, ◌<◌}
use lib.ListN.{length, get_or}
use Rattle.grid.specs.Grid.{cell_count}
use Rattle.announcing.specs.Told.{sent_now}
use Rattle.announcing.proofs.fresh_characters.Given as goal

abbrev pub invariant-loop-i : goal.invariant-loop-i
invariant-loop-i l =
    (length l.sent ≡ cell_count) × ((k : ℕ) → k < l.i → get_or l.sent k 0 ≡ sent_now (get_or l.cells.characters k 0) (get_or l.cells.marks k 0))
