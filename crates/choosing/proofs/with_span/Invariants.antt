use mathlib.Core.Path.{◌≡◌}
use mathlib.Core.Bool.{false, ◌||◌}
use Prim.Native.Nat.{ℕ, suc, ◌<◌}
use lib.ListN.{length, get_or}
use Rattle.grid.specs.Grid.{last_row}
use Rattle.choosing.specs.Chosen.{covers}
use Rattle.choosing.proofs.with_span.Given as goal

abbrev pub invariant-loop-i : goal.invariant-loop-i
invariant-loop-i l =
    (length l.joined ≡ last_row) × ((k : ℕ) → k < l.i → get_or l.joined k false ≡ (get_or l.wanted k false || covers l.span (suc k)))
