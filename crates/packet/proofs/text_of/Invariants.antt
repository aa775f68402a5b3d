use mathlib.Core.Path.{◌≡◌}
use Prim.Native.Nat.{ℕ, ◌+◌, ◌<◌}
use lib.ListN.{length, get_or}
use Rattle.coding.specs.Bits.{turned_byte}
use Rattle.grid.specs.Grid.{columns}
use Rattle.packet.proofs.text_of.Given as goal

abbrev pub invariant-loop-column : goal.invariant-loop-column
invariant-loop-column l = (columns ≡ length l.bytes) × ((k : ℕ) → k < l.column → get_or l.bytes k 0 ≡ turned_byte (get_or l.packet (2 + k) 0))
