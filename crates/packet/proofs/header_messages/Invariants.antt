use mathlib.Core.Path.{◌≡◌}
use mathlib.Core.Option.{some}
use Prim.Native.Nat.{ℕ, ◌+◌, ◌<◌}
use lib.ListN.{length, get_or}
use Rattle.coding.specs.Bits.{turned_byte}
use Rattle.coding.specs.Hamming.{message}
use Rattle.packet.proofs.header_messages.Given as goal

abbrev pub invariant-loop-at : goal.invariant-loop-at
invariant-loop-at l = (8 ≡ length l.messages) × ((k : ℕ) → k < l.at → message (turned_byte (get_or l.packet (2 + k) 0)) ≡ some (get_or l.messages k 0))
