use mathlib.Core.Path.{◌≡◌}
use Prim.Native.Nat.{◌-◌, ◌≤◌}
use Rattle.coding.specs.Hamming.{how_many_corrected}
use Rattle.packet.specs.Lines.{packet_bytes}
use Rattle.packet.specs.Writing.{address_length, header_length}
use Rattle.receiver.proofs.mending.mended_control.Given as goal

-- so many control bytes are counted
abbrev pub invariant-loop-at : goal.invariant-loop-at
invariant-loop-at l =
    (address_length ≤ l.at) × (l.at ≤ header_length) × (l.mended ≡ how_many_corrected (packet_bytes l.packet 3 (l.at - address_length)))
