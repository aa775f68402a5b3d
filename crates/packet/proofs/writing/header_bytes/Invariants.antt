use mathlib.Core.Path.{◌≡◌}
use mathlib.Core.List.{map}
use lib.ListN.{length}
use lib.Seq.{paste}
use Rattle.packet.specs.Texts.{header_column}
use Rattle.packet.specs.Writing.{address_length, header_length, message_byte}
use Rattle.packet.proofs.writing.header_bytes.Given as goal

abbrev pub invariant-loop-at : goal.invariant-loop-at
invariant-loop-at l =
    (length l.messages ≡ header_column) × (length l.initial.bytes ≡ header_length) × (length l.bytes ≡ header_length)
    × (l.bytes ≡ paste l.initial.bytes address_length (map message_byte l.messages) l.at)
