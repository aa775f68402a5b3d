use mathlib.Core.Path.{◌≡◌}
use mathlib.Core.List.{map}
use lib.ListN.{length}
use lib.Seq.{paste}
use Rattle.grid.specs.Grid.{columns}
use Rattle.packet.specs.Lines.{packet_length}
use Rattle.packet.specs.Writing.{address_length, character_byte}
use Rattle.packet.proofs.writing.row_packet.Given as goal

abbrev pub invariant-loop-column : goal.invariant-loop-column
invariant-loop-column l =
    (length l.characters ≡ columns) × (length l.initial.packet ≡ packet_length) × (length l.packet ≡ packet_length)
    × (l.packet ≡ paste l.initial.packet address_length (map character_byte l.characters) l.column)
