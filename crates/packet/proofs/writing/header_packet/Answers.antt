-- `packet::header_packet` meets its contract: a row's packet with the header's bytes laid over it.
use mathlib.Core.Path.{◌≡◌, ap, ◌∙◌}
use mathlib.Core.List.{List, ◌++◌, map}
use Prim.Native.Nat.{ℕ}
use lib.ListN.{drop}
use Rattle.laws.proofs.Keeps.{drop_map}
use Rattle.packet.specs.Texts.{header_column}
use Rattle.packet.specs.Writing.{address_bytes, address_messages, character_byte, header_bytes, header_length, header_packet, row_packet}
use Rattle.packet.proofs.writing.header_packet.Goals as goal

-- what is left of a row's packet behind the header's bytes
text_left : (magazine row : ℕ) (characters : List ℕ) → drop header_length (row_packet magazine row characters) ≡ map character_byte (drop header_column characters)
unfolding row_packet address_bytes address_messages
text_left magazine row characters = drop_map character_byte header_column characters

pub returns : goal.returns
unfolding header_packet
returns c =
    let bytes = c.copy_from_slice.ensures.after ∙ c.header_bytes.ensures in
    (λ i. bytes i ++ drop header_length (c.row_packet-packet.ensures i))
    ∙ ap (λ (text : List ℕ). header_bytes c.args.magazine c.args.header ++ text) (text_left c.args.magazine 0 c.args.characters)
