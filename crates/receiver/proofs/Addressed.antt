-- What a line does, by its address: for those who know what was sent.
use mathlib.Core.Path.{◌≡◌, ap, ◌∙◌}
use mathlib.Core.Bool.{true}
use mathlib.Core.List.{List}
use Prim.Native.Nat.{ℕ, ◌<◌}
use lib.ListN.{length}
use Rattle.std.specs.Prelude.{Ok}
use Rattle.grid.specs.Grid.{last_row}
use Rattle.packet.specs.Addresses.{address_of}
use Rattle.packet.specs.Headers.{header_of}
use Rattle.packet.specs.Lines.{packet_length}
use Rattle.packet.specs.declared.Address.TheVariants.{Whole}
use Rattle.packet.specs.declared.Header.{Header}
use Rattle.receiver.specs.Effects.{closing_word, taken, unclosed}
use Rattle.receiver.specs.Kinds.{seen}
use Rattle.receiver.specs.Selections.{matches}
use Rattle.receiver.specs.declared.Receiver.{Receiver}
use Rattle.receiver.specs.declared.kinds.Seen.TheVariants.{OurHeader}
use Rattle.receiver.proofs.Causes.{OurText, OursZero, sees-header, sees-late, sees-other, sees-text}
use Rattle.receiver.proofs.Closings.{header-closes}
use Rattle.receiver.proofs.Outcomes.{Opens, Stores, seen_by, taken-another, taken-opens, taken-text}

module _ (receiver : Receiver) (packet lent : List ℕ) where
  abbrev ours : ℕ
  ours = receiver.selection.magazine

  module _ (magazine row : ℕ) (address : address_of packet ≡ Ok (Whole magazine row)) where
    -- another magazine
    pub other-goes-by : (magazine ≡ ours → ⊥) → taken receiver packet lent ≡ unclosed receiver 0 lent
    other-goes-by differs = taken-another receiver packet lent (ap (seen ours) address ∙ sees-other ours magazine row differs)

    -- past the last row
    pub late-goes-by : last_row < row → taken receiver packet lent ≡ unclosed receiver 0 lent
    late-goes-by late = taken-another receiver packet lent (ap (seen ours) address ∙ sees-late ours magazine row late)

  -- our row 1 to the last, with a page open
  abbrev pub stores-text : (row : ℕ) → OurText ours (address_of packet) row → receiver.«open» ≡ true → Stores receiver packet lent (taken receiver packet lent)
  stores-text row text is_open =
      record {
        row = row;
        ours = text;
        was_open = is_open;
        gives = taken-text receiver packet lent (ap (seen ours) text.from ∙ sees-text ours row text.first text.last) is_open;
      }

  -- our row 0
  module _ (zeroth : OursZero receiver packet) where
    header-seen : seen_by receiver packet lent ≡ OurHeader
    header-seen = ap (seen ours) zeroth ∙ sees-header ours

    pub opens-page : (found : Header) → header_of packet ≡ Ok found → matches receiver.selection found ≡ true
        → Opens receiver packet lent (taken receiver packet lent)
    opens-page found read matched =
        record {
          found = found;
          ours = zeroth;
          read = read;
          matched = matched;
          gives = taken-opens receiver packet lent found header-seen read matched;
        }

    pub zeroth-closes : length packet ≡ packet_length → (taken receiver packet lent).closing ≡ closing_word receiver
    zeroth-closes whole = (header-closes receiver packet lent header-seen whole).0
