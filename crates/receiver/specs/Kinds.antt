-- Document 01, "The receiver", the table of kinds, with the row limit of document 02, request 5: what the address shows of a line, and what is to be done with it.
-- "Ours" is the selected magazine.
use Rattle.std.specs.Prelude.{Bool, true, cond, List, ℕ, ◌+◌, ◌/◌, eqb, leb, Result, Ok, Err}
use Rattle.grid.specs.Grid.{last_row}
use Rattle.packet.specs.Addresses.{address_of}
use Rattle.packet.specs.Headers.{header_of}
use Rattle.packet.specs.declared.Address.{Address}
use Rattle.packet.specs.declared.Address.TheVariants as address
use Rattle.packet.specs.declared.WrongLength.{WrongLength}
use Rattle.packet.specs.declared.Header.{Header}
use Rattle.packet.specs.declared.HeaderError.{HeaderError}
use Rattle.packet.specs.declared.HeaderError.TheVariants as header
use Rattle.receiver.specs.Selections.{matches}
use Rattle.receiver.specs.declared.Receiver.{Receiver}
use Rattle.receiver.specs.declared.Selection.{Selection}
use Rattle.receiver.specs.declared.kinds.Effect.{Effect}
use Rattle.receiver.specs.declared.kinds.Effect.TheVariants.{Nothing, Store, Open, Close, Doubt}
use Rattle.receiver.specs.declared.kinds.Seen.{Seen}
use Rattle.receiver.specs.declared.kinds.Seen.TheVariants.{Another, OurRow, OurHeader, Unsure}

-- ---- what the address shows, by our magazine and the address alone

-- the least second message, of row weights 2 to 16, both of whose rows lie past the last one
abbrev pub first_harmless : ℕ
first_harmless = last_row / 2 + 1

-- a row of our magazine
unfoldable pub seen_ours : ℕ → Seen
seen_ours row = cond (eqb row 0) OurHeader (cond (leb row last_row) (OurRow row) Another)

-- both messages good
unfoldable pub seen_whole : ℕ → ℕ → ℕ → Seen
unfolding seen_ours
seen_whole ours magazine row = cond (eqb magazine ours) (seen_ours row) Another

-- a first message good and of another magazine, or a second message of 13 or more, is another's. The line could have been row 0 where no good message
-- shows a row bit set
unfoldable pub seen : ℕ → Result Address WrongLength → Seen
unfolding seen_whole
seen ours (Ok (address.Whole magazine row)) = seen_whole ours magazine row
seen ours (Ok (address.First magazine weight1)) = cond (eqb magazine ours) (Unsure (eqb weight1 0)) Another
seen ours (Ok (address.Second second)) = cond (leb first_harmless second) Another (Unsure (eqb second 0))
seen ours (Ok address.Unread) = Unsure true
seen ours (Err short) = Another

-- ---- the effect

-- our row 0: kind 2 where it matches, 3 where it does not, 5 where one of the eight messages is refused
unfoldable pub header_effect : Selection → Result Header HeaderError → Effect
unfolding matches
header_effect selection (Ok found) = cond (matches selection found) (Open found) (Close 3)
header_effect selection (Err header.Spoiled) = Close 5
header_effect selection (Err header.WrongLength) = Nothing

-- kind 0: another magazine; row 25 to 31, where known; our row 1 to 24 with none open. Kind 1: our row 1 to 24, page open. Kind 4: an address message
-- refused, may be ours
unfoldable pub effect_of : Selection → Bool → Seen → Result Header HeaderError → Effect
unfolding header_effect
effect_of selection is_open Another read = Nothing
effect_of selection is_open (OurRow row) read = cond is_open (Store row) Nothing
effect_of selection is_open OurHeader read = header_effect selection read
effect_of selection is_open (Unsure could_be_header) read = Doubt could_be_header

-- of a packet
unfoldable pub effect_due : Receiver → List ℕ → Effect
unfolding effect_of seen address_of header_of
effect_due receiver packet =
    effect_of receiver.selection receiver.«open» (seen receiver.selection.magazine (address_of packet)) (header_of packet)
