-- What a line that is sent by the rules gives to a receiver: a packet whose address is whole, the row's characters, every one of them found, and of a row 0 its header.
use mathlib.Core.Path.{◌≡◌}
use mathlib.Core.List.{List, map}
use mathlib.Core.Option.{Option, some}
use Prim.Native.Nat.{ℕ, ◌≤◌}
use lib.Dec.{T}
use lib.ListN.{drop}
use Rattle.std.specs.Prelude.{Ok}
use Rattle.grid.specs.Grid.{last_row}
use Rattle.packet.specs.Addresses.{address_of}
use Rattle.packet.specs.Headers.{header_of}
use Rattle.packet.specs.Lines.{framed, packet_of}
use Rattle.packet.specs.Sent.{sent_by_rules}
use Rattle.packet.specs.Texts.{text_of}
use Rattle.packet.specs.declared.Address.TheVariants.{Whole}
use Rattle.page.specs.declared.Page.{Page}
use Rattle.receiver.specs.Cells.{first_column, row_found}
use Rattle.sending.specs.Sending.{header_line, row_characters, row_line, with_c4}

pub record GivesRow (line : List ℕ) (magazine row : ℕ) (characters : List ℕ) : Type 0 where
  pub rules : T (sent_by_rules line)
  pub framing : framed line ≡ Ok tt
  pub address : address_of (packet_of line) ≡ Ok (Whole magazine row)
  pub found : row_found row (text_of (packet_of line)).bytes ≡ map {B = Option ℕ} some (drop (first_column row) characters)

-- the lines of a page give its rows, and the first its header
pub record Gives (page : Page) : Type 0 where
  pub header : header_of (packet_of (header_line page)) ≡ Ok (with_c4 page.header)
  pub header_row : GivesRow (header_line page) page.magazine 0 (row_characters page.cells.characters 0)
  pub rows : (row : ℕ) → 1 ≤ row → row ≤ last_row → GivesRow (row_line page row) page.magazine row (row_characters page.cells.characters row)
