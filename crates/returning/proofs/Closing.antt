-- The closing line is a line that ends the page, and matches no selection; so what is sent and closed comes back.
use mathlib.Core.Path.{◌≡◌, ◌∙◌, ap, sym}
use mathlib.Core.Bool.{Bool, false, ◌&&◌}
use mathlib.Core.List.{List}
use Prim.Native.Nat.{ℕ, ◌≤◌}
use native.Mathlib.Omega.{arith}
use borrow.Author.Tests.{ne_eqb}
use lib.Dec.{T, eqb, leb, leb→le}
use lib.ListN.{length}
use Rattle.laws.proofs.Bools.{both_left, both_right}
use Rattle.grid.specs.Grid.{columns}
use Rattle.packet.specs.Addresses.{address_of}
use Rattle.packet.specs.Headers.{header_of}
use Rattle.packet.specs.Lines.{packet_length}
use Rattle.packet.specs.Back.{in_bits}
use Rattle.packet.specs.Writing.{header_packet}
use Rattle.packet.specs.declared.Header.{Header}
use Rattle.packet.proofs.ByRules.{header-by-rules}
use Rattle.packet.proofs.Packets.{header-address, header-packet-length, header_read, line-framed, packet-back}
use Rattle.page.specs.Reading.{page_read}
use Rattle.page.specs.declared.Page.{Page}
use Rattle.receiver.specs.Selections.{in_range, matches, time_matches, when_in_range}
use Rattle.receiver.specs.declared.Selection.{Selection}
use Rattle.receiver.proofs.Causes.{as_whole}
use Rattle.sending.specs.Closing.{closing_line, no_digit, of_no_page}
use Rattle.sending.specs.Sending.{row_characters, with_c4}
use Rattle.returning.specs.Returned.{ClosingEnds, Ends, Feeds, SentAndClosed}
use Rattle.returning.proofs.Feeding.{feeding_back}
use Rattle.returning.proofs.Giving.{characters-whole, same-magazine}
use Rattle.returning.proofs.Playing.{played_back}
use Rattle.returning.proofs.Taken.{Taken, taken-page}

-- no selection has the digit F
tens_lawful : (selection : Selection) → T (in_range selection) → selection.tens ≤ 9
unfolding in_range
tens_lawful selection t =
    let a = leb 1 selection.magazine in
    let b = leb selection.magazine 8 in
    let c = leb selection.tens 9 in
    let d = leb selection.units 9 in
    leb→le selection.tens 9
    (both_right (a && b) c (both_left (a && b && c) d (both_left (a && b && c && d) (when_in_range selection.when) t)))

none_matches : (selection : Selection) (header : Header) → T (in_range selection) → matches selection (in_bits (of_no_page header)) ≡ false
unfolding matches in_bits of_no_page
none_matches selection header range =
    ap (λ (same : Bool). same && eqb no_digit selection.units && time_matches selection.when (in_bits (of_no_page header)))
    (ne_eqb no_digit selection.tens (λ e. omega (arith, e, tens_lawful selection range)))

module _ (page : Page) (taken : Taken page) where
  abbrev closing : Header
  closing = of_no_page (with_c4 page.header)

  abbrev text : List ℕ
  text = row_characters page.cells.characters 0

  whole : length text ≡ columns
  whole = characters-whole page taken 0 (omega arith)

  packet-whole : length (header_packet page.magazine closing text) ≡ packet_length
  packet-whole = header-packet-length page.magazine closing text whole

  ends : Ends page
  unfolding closing_line
  ends =
      record {
        rules = header-by-rules page.magazine closing text whole;
        framing = line-framed (header_packet page.magazine closing text) packet-whole;
        address =
            ap address_of (packet-back (header_packet page.magazine closing text) packet-whole)
            ∙ (header-address page.magazine closing text whole ∙ ap (λ (m : ℕ). as_whole m 0) (same-magazine page taken));
        header = in_bits closing;
        numbers =
            ap header_of (packet-back (header_packet page.magazine closing text) packet-whole)
            ∙ header_read page.magazine closing text whole;
        no_page = λ selection range. none_matches selection (with_c4 page.header) range;
      }

pub closing_ends : ClosingEnds
closing_ends bytes taken = ends (page_read bytes) (taken-page bytes taken)

pub sent_and_closed : SentAndClosed
sent_and_closed bytes wanted room selection lent taken choice range ours matched lends enough =
    let ended = closing_ends bytes taken in
    let feeds : Feeds bytes wanted selection (closing_line (page_read bytes)) lent =
    record {
      read = taken;
      choice = choice;
      range = range;
      magazine = ours;
      matched = matched;
      framing = ended.framing;
      address = ended.address ∙ ap (λ (m : ℕ). as_whole m 0) (sym ours);
      lends = lends;
    } in (
      feeds,
      feeding_back bytes wanted selection (closing_line (page_read bytes)) lent feeds,
      played_back bytes wanted room selection (closing_line (page_read bytes)) lent feeds enough,
    )
