-- What ends the page where nothing of its magazine follows: one more row 0, of page FF, which no selection has. All else in it is as in the header that was
-- sent.
use Rattle.std.specs.Prelude.{List, ℕ}
use Rattle.packet.specs.Writing.{data_line, header_packet}
use Rattle.packet.specs.declared.Header.{Header}
use Rattle.page.specs.declared.Page.{Page}
use Rattle.sending.specs.Sending.{row_characters, with_c4}

-- no page has the digit F
abbrev pub no_digit : ℕ
no_digit = 15

unfoldable pub of_no_page : Header → Header
of_no_page header =
    record {
      tens = no_digit;
      units = no_digit;
      hours_tens = header.hours_tens;
      hours_units = header.hours_units;
      minutes_tens = header.minutes_tens;
      minutes_units = header.minutes_units;
      control = header.control;
    }

unfoldable pub closing_line : Page → List ℕ
unfolding data_line header_packet of_no_page with_c4
closing_line page = data_line (header_packet page.magazine (of_no_page (with_c4 page.header)) (row_characters page.cells.characters 0))
