-- The lines of a page that the reader takes give its rows and its header, and are sent by the rules.
use mathlib.Core.Path.{◌≡◌, refl, ◌∙◌, ap, sym}
use mathlib.Core.Bool.{Bool}
use mathlib.Core.List.{List, [], ◌∷◌, map, map-map}
use mathlib.Core.Option.{Option, some}
use Prim.Native.Nat.{ℕ, ◌*◌, ◌%◌, ◌^◌, ◌≤◌, ◌<◌}
use native.Mathlib.Nat.{mod-eq_of_lt}
use native.Mathlib.Omega.{arith}
use lib.Dec.{T, ltb→lt}
use lib.ListN.{length, get_or, drop, replicate, get_or-replicate, length-map, length-replicate}
use lib.Seq.{ext_get_or}
use Rattle.std.specs.Prelude.{Ok}
use Rattle.laws.specs.Every.{every}
use Rattle.laws.specs.Fields.{fits}
use Rattle.laws.proofs.Bools.{both_left, both_right}
use Rattle.laws.proofs.Keeps.{every_drop, every-from, every_take}
use Rattle.laws.proofs.Lists.{get_d_map}
use Rattle.laws.proofs.Maps.{map_is}
use Rattle.coding.specs.Characters.{character}
use Rattle.coding.proofs.Characters.{inverts}
use Rattle.grid.specs.Grid.{columns, last_row}
use Rattle.packet.specs.Addresses.{address_of, magazine_of}
use Rattle.packet.specs.Headers.{header_of, header_values}
use Rattle.packet.specs.Lines.{packet_length, packet_of}
use Rattle.packet.specs.Sent.{sent_by_rules, sent_magazine, sent_row}
use Rattle.packet.specs.Texts.{Text, column_bytes, text_of}
use Rattle.packet.specs.Back.{in_bits}
use Rattle.packet.specs.Writing.{data_line, header_packet, row_packet}
use Rattle.packet.specs.declared.Address.TheVariants.{Whole}
use Rattle.packet.specs.declared.Header.{Header}
use Rattle.packet.proofs.Back.{bits-same, magazine_same, sent_for}
use Rattle.packet.proofs.ByRules.{header-by-rules, header-magazine-sent, header-row-sent}
use Rattle.packet.proofs.ByRules.{row-by-rules, row-magazine-sent, row-row-sent}
use Rattle.packet.proofs.Packets.{header-address, header_columns, header-packet-length, header_read, header-text-bytes}
use Rattle.packet.proofs.Packets.{line-framed, packet-back, row-address, row-columns, row-packet-length}
use Rattle.packet.proofs.Whole.{whole_text}
use Rattle.page.specs.Reading.{page_read, read_answer}
use Rattle.page.specs.Records.{character_width}
use Rattle.page.specs.declared.Page.{Page}
use Rattle.receiver.specs.Cells.{first_column, row_found}
use Rattle.receiver.proofs.Rows.{text_first}
use Rattle.receiver.proofs.Causes.{as_whole}
use Rattle.sending.specs.Sending.{chosen_rows, header_line, line_count, lines_of, row_characters, row_line, with_c4}
use Rattle.sending.proofs.Lines.{every-line, lines_count, row_characters_law}
use Rattle.sending.proofs.Rows.{chosen-high, chosen-low, chosen_rising}
use Rattle.returning.specs.Returned.{ByTheRules, ForEachRow, LinesByTheRules}
use Rattle.returning.proofs.Given.{Gives, GivesRow}
use Rattle.returning.proofs.Taken.{Taken, taken-page}

-- ---- characters

-- those that fit their bits are found
characters_found : (codes : List ℕ) → T (every (fits character_width) codes) → map character (map sent_for codes) ≡ map {B = Option ℕ} some codes
unfolding every fits
characters_found [] fit = refl
characters_found (code ∷ codes) fit =
    let small = ltb→lt code (2 ^ character_width) (both_left (fits character_width code) (every (fits character_width) codes) fit) in
    let found = inverts (code % 128) (omega arith) ∙ ap {B = Option ℕ} some (mod-eq_of_lt small) in
    let others = characters_found codes (both_right (fits character_width code) (every (fits character_width) codes) fit) in
    λ i. found i ∷ others i

-- ---- what any line gives

-- a packet whose columns hold characters that fit gives them
module _ (packet : List ℕ) (whole : length packet ≡ packet_length) (magazine row : ℕ) (codes : List ℕ) where
  gives_row : T (sent_by_rules (data_line packet)) → address_of packet ≡ Ok (Whole magazine row) → T (every (fits character_width) codes)
      → drop (first_column row) (column_bytes packet) ≡ map sent_for (drop (first_column row) codes)
      → GivesRow (data_line packet) magazine row codes
  unfolding row_found
  gives_row rules address fit text =
      record {
        rules = rules;
        framing = line-framed packet whole;
        address = ap address_of (packet-back packet whole) ∙ address;
        found =
            ap (λ (p : List ℕ). row_found row (text_of p).bytes) (packet-back packet whole)
            ∙ (ap (λ (t : Text). row_found row t.bytes) (whole_text packet whole)
            ∙ (ap (map character) text ∙ characters_found (drop (first_column row) codes) (every_drop (fits character_width) (first_column row) codes fit)));
      }

-- ---- a page that the reader takes

module _ (page : Page) (taken : Taken page) where
  pub characters-whole : (row : ℕ) → row ≤ last_row → length (row_characters page.cells.characters row) ≡ columns
  characters-whole = row_characters_law page taken.sized

  characters_fit : (row : ℕ) → T (every (fits character_width) (row_characters page.cells.characters row))
  characters_fit row =
      every_take (fits character_width) columns (drop (row * columns) page.cells.characters)
      (every_drop (fits character_width) (row * columns) page.cells.characters taken.characters)

  pub same-magazine : magazine_of page.magazine ≡ page.magazine
  same-magazine = magazine_same page.magazine taken.magazine.0 taken.magazine.1

  -- its header, with C4 set, fits too
  header_fits_law : in_bits (with_c4 page.header) ≡ with_c4 page.header
  unfolding header_values with_c4
  header_fits_law =
      let digits = taken.header in
      let times = digits.1.1 in
      bits-same (with_c4 page.header) digits.0 digits.1.0 times.0 times.1.0 times.1.1.0 times.1.1.1.0 (omega arith)

  -- ---- the header's line

  abbrev header : Header
  header = with_c4 page.header

  abbrev header_codes : List ℕ
  header_codes = row_characters page.cells.characters 0

  header-whole : length header_codes ≡ columns
  header-whole = characters-whole 0 (omega arith)

  header-packet-whole : length (header_packet page.magazine header header_codes) ≡ packet_length
  header-packet-whole = header-packet-length page.magazine header header_codes header-whole

  header-line-by-rules : T (sent_by_rules (header_line page))
  unfolding header_line
  header-line-by-rules = header-by-rules page.magazine header header_codes header-whole

  header-gives-row : GivesRow (header_line page) page.magazine 0 header_codes
  unfolding header_line first_column
  header-gives-row =
      gives_row (header_packet page.magazine header header_codes) header-packet-whole page.magazine 0 header_codes header-line-by-rules
      (header-address page.magazine header header_codes header-whole ∙ ap (λ (m : ℕ). as_whole m 0) same-magazine) (characters_fit 0)
      (header-text-bytes page.magazine header header_codes header-whole ∙ header_columns page.magazine header header_codes header-whole)

  header-given : header_of (packet_of (header_line page)) ≡ Ok header
  unfolding header_line
  header-given =
      ap header_of (packet-back (header_packet page.magazine header header_codes) header-packet-whole)
      ∙ (header_read page.magazine header header_codes header-whole ∙ ap Ok header_fits_law)

  header-line-magazine : sent_magazine (header_line page) ≡ page.magazine
  unfolding header_line
  header-line-magazine = header-magazine-sent page.magazine header header_codes header-whole ∙ same-magazine

  header-line-row : sent_row (header_line page) ≡ 0
  unfolding header_line
  header-line-row = header-row-sent page.magazine header header_codes header-whole

  -- ---- a row's line

  module _ (row : ℕ) (low : 1 ≤ row) (high : row ≤ last_row) where
    abbrev codes : List ℕ
    codes = row_characters page.cells.characters row

    row-whole : length codes ≡ columns
    row-whole = characters-whole row high

    same_row : row % 32 ≡ row
    same_row = mod-eq_of_lt (omega arith)

    -- none of its columns is left out
    row-text : drop (first_column row) (column_bytes (row_packet page.magazine row codes)) ≡ map sent_for (drop (first_column row) codes)
    row-text = rw (text_first row low) (row-columns page.magazine row codes row-whole)

    row-line-by-rules : T (sent_by_rules (row_line page row))
    unfolding row_line
    row-line-by-rules = row-by-rules page.magazine row codes row-whole low (omega arith)

    row-gives-row : GivesRow (row_line page row) page.magazine row codes
    unfolding row_line
    row-gives-row =
        gives_row (row_packet page.magazine row codes) (row-packet-length page.magazine row codes row-whole) page.magazine row codes row-line-by-rules
        (row-address page.magazine row codes row-whole ∙ (λ i. as_whole (same-magazine i) (same_row i))) (characters_fit row) row-text

    row-line-magazine : sent_magazine (row_line page row) ≡ page.magazine
    unfolding row_line
    row-line-magazine = row-magazine-sent page.magazine row codes row-whole ∙ same-magazine

    row-line-row : sent_row (row_line page row) ≡ row
    unfolding row_line
    row-line-row = row-row-sent page.magazine row codes row-whole ∙ same_row

  -- ---- all of them

  pub gives : Gives page
  gives = record { header = header-given; header_row = header-gives-row; rows = row-gives-row }

  module _ (wanted : List Bool) (choice : ForEachRow wanted) where
    lines-each : T (every sent_by_rules (lines_of page wanted))
    lines-each =
        every-from sent_by_rules [] (lines_of page wanted)
        (λ k h.
        every-line page wanted choice (λ line. T (sent_by_rules line)) header-line-by-rules row-line-by-rules k (rw (lines_count page wanted) at h))

    -- all are of the page's magazine
    lines-magazines : map sent_magazine (lines_of page wanted) ≡ replicate (line_count wanted) page.magazine
    lines-magazines =
        let count = length-map (lines_of page wanted) sent_magazine ∙ lines_count page wanted in
        ext_get_or 0 (map sent_magazine (lines_of page wanted)) (replicate (line_count wanted) page.magazine)
        (count ∙ sym (length-replicate (line_count wanted) page.magazine))
        (λ k h.
        let inside : k < line_count wanted = rw count at h in
        get_d_map sent_magazine (lines_of page wanted) k 0 [] (rw (lines_count page wanted) inside)
        ∙ (every-line page wanted choice (λ line. sent_magazine line ≡ page.magazine) header-line-magazine row-line-magazine k inside
        ∙ sym (get_or-replicate (line_count wanted) k page.magazine 0 inside)))

    -- row 0 and then the chosen rows
    chosen-order : map sent_row (map (row_line page) (chosen_rows wanted)) ≡ chosen_rows wanted
    chosen-order =
        map-map sent_row (row_line page) (chosen_rows wanted)
        ∙ sym (map_is (λ row. sent_row (row_line page row)) (chosen_rows wanted) (chosen_rows wanted) 0 0 refl
        (λ k h. sym (row-line-row (get_or (chosen_rows wanted) k 0) (chosen-low wanted k h) (omega (arith, chosen-high wanted k h)))))

    lines-order : map sent_row (lines_of page wanted) ≡ 0 ∷ chosen_rows wanted
    unfolding lines_of
    lines-order = λ i. header-line-row i ∷ chosen-order i

    pub by-the-rules : ByTheRules page wanted
    by-the-rules = record { each = lines-each; magazines = lines-magazines; order = lines-order; rising = chosen_rising wanted }

-- ---- a record that the reader takes

pub gives_read : (bytes : List ℕ) → read_answer bytes ≡ Ok tt → Gives (page_read bytes)
gives_read bytes taken = gives (page_read bytes) (taken-page bytes taken)

pub lines_by_the_rules : LinesByTheRules
lines_by_the_rules bytes wanted taken choice = by-the-rules (page_read bytes) (taken-page bytes taken) wanted choice
