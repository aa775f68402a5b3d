-- Document 02, request 2: feeding the lines and then another header of that magazine to a fresh receiver with a selection the header matches must close
-- clean, with the chosen rows fresh and equal and all others never. And each line is sent by the rules, so that demand 3 speaks of it.
--
-- Each law is a type, and its proof stands in proofs/.
use Rattle.std.specs.Prelude.{◌≡◌, Bool, true, false, List, [], ◌∷◌, ◌++◌, map, ℕ, suc, ◌-◌, ◌≤◌, ◌<◌, T, length, get_or, take, drop, replicate, Ok, None, Some}
use Rattle.laws.specs.Every.{every}
use Rattle.laws.specs.Paper.{accepted}
use Rattle.grid.specs.Grid.{columns, last_row}
use Rattle.packet.specs.Addresses.{address_of}
use Rattle.packet.specs.Headers.{control_bit, header_of, header_values}
use Rattle.packet.specs.Lines.{framed, packet_of}
use Rattle.packet.specs.Sent.{sent_by_rules, sent_magazine, sent_row}
use Rattle.packet.specs.Texts.{header_column}
use Rattle.packet.specs.declared.Address.TheVariants.{Whole}
use Rattle.packet.specs.declared.Header.{Header}
use Rattle.page.specs.Lawful.{fresh, never, space}
use Rattle.page.specs.Reading.{page_read, read_answer}
use Rattle.page.specs.Records.{record_length}
use Rattle.page.specs.declared.Page.{Page}
use Rattle.receiver.specs.Entries.{closing_number, line_values, made}
use Rattle.receiver.specs.Mended.{brought_by}
use Rattle.receiver.specs.Recordings.{Playing, played, stopped_at}
use Rattle.receiver.specs.Selections.{in_range, matches}
use Rattle.receiver.specs.declared.Closing.TheVariants as closing
use Rattle.receiver.specs.declared.Selection.{Selection}
use Rattle.sending.specs.Closing.{closing_line}
use Rattle.sending.specs.Sending.{bytes_needed, chosen_rows, line_count, lines_of, sent_into, with_c4}
use Rattle.demands.specs.Demands.{record_after}
use Rattle.demands.specs.Runs.{Run, closing_of, entry_at, row_part}
use Rattle.demands.specs.Worked.{as_sent}

-- ---- the lines

-- of any record that the reader takes, and any choice: each is sent by the rules, all are of the record's magazine, and their rows are 0 and then the
-- chosen ones, rising
pub record ByTheRules (page : Page) (wanted : List Bool) : Type 0 where
  pub each : T (every sent_by_rules (lines_of page wanted))
  pub magazines : map sent_magazine (lines_of page wanted) ≡ replicate (line_count wanted) page.magazine
  pub order : map sent_row (lines_of page wanted) ≡ 0 ∷ chosen_rows wanted
  pub rising : (k : ℕ) → suc k < length (chosen_rows wanted) → get_or (chosen_rows wanted) k 0 < get_or (chosen_rows wanted) (suc k) 0

-- a yes or no for each row 1 to 24
abbrev pub ForEachRow : List Bool → Type 0
ForEachRow wanted = length wanted ≡ last_row

abbrev pub LinesByTheRules : Type 0
LinesByTheRules = (bytes : List ℕ) (wanted : List Bool) → read_answer bytes ≡ Ok tt → ForEachRow wanted → ByTheRules (page_read bytes) wanted

-- ---- feeding back

-- a new receiver is fed with the lines, and then with a further one
unfoldable pub fed : Selection → List ℕ → List (List ℕ) → List ℕ → Run
unfolding as_sent
fed selection lent lines further =
    record { selection = selection; lent = lent; lines = map as_sent lines ++ (as_sent further ∷ []) }

-- a record that the reader takes; a lawful selection that its header matches, at any time, or its own; a further line whose framing passes and whose
-- address is read as row 0 of the magazine, whatever else it holds; and a lent record that is long enough
pub record Feeds (bytes : List ℕ) (wanted : List Bool) (selection : Selection) (further lent : List ℕ) : Type 0 where
  pub read : read_answer bytes ≡ Ok tt
  pub choice : ForEachRow wanted
  pub range : T (in_range selection)
  pub magazine : selection.magazine ≡ (page_read bytes).magazine
  pub matched : T (matches selection (page_read bytes).header)
  pub framing : framed further ≡ Ok tt
  pub address : address_of (packet_of further) ≡ Ok (Whole selection.magazine 0)
  pub lends : record_length ≤ length lent

-- a row that was chosen is equal and fresh, any other is space and never
abbrev pub RowReturned : Page → Page → ℕ → Bool → Type 0
RowReturned given page row true =
    (row_part row page.cells.characters ≡ row_part row given.cells.characters) × (row_part row page.cells.marks ≡ replicate columns fresh)
RowReturned given page row false =
    (row_part row page.cells.characters ≡ replicate columns space) × (row_part row page.cells.marks ≡ replicate columns never)

-- page tens and units and the four parts of the time
unfoldable pub number_and_time : Header → List ℕ
unfolding header_values
number_and_time header = take 6 (header_values header)

-- C5 to C14
unfoldable pub c5_to_c14 : Header → List ℕ
unfolding control_bit
c5_to_c14 header = map (control_bit header) (5 ∷ 6 ∷ 7 ∷ 8 ∷ 9 ∷ 10 ∷ 11 ∷ 12 ∷ 13 ∷ 14 ∷ [])

-- the page that comes back has the number, time and C5 to C14 of the given one, C4 set, and is clean
pub record Returned (given : Page) (wanted : List Bool) (page : Page) : Type 0 where
  pub magazine : page.magazine ≡ given.magazine
  pub same_number_and_time : number_and_time page.header ≡ number_and_time given.header
  pub c4 : control_bit page.header 4 ≡ 1
  pub later_control : c5_to_c14 page.header ≡ c5_to_c14 given.header
  pub header : page.header ≡ with_c4 given.header
  pub clean : page.clean ≡ true
  pub header_text : drop header_column (row_part 0 page.cells.characters) ≡ drop header_column (row_part 0 given.cells.characters)
  pub header_fresh : drop header_column (row_part 0 page.cells.marks) ≡ replicate (columns - header_column) fresh
  pub header_never : take header_column (row_part 0 page.cells.marks) ≡ replicate header_column never
  pub rows : (row : ℕ) → 1 ≤ row → row ≤ last_row → RowReturned given page row (get_or wanted (row - 1) false)

-- the header's line is kind 2 with count 32, each row's kind 1 with count 40, no byte of them is mended, and the further line closes clean
pub record ComesBack (given : Page) (wanted : List Bool) (run : Run) : Type 0 where
  pub opens : (entry_at run 0).answer ≡ accepted (line_values 2 (columns - header_column) None 0)
  pub stores : (k : ℕ) → 1 ≤ k → k < line_count wanted → (entry_at run k).answer ≡ accepted (line_values 1 columns None 0)
  pub closes : closing_of (entry_at run (line_count wanted)) ≡ closing_number (Some closing.Clean)
  pub reads : read_answer (record_after run (line_count wanted)) ≡ Ok tt
  pub holds : Returned given wanted (page_read (record_after run (line_count wanted)))

-- the lines of a record, and a further one
abbrev pub fed_back : List ℕ → List Bool → Selection → List ℕ → List ℕ → Run
fed_back bytes wanted selection further lent = fed selection lent (lines_of (page_read bytes) wanted) further

abbrev pub FeedingBack : Type 0
FeedingBack =
    (bytes : List ℕ) (wanted : List Bool) (selection : Selection) (further lent : List ℕ)
    → Feeds bytes wanted selection further lent → ComesBack (page_read bytes) wanted (fed_back bytes wanted selection further lent)

-- ---- as a recording

-- what the writer leaves in any room that is long enough, cut behind the lines, and the further line
abbrev pub recording_of : List ℕ → List Bool → List ℕ → List ℕ → List ℕ
recording_of bytes wanted room further = take (bytes_needed wanted) (sent_into bytes wanted room) ++ further

-- playing stops at the line behind the given ones, with what it gives; of the bytes mended there are none but that line's
abbrev pub stops_behind : Run → ℕ → Playing
stops_behind run count = stopped_at (entry_at run count) (suc count) (brought_by (entry_at run count).answer)

-- played to a new receiver it stops at the further line, with what that line gives in the run above
abbrev pub PlayedBack : Type 0
PlayedBack =
    (bytes : List ℕ) (wanted : List Bool) (room : List ℕ) (selection : Selection) (further lent : List ℕ)
    → Feeds bytes wanted selection further lent → bytes_needed wanted ≤ length room
    → played (made selection) (recording_of bytes wanted room further) lent ≡ stops_behind (fed_back bytes wanted selection further lent) (line_count wanted)

-- ---- the closing line

-- the line that ends a page is a further one, sent by the rules, and its header matches no selection
pub record Ends (page : Page) : Type 0 where
  pub rules : T (sent_by_rules (closing_line page))
  pub framing : framed (closing_line page) ≡ Ok tt
  pub address : address_of (packet_of (closing_line page)) ≡ Ok (Whole page.magazine 0)
  pub header : Header
  pub numbers : header_of (packet_of (closing_line page)) ≡ Ok header
  pub no_page : (selection : Selection) → T (in_range selection) → matches selection header ≡ false

abbrev pub ClosingEnds : Type 0
ClosingEnds = (bytes : List ℕ) → read_answer bytes ≡ Ok tt → Ends (page_read bytes)

-- so what is sent, and the closing line, played to a new receiver, comes back: the same of that further line
abbrev pub SentAndClosed : Type 0
SentAndClosed =
    (bytes : List ℕ) (wanted : List Bool) (room : List ℕ) (selection : Selection) (lent : List ℕ)
    → read_answer bytes ≡ Ok tt → ForEachRow wanted → T (in_range selection) → selection.magazine ≡ (page_read bytes).magazine
    → T (matches selection (page_read bytes).header) → record_length ≤ length lent → bytes_needed wanted ≤ length room
    → Feeds bytes wanted selection (closing_line (page_read bytes)) lent
    × ComesBack (page_read bytes) wanted (fed_back bytes wanted selection (closing_line (page_read bytes)) lent)
    × (played (made selection) (recording_of bytes wanted room (closing_line (page_read bytes))) lent
    ≡ stops_behind (fed_back bytes wanted selection (closing_line (page_read bytes)) lent) (line_count wanted))
