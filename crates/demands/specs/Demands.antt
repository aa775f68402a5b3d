-- Demand 3: clean means as sent. Within the stated damage, a page closed as clean holds what was sent between its header and its closing and nothing
-- else (A); equal clean records mean equal sendings (B); and with little damage the page does close clean (C).
--
-- Each of the three is a type, and its proof stands in proofs/. The runs are in Runs.antt; Chains.antt and Recorded.antt tie them to the entries.
use Rattle.std.specs.Prelude.{◌≡◌, true, not, List, ℕ, ◌-◌, ◌≤◌, ◌<◌, T, length, take, drop, replicate, Ok, Some}
use Rattle.std.proofs.Math.Option.{Option, none, some}
use Rattle.laws.specs.Every.{every}
use Rattle.grid.specs.Grid.{columns, last_row}
use Rattle.packet.specs.Sent.{sent_magazine, sent_row, sent_header, sent_text}
use Rattle.packet.specs.Texts.{header_column}
use Rattle.page.specs.Lawful.{fresh, is_fresh, never}
use Rattle.page.specs.Reading.{page_read, read_answer}
use Rattle.page.specs.Records.{record_length}
use Rattle.page.specs.declared.Cells.{Cells}
use Rattle.page.specs.declared.Page.{Page}
use Rattle.receiver.specs.Entries.{closing_number}
use Rattle.receiver.specs.Selections.{in_range, matches}
use Rattle.receiver.specs.declared.Closing.TheVariants.{Clean}
use Rattle.demands.specs.Runs.{Line, Run, character_bytes, closing_of, count_of, ends_page, entry_at, is_row, kind_of, last_text, line_within, line_at, row_part, sent_at, within}

-- ---- the runs

-- at most so many wrong bits in each Hamming byte, throughout
abbrev pub throughout : ℕ
throughout = 2

-- and from a header to the next, where a page is to close clean
abbrev pub lightly : ℕ
lightly = 1

-- a lawful selection, and a lent record that is long enough
pub record Ready (run : Run) : Type 0 where
  pub range : T (in_range run.selection)
  pub room : record_length ≤ length run.lent

-- and any lines within the damage
pub record Fed (run : Run) : Type 0 where
  pub ready : Ready run
  pub damaged : T (within throughout run.lines)

-- the answer at line j closes clean
pub record ClosesClean (run : Run) (j : ℕ) : Type 0 where
  pub line : j < length run.lines
  pub word : closing_of (entry_at run j) ≡ closing_number (Some Clean)

-- line i is a row 0 of the selected magazine, and line j is the first one sent after it that ends its page
pub record Follows (run : Run) (i j : ℕ) : Type 0 where
  pub header : T (is_row run.selection.magazine 0 (sent_at run.lines i))
  pub next : T (ends_page run.selection.magazine (sent_at run.lines j))
  pub before : i < j
  pub none_between : (k : ℕ) → i < k → k < j → ¬ T (ends_page run.selection.magazine (sent_at run.lines k))

-- ---- A

-- a row: where the magazine sent it, its cells are the last text, all fresh; where not, no cell of it is fresh
abbrev pub RowHolds : Cells → ℕ → Option (List ℕ) → Type 0
RowHolds cells row (some text) = (row_part row cells.characters ≡ text) × (row_part row cells.marks ≡ replicate columns fresh)
RowHolds cells row none = T (every (λ (mark : ℕ). not (is_fresh mark)) (row_part row cells.marks))

-- the page is what was sent from line i on and before line j
pub record Holds (run : Run) (i j : ℕ) (page : Page) : Type 0 where
  pub magazine : page.magazine ≡ sent_magazine (sent_at run.lines i)
  pub header : page.header ≡ sent_header (sent_at run.lines i)
  pub clean : page.clean ≡ true
  pub header_text : drop header_column (row_part 0 page.cells.characters) ≡ drop header_column (sent_text (sent_at run.lines i))
  pub header_fresh : drop header_column (row_part 0 page.cells.marks) ≡ drop header_column (replicate columns fresh)
  pub header_never : take header_column (row_part 0 page.cells.marks) ≡ replicate header_column never
  pub rows : (row : ℕ) → 1 ≤ row → row ≤ last_row → RowHolds page.cells row (last_text run.selection.magazine row run.lines i j)

-- the bytes of a record at the start of what is lent, as they stand after line j
abbrev pub record_after : Run → ℕ → List ℕ
record_after run j = take record_length (entry_at run j).lent

-- line i opened the page that line j closed, and the record reads back to it
pub record Received (run : Run) (j i : ℕ) : Type 0 where
  pub follows : Follows run i j
  pub matched : T (matches run.selection (sent_header (sent_at run.lines i)))
  pub kind : kind_of (entry_at run i) ≡ 2
  pub reads : read_answer (record_after run j) ≡ Ok tt
  pub holds : Holds run i j (page_read (record_after run j))

-- one number, and no other
abbrev pub ExactlyOne : (ℕ → Type 0) → Type 0
ExactlyOne P = (i : ℕ) × P i × ((k : ℕ) → P k → k ≡ i)

-- for every lawful selection, every lent record that is long enough and every sequence of lines with at most two wrong bits in each Hamming byte and
-- none or an odd number in each character byte: at each line j that closes clean there is exactly one line i that opened the page, and the record is
-- the page that was sent from there
abbrev pub A : Type 0
A = (run : Run) → Fed run → (j : ℕ) → ClosesClean run j → ExactlyOne (Received run j)

-- ---- B

-- one receiver was sent from line i to line j what another was sent from line k to line l: the header's numbers, time, control bits and text, and the
-- same rows, with the same last texts
pub record SameSent (run other : Run) (i j k l : ℕ) : Type 0 where
  pub magazine : sent_magazine (sent_at run.lines i) ≡ sent_magazine (sent_at other.lines k)
  pub header : sent_header (sent_at run.lines i) ≡ sent_header (sent_at other.lines k)
  pub header_text : drop header_column (sent_text (sent_at run.lines i)) ≡ drop header_column (sent_text (sent_at other.lines k))
  pub rows : (row : ℕ) → 1 ≤ row → row ≤ last_row
      → last_text run.selection.magazine row run.lines i j ≡ last_text other.selection.magazine row other.lines k l

-- for any two such runs with clean closings after which the records are equal: i and k are the headers of the two pages, which A shows to be there and to
-- be the only ones
abbrev pub B : Type 0
B =
    (run other : Run) → Fed run → Fed other → (i j k l : ℕ) → ClosesClean run j → ClosesClean other l
    → Follows run i j → Follows other k l → record_after run j ≡ record_after other l → SameSent run other i j k l

-- ---- C

-- no character byte is wrong; which they are goes by the line as sent
abbrev pub TextKept : Line → Type 0
TextKept line = character_bytes (sent_row line.sent) line.received ≡ character_bytes (sent_row line.sent) line.sent

-- from line i to line j at most one wrong bit in each Hamming byte, and no character byte of the header and of the magazine's rows is wrong
pub record Light (run : Run) (i j : ℕ) : Type 0 where
  pub single : (k : ℕ) → i ≤ k → k ≤ j → T (line_within lightly (line_at run.lines k))
  pub header_kept : TextKept (line_at run.lines i)
  pub rows_kept : (row k : ℕ) → 1 ≤ row → row ≤ last_row → i < k → k < j → T (is_row run.selection.magazine row (sent_at run.lines k))
      → TextKept (line_at run.lines k)

-- the page opens with all its header's characters and closes clean, and the record reads back to what was sent from line i on and before line j
pub record Passes (run : Run) (i j : ℕ) : Type 0 where
  pub kind : kind_of (entry_at run i) ≡ 2
  pub count : count_of (entry_at run i) ≡ columns - header_column
  pub word : closing_of (entry_at run j) ≡ closing_number (Some Clean)
  pub reads : read_answer (record_after run j) ≡ Ok tt
  pub holds : Holds run i j (page_read (record_after run j))

-- where line i matches the selection and line j is the next that ends its page. What came before line i is free, within the damage or not, and line
-- j's own text may be wrong
abbrev pub C : Type 0
C =
    (run : Run) → Ready run → (i j : ℕ) → T (matches run.selection (sent_header (sent_at run.lines i)))
    → Follows run i j → Light run i j → Passes run i j
