-- Feeding back: the header's line opens the page, each row's line is stored, and the further line closes it clean, with the record that is to come back.
use mathlib.Core.Path.{◌≡◌, refl, sym, ap, subst, ◌∙◌}
use mathlib.Core.Bool.{Bool, false}
use mathlib.Core.List.{List}
use Prim.Native.Nat.{ℕ, zero, suc, ◌-◌, ◌≤◌, ◌<◌}
use native.Mathlib.Omega.{arith}
use lib.Dec.{T}
use lib.ListN.{get_or, length, take}
use Rattle.std.specs.Prelude.{Ok, None, Some}
use Rattle.laws.specs.Paper.{accepted}
use Rattle.laws.proofs.Bools.{passed}
use Rattle.grid.specs.Grid.{columns, last_row}
use Rattle.packet.specs.Addresses.{address_of}
use Rattle.packet.specs.Lines.{framed, packet_of}
use Rattle.packet.specs.Texts.{header_column}
use Rattle.packet.specs.declared.Address.TheVariants.{Whole}
use Rattle.page.specs.Reading.{page_read, read_answer}
use Rattle.page.specs.Records.{record_length, record_of}
use Rattle.page.specs.declared.Page.{Page}
use Rattle.receiver.specs.Effects.{Outcome, held, taken}
use Rattle.receiver.specs.Entries.{Entered, closing_number, entered, line_entered, line_values, made, new_receiver, packet_gives}
use Rattle.receiver.specs.Mended.{packet_mended}
use Rattle.receiver.specs.Selections.{in_range, matches}
use Rattle.receiver.specs.declared.Closing.TheVariants as closing
use Rattle.receiver.specs.declared.Receiver.{Receiver}
use Rattle.receiver.specs.declared.Selection.{Selection}
use Rattle.receiver.proofs.Addressed.{zeroth-closes}
use Rattle.receiver.proofs.Carried.{Going}
use Rattle.receiver.proofs.Closings.{clean-closing, closes_clean}
use Rattle.receiver.proofs.Entering.{length_packet, line-is-taken}
use Rattle.receiver.proofs.Causes.{as_whole}
use Rattle.sending.specs.Sending.{chosen_rows, header_line, line_count, lines_of, row_characters, row_line, with_c4}
use Rattle.sending.proofs.Lines.{lines_count}
use Rattle.sending.proofs.Rows.{chosen-high, chosen-low}
use Rattle.demands.specs.Demands.{Ready, record_after}
use Rattle.demands.specs.Runs.{Run, before_line, closing_of, entering, entry_at, received_at}
use Rattle.demands.proofs.Closings.{held_reads, record_first}
use Rattle.demands.proofs.Through.{closing_entered, left-receiver, lent_entered, lent_at, receiver_at, standing}
use Rattle.returning.specs.Returned.{ComesBack, FeedingBack, Feeds, Returned, fed, fed_back}
use Rattle.returning.proofs.Given.{Gives}
use Rattle.returning.proofs.Giving.{gives_read}
use Rattle.returning.proofs.Holding.{Holding, header-given, header_matches, holding-first, holding-next, row-given}
use Rattle.returning.proofs.Lines.{count-is, fed-further, fed-line, first-line, later-line}
use Rattle.returning.proofs.Returned.{held-returned}
use Rattle.returning.proofs.Taking.{opened-answer, stored_answer}

-- ---- a line of a run whose framing passes is taken

module _ (run : Run) (ready : Ready run) (k : ℕ) (line : List ℕ) (at : received_at run.lines k ≡ line) (framing : framed line ≡ Ok tt) where
  abbrev taken_at : Outcome
  taken_at = taken (receiver_at run ready k) (packet_of line) (lent_at run ready k)

  entry-taken : entry_at run k ≡ packet_gives (receiver_at run ready k) (packet_of line) (lent_at run ready k)
  unfolding entry_at entering
  entry-taken =
      ap (λ (l : List ℕ). line_entered (receiver_at run ready k) l (lent_at run ready k)) at
      ∙ line-is-taken (receiver_at run ready k) (standing run ready k).is (lent_at run ready k) (standing run ready k).room line framing

  left_after : receiver_at run ready (suc k) ≡ taken_at.receiver
  unfolding entered
  left_after = left-receiver run ready k ∙ ap (λ (e : Entered). e.receiver) entry-taken

-- ---- our row 0 closes a page without doubt

module _ (receiver : Receiver) (line lent : List ℕ) (framing : framed line ≡ Ok tt)
    (address : address_of (packet_of line) ≡ Ok (Whole receiver.selection.magazine 0)) (going : Going receiver) where
  closes-going : (taken receiver (packet_of line) lent).closing ≡ Some closing.Clean
  closes-going =
      zeroth-closes receiver (packet_of line) lent address (length_packet line framing) ∙ closes_clean receiver going.0 going.1

  writes-held : take record_length (taken receiver (packet_of line) lent).lent ≡ record_of (held receiver)
  writes-held = record_first receiver lent (taken receiver (packet_of line) lent).lent (clean-closing receiver (packet_of line) lent closes-going).wrote

-- ---- the run

module _ (bytes : List ℕ) (wanted : List Bool) (selection : Selection) (further lent : List ℕ) (gives : Gives (page_read bytes))
    (feeds : Feeds bytes wanted selection further lent) where
  abbrev page : Page
  page = page_read bytes

  abbrev rows : List ℕ
  rows = chosen_rows wanted

  abbrev run : Run
  run = fed_back bytes wanted selection further lent

  ready : Ready run
  unfolding fed
  ready = record { range = feeds.range; room = feeds.lends }

  abbrev before : ℕ → Receiver
  before k = receiver_at run ready k

  abbrev lent_before : ℕ → List ℕ
  lent_before k = lent_at run ready k

  selects : (k : ℕ) → (before k).selection ≡ selection
  unfolding fed
  selects k = (standing run ready k).selects

  ours : (k : ℕ) → (before k).selection.magazine ≡ page.magazine
  ours k = ap (λ (s : Selection). s.magazine) (selects k) ∙ feeds.magazine

  -- ---- the header's line

  at-header : received_at run.lines 0 ≡ header_line page
  at-header =
      fed-line selection lent (lines_of page wanted) further 0 (omega (arith, lines_count page wanted, count-is page wanted)) ∙ first-line page wanted

  none-open-yet : (before 0).«open» ≡ false
  unfolding fed before_line made new_receiver
  none-open-yet = rw (passed (in_range selection) feeds.range) refl

  matched : T (matches (before 0).selection page.header)
  matched = subst (λ (s : Selection). T (matches s page.header)) (sym (selects 0)) feeds.matched

  opens-clean : (entry_at run 0).answer ≡ accepted (line_values 2 (columns - header_column) None 0)
  opens-clean =
      ap (λ (e : Entered). e.answer) (entry-taken run ready 0 (header_line page) at-header gives.header_row.framing)
      ∙ opened-answer (before 0) (header_line page) (lent_before 0) (with_c4 page.header) (row_characters page.cells.characters 0)
      (header-given page gives (before 0) (ours 0))
      gives.header
      (header_matches (before 0).selection page.header matched)
      none-open-yet

  -- ---- the rows' lines

  module _ (n : ℕ) (below : n < length rows) where
    at_row : received_at run.lines (suc n) ≡ row_line page (get_or rows n 0)
    at_row =
        fed-line selection lent (lines_of page wanted) further (suc n) (omega (arith, lines_count page wanted, count-is page wanted))
        ∙ later-line page wanted n below

    low : 1 ≤ get_or rows n 0
    low = chosen-low wanted n below

    high : get_or rows n 0 ≤ last_row
    high = omega (arith, chosen-high wanted n below, feeds.choice)

    row-framing : framed (row_line page (get_or rows n 0)) ≡ Ok tt
    row-framing = (gives.rows (get_or rows n 0) low high).framing

  holding-at : (n : ℕ) → n ≤ length rows → Holding page rows n (before (suc n))
  holding-at zero h =
      subst (Holding page rows 0) (sym (left_after run ready 0 (header_line page) at-header gives.header_row.framing))
      (holding-first page gives rows (before 0) (lent_before 0) (ours 0) matched (standing run ready 0).sized)
  holding-at (suc n) h =
      subst (Holding page rows (suc n)) (sym (left_after run ready (suc n) (row_line page (get_or rows n 0)) (at_row n h) (row-framing n h)))
      (holding-next page gives rows n (low n h) (high n h) (before (suc n)) (lent_before (suc n)) (ours (suc n)) (standing run ready (suc n)).sized
      (holding-at n (omega arith)))

  stores-all : (n : ℕ) → n < length rows → (entry_at run (suc n)).answer ≡ accepted (line_values 1 columns None 0)
  stores-all n h =
      let was = holding-at n (omega arith) in
      ap (λ (e : Entered). e.answer) (entry-taken run ready (suc n) (row_line page (get_or rows n 0)) (at_row n h) (row-framing n h))
      ∙ stored_answer (before (suc n)) (row_line page (get_or rows n 0)) (lent_before (suc n)) (get_or rows n 0) (row_characters page.cells.characters (get_or rows n 0))
      (row-given page gives (before (suc n)) (ours (suc n)) (get_or rows n 0) (low n h) (high n h))
      (low n h) (high n h) was.going

  stores-line : (k : ℕ) → 1 ≤ k → k < line_count wanted → (entry_at run k).answer ≡ accepted (line_values 1 columns None 0)
  stores-line zero first h = absurd (omega arith)
  stores-line (suc n) first h = stores-all n (omega (arith, count-is page wanted))

  -- ---- the further line

  abbrev end : ℕ
  end = line_count wanted

  at-further : received_at run.lines end ≡ further
  at-further = fed-further selection lent (lines_of page wanted) further end (lines_count page wanted)

  holding-all : Holding page rows (length rows) (before end)
  holding-all = subst (λ (k : ℕ). Holding page rows (length rows) (before k)) (sym (count-is page wanted)) (holding-at (length rows) (omega arith))

  abbrev last : Outcome
  last = taken_at run ready end further at-further feeds.framing

  abbrev mended : ℕ
  mended = packet_mended (before end) (packet_of further)

  at_end : entry_at run end ≡ entered last mended
  at_end = entry-taken run ready end further at-further feeds.framing

  zeroth : address_of (packet_of further) ≡ Ok (Whole (before end).selection.magazine 0)
  zeroth = feeds.address ∙ ap (λ (s : Selection). as_whole s.magazine 0) (sym (selects end))

  closes-end : closing_of (entry_at run end) ≡ closing_number (Some closing.Clean)
  closes-end =
      ap closing_of at_end
      ∙ (closing_entered last mended
      ∙ ap closing_number (closes-going (before end) further (lent_before end) feeds.framing zeroth holding-all.going))

  record_is : record_after run end ≡ record_of (held (before end))
  record_is =
      ap (take record_length) (ap (λ (e : Entered). e.lent) at_end ∙ lent_entered last mended)
      ∙ writes-held (before end) further (lent_before end) feeds.framing zeroth holding-all.going

  comes_back : ComesBack page wanted run
  comes_back =
      let (reads, gave) = held_reads (before end) (standing run ready end).is (standing run ready end).sized holding-all.going.0 in
      record {
        opens = opens-clean;
        stores = stores-line;
        closes = closes-end;
        reads = ap read_answer record_is ∙ reads;
        holds =
            subst (Returned page wanted) (sym (ap page_read record_is ∙ gave))
            (held-returned page gives wanted (before end) (standing run ready end).is (standing run ready end).sized (ours end) holding-all);
      }

pub feeding_back : FeedingBack
feeding_back bytes wanted selection further lent feeds = comes_back bytes wanted selection further lent (gives_read bytes feeds.read) feeds
