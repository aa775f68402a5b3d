-- Playing back: what the writer leaves in the room is the lines of the run end to end, so that a recording of it plays the run.
use mathlib.Core.Path.{◌≡◌, refl, sym, ap, ap₂, subst, ◌∙◌}
use mathlib.Core.Bool.{Bool, true, false, ◌&&◌, and-false}
use mathlib.Core.List.{List, [], ◌∷◌, ◌++◌, append_assoc, append-nil}
use Prim.Native.Nat.{ℕ, zero, suc, ◌+◌, ◌-◌, ◌*◌, ◌≤◌, ◌<◌}
use native.Mathlib.Decide.{dec_lt}
use native.Mathlib.Nat.{zero-add}
use native.Mathlib.Omega.{arith}
use lib.Dec.{eqb}
use lib.ListN.{get_or-append, drop, get_or, length, take}
use lib.Seq.{get_or_at}
use Rattle.std.specs.Prelude.{None, Some}
use Rattle.laws.specs.Paper.{Paper, accepted}
use Rattle.grid.specs.Grid.{columns}
use Rattle.packet.specs.Lines.{line_length}
use Rattle.packet.specs.Texts.{header_column}
use Rattle.packet.proofs.Whole.{whole_line}
use Rattle.page.specs.Reading.{page_read}
use Rattle.receiver.specs.Entries.{Entered, closing_number, line_values, made}
use Rattle.receiver.specs.Mended.{brought_by, none_mended, summed}
use Rattle.receiver.specs.Recordings.{goes_on, is_accepted, played, stopped_at}
use Rattle.receiver.specs.declared.Closing.TheVariants as closing
use Rattle.receiver.specs.declared.Mended.{Mended}
use Rattle.receiver.specs.declared.Selection.{Selection}
use Rattle.receiver.proofs.MendedBytes.{brought_none, none_first, none_more}
use Rattle.sending.specs.Sending.{bytes_needed, end_to_end, line_count, lines_of}
use Rattle.sending.proofs.Lines.{lines_count}
use Rattle.sending.proofs.Room.{OfLineLength, length_end_to_end, line_at_law, room-holds, sent-lines}
use Rattle.demands.specs.Recorded.{GoesOn, Records, mended_over}
use Rattle.demands.specs.Runs.{Run, before_line, closing_of, entry_at}
use Rattle.demands.proofs.Recorded.{plays_the_run}
use Rattle.returning.specs.Returned.{ComesBack, Feeds, PlayedBack, fed, fed_back, recording_of, stops_behind}
use Rattle.returning.proofs.Feeding.{feeding_back}
use Rattle.returning.proofs.Lines.{all_length, all_lines, fed-at, fed-length}

-- ---- an answer goes on where no page is closed, and stops where one is

-- it closes nothing, and nothing was mended
abbrev Quiet : Paper → ℕ → ℕ → Type 0
Quiet answer kind count = answer ≡ accepted (line_values kind count None 0)

goes_on_law : (kind count : ℕ) (answer : Paper) → Quiet answer kind count → goes_on answer ≡ true
unfolding goes_on is_accepted accepted line_values closing_number
goes_on_law kind count answer e = ap goes_on e

brings_none : (kind count : ℕ) (answer : Paper) → Quiet answer kind count → brought_by answer ≡ none_mended
unfolding brought_by accepted line_values
brings_none kind count answer e = ap brought_by e ∙ brought_none kind

stops : (entry : Entered) → closing_of entry ≡ closing_number (Some closing.Clean) → goes_on entry.answer ≡ false
unfolding goes_on closing_of closing_number
stops entry e =
    ap (λ (n : ℕ). is_accepted entry.answer.number && eqb n 0) e ∙ and-false (is_accepted entry.answer.number)

-- ---- lines of 45 bytes, end to end

one_more : (lines : List (List ℕ)) (further : List ℕ) → end_to_end (all_lines lines further) ≡ end_to_end lines ++ further
unfolding end_to_end
one_more [] further = append-nil further
one_more (line ∷ lines) further = ap (λ (l : List ℕ). line ++ l) (one_more lines further) ∙ sym (append_assoc line (end_to_end lines) further)

all_whole : (lines : List (List ℕ)) (further : List ℕ) → OfLineLength lines → length further ≡ line_length → OfLineLength (all_lines lines further)
all_whole lines further each last k h = by (dec_lt k (length lines))
  where
    by : Dec (k < length lines) → length (get_or (all_lines lines further) k []) ≡ line_length
    by (yes below) = ap length (get_or-append lines (further ∷ []) [] k below) ∙ each k below
    by (no past) =
        let e : length lines ≡ k = omega (arith, all_length lines further) in
        ap length (get_or_at lines further [] [] k e) ∙ last

-- ---- the recording

module _ (bytes : List ℕ) (wanted : List Bool) (room : List ℕ) (selection : Selection) (further lent : List ℕ)
    (feeds : Feeds bytes wanted selection further lent) (enough : bytes_needed wanted ≤ length room) where
  abbrev lines : List (List ℕ)
  lines = lines_of (page_read bytes) wanted

  abbrev run : Run
  run = fed_back bytes wanted selection further lent

  abbrev recording : List ℕ
  recording = recording_of bytes wanted room further

  -- the recording is the run's
  recording-is : recording ≡ end_to_end (all_lines lines further)
  recording-is =
      ap (λ (l : List ℕ). l ++ further) (room-holds bytes wanted room feeds.read enough feeds.choice) ∙ sym (one_more lines further)

  whole : OfLineLength (all_lines lines further)
  whole = all_whole lines further (sent-lines bytes wanted room feeds.read enough feeds.choice) (whole_line further feeds.framing)

  records : Records run recording
  records =
      record {
        size =
            ap length recording-is
            ∙ (length_end_to_end (all_lines lines further) whole
            ∙ ap (λ (n : ℕ). n * line_length) (sym (fed-length selection lent lines further)));
        holds =
            λ k h.
            let below : k < length (all_lines lines further) = omega (arith, fed-length selection lent lines further) in
            ap (λ (l : List ℕ). take line_length (drop (k * line_length) l)) recording-is
            ∙ (line_at_law (all_lines lines further) whole k below ∙ sym (fed-at selection lent lines further k below));
      }

  -- every line goes on, up to the further one
  back : ComesBack (page_read bytes) wanted run
  back = feeding_back bytes wanted selection further lent feeds

  line-goes-on : (k : ℕ) → k < line_count wanted → goes_on (entry_at run k).answer ≡ true
  line-goes-on zero h = goes_on_law 2 (columns - header_column) (entry_at run 0).answer back.opens
  line-goes-on (suc n) h = goes_on_law 1 columns (entry_at run (suc n)).answer (back.stores (suc n) (omega arith) h)

  line-brings-none : (k : ℕ) → k < line_count wanted → brought_by (entry_at run k).answer ≡ none_mended
  line-brings-none zero h = brings_none 2 (columns - header_column) (entry_at run 0).answer back.opens
  line-brings-none (suc n) h = brings_none 1 columns (entry_at run (suc n)).answer (back.stores (suc n) (omega arith) h)

  -- so that none is mended before the further line
  none_before : (n : ℕ) → n ≤ line_count wanted → mended_over run 0 n ≡ none_mended
  unfolding mended_over
  none_before zero h = refl
  none_before (suc n) h =
      ap₂ summed (none_before n (omega arith)) (ap (λ (k : ℕ). brought_by (entry_at run k).answer) (zero-add n) ∙ line-brings-none n h) ∙ none_more none_mended

  further-alone : mended_over run 0 (suc (line_count wanted)) ≡ brought_by (entry_at run (line_count wanted)).answer
  unfolding mended_over
  further-alone =
      ap₂ (λ (so : Mended) (k : ℕ). summed so (brought_by (entry_at run k).answer)) (none_before (line_count wanted) (omega arith)) (zero-add (line_count wanted))
      ∙ none_first (brought_by (entry_at run (line_count wanted)).answer)

  on-to-the-end : GoesOn run 0 (line_count wanted)
  on-to-the-end k h = subst (λ (n : ℕ). goes_on (entry_at run n).answer ≡ true) (sym (zero-add k)) (line-goes-on k h)

  at-the-end : goes_on (entry_at run (0 + line_count wanted)).answer ≡ false
  at-the-end =
      subst (λ (n : ℕ). goes_on (entry_at run n).answer ≡ false) (sym (zero-add (line_count wanted)))
      (stops (entry_at run (line_count wanted)) back.closes)

  inside : 0 + line_count wanted < length run.lines
  inside = omega (arith, fed-length selection lent lines further, all_length lines further, lines_count (page_read bytes) wanted)

  plays-back : played (made selection) recording lent ≡ stops_behind run (line_count wanted)
  unfolding fed before_line
  plays-back =
      plays_the_run run recording records 0 (line_count wanted) inside on-to-the-end at-the-end
      ∙ ap₂ (λ (n : ℕ) (mended : Mended). stopped_at (entry_at run n) (suc (line_count wanted)) mended) (zero-add (line_count wanted)) further-alone

pub played_back : PlayedBack
played_back bytes wanted room selection further lent feeds enough = plays-back bytes wanted room selection further lent feeds enough
