-- The worked run, computed: A speaks of something. And past each bound, computed too: A would be false there.
use mathlib.Core.Path.{◌≡◌, refl}
use mathlib.Core.Bool.{false}
use mathlib.Core.Option.{none, some}
use Prim.Native.Nat.{ℕ, zero, suc, ◌≤◌, ◌<◌}
use native.Mathlib.Omega.{arith}
use lib.Dec.{T, lit<, lit≤}
use lib.ListN.{get_or, replicate}
use Rattle.page.specs.Lawful.{fresh}
use Rattle.page.specs.Reading.{page_read}
use Rattle.page.specs.declared.Cells.{Cells}
use Rattle.grid.specs.Grid.{last_row}
use Rattle.packet.specs.Sent.{sent_header}
use Rattle.receiver.specs.Selections.{in_range, matches}
use Rattle.demands.specs.Demands.{ClosesClean, ExactlyOne, Fed, Follows, Light, Passes, Received, TextKept, lightly, record_after}
use Rattle.demands.specs.Runs.{Run, character_bytes, closing_of, ends_page, entry_at, is_row, last_text, line_at, line_within, row_part, sent_at, within}
use Rattle.demands.proofs.Closings.{proof_a}
use Rattle.demands.proofs.Passing.{proof_c}
use Rattle.demands.specs.Worked.{lost_header, three_bits, two_bits, worked_run}

-- ---- within the bounds

pub worked_fed : Fed worked_run
unfolding worked_run in_range within
worked_fed = record { ready = record { range = tt; room = lit≤ tt }; damaged = tt }

pub worked_closes : ClosesClean worked_run 2
unfolding worked_run entry_at closing_of
worked_closes = record { line = lit< tt; word = refl }

-- so A says what its record holds
pub worked_received : ExactlyOne (Received worked_run 2)
worked_received = proof_a worked_run worked_fed 2 worked_closes

-- and it meets what C asks
pub worked_follows : Follows worked_run 0 2
unfolding worked_run ends_page is_row line_at
worked_follows = record { header = tt; next = tt; before = lit< tt; none_between = between }
  where
    between : (k : ℕ) → 0 < k → k < 2 → ¬ T (ends_page 1 (sent_at worked_run.lines k))
    between zero low high = absurd (omega arith)
    between (suc zero) low high = λ t. t
    between (suc (suc k)) low high = absurd (omega arith)

pub worked_light : Light worked_run 0 2
unfolding worked_run line_within line_at character_bytes
worked_light = record { single = single; header_kept = refl; rows_kept = kept }
  where
    single : (k : ℕ) → 0 ≤ k → k ≤ 2 → T (line_within lightly (line_at worked_run.lines k))
    single zero low high = tt
    single (suc zero) low high = tt
    single (suc (suc zero)) low high = tt
    single (suc (suc (suc k))) low high = absurd (omega arith)

    kept : (row k : ℕ) → 1 ≤ row → row ≤ last_row → 0 < k → k < 2 → T (is_row 1 row (sent_at worked_run.lines k)) → TextKept (line_at worked_run.lines k)
    kept row zero first last low high t = absurd (omega arith)
    kept row (suc zero) first last low high t = refl
    kept row (suc (suc k)) first last low high t = absurd (omega arith)

pub worked_passes : Passes worked_run 0 2
unfolding worked_run matches sent_header line_at
worked_passes = proof_c worked_run worked_fed.ready 0 2 tt worked_follows worked_light

-- the cells of the record after a line
unfoldable pub cells_after : Run → ℕ → Cells
unfolding page_read entry_at
cells_after run j = (page_read (record_after run j)).cells

pub worked_row : row_part 1 (cells_after worked_run 2).characters ≡ replicate 40 0x42
unfolding worked_run cells_after row_part
worked_row = refl

-- ---- past them

-- a row that the magazine did not send, all fresh
pub three_bits_law : T (within 3 three_bits.lines) × (closing_of (entry_at three_bits 2) ≡ 1) × (last_text 1 1 three_bits.lines 0 2 ≡ none)
    × (row_part 1 (cells_after three_bits 2).marks ≡ replicate 40 fresh)
unfolding three_bits within closing_of entry_at last_text row_part cells_after
three_bits_law = (tt, refl, refl, refl)

-- another character than the one that was sent
pub two_bits_law : (within 2 two_bits.lines ≡ false) × (closing_of (entry_at two_bits 2) ≡ 1) × (last_text 1 1 two_bits.lines 0 2 ≡ some (replicate 40 0x42))
    × (get_or (row_part 1 (cells_after two_bits 2).characters) 0 0 ≡ 0x41)
unfolding two_bits within closing_of entry_at last_text row_part cells_after
two_bits_law = (refl, refl, refl, refl)

-- a row of another page
pub lost_header_law : (within 2 lost_header.lines ≡ false) × (closing_of (entry_at lost_header 3) ≡ 1) × (last_text 1 1 lost_header.lines 0 1 ≡ none)
    × (row_part 1 (cells_after lost_header 3).marks ≡ replicate 40 fresh)
unfolding lost_header within closing_of entry_at last_text row_part cells_after
lost_header_law = (refl, refl, refl, refl)
