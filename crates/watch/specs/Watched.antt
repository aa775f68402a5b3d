-- What whoever feeds lines keeps beside the receiver, and the word of a page that closes. A refused line may have been the header that ends the open page, and the
-- receiver can't know it: so a page that was open at a refused line is not called clean, even where the receiver closes it so.
use Rattle.std.specs.Prelude.{Bool, false, cond, not, ◌&&◌, ◌||◌, ℕ, ◌+◌, ◌-◌, min, eqb, get_or}
use Rattle.std.specs.Prelude as std
use Rattle.std.specs.Prelude.{Some, None}
use Rattle.std.proofs.Math.Option.{Option, none, some}
use Rattle.laws.specs.Digits.{most_counted}
use Rattle.laws.specs.Paper.{Paper}
use Rattle.receiver.specs.Entries.{closing_number}
use Rattle.receiver.specs.Mended.{brought_by}
use Rattle.receiver.specs.Recordings.{is_accepted}
use Rattle.receiver.specs.declared.Closing.TheVariants as closing
use Rattle.receiver.specs.declared.Mended.{Mended}
use Rattle.watch.specs.declared.Watch.{Watch}
use Rattle.watch.specs.declared.Watched.{Watched}
use Rattle.watch.specs.declared.Word.{Word}
use Rattle.watch.specs.declared.Word.TheVariants as word

-- ---- one line, by its answer and by whether a page is open after it

-- the number of the closing word, the third value: 0 none, 1 clean, 2 doubt. A refused line has 0 there
unfoldable pub closing_of : Paper → ℕ
closing_of answer = get_or answer.values 2 0

-- the word by that number: doubt is doubt, and clean is clean only where no line was refused while the page was open
unfoldable pub word_of : Bool → ℕ → std.Option Word
unfolding closing_number
word_of gap number =
    cond (eqb number (closing_number (Some closing.Clean))) (cond gap (Some word.Missing) (Some word.Clean))
    (cond (eqb number (closing_number (Some closing.Doubt))) (Some word.Doubt) None)

-- a refused line is a gap in the page that is open; closing ends it
unfoldable pub gap_after : Bool → Bool → Paper → Bool
unfolding is_accepted closing_of
gap_after gap is_open answer = cond (is_accepted answer.number) (gap && eqb (closing_of answer) 0) (gap || is_open)

-- ---- the counts

-- a count stays at the largest number that it can hold
unfoldable pub added : ℕ → ℕ → ℕ
added count more = min most_counted (count + more)

unfoldable pub added_if : Bool → ℕ → ℕ
unfolding added
added_if one count = cond one (added count 1) count

-- a number that is there and is this one
unfoldable pub is_number : ℕ → Option ℕ → Bool
is_number number none = false
is_number number (some found) = eqb found number

-- the bytes mended in the page's own lines, after a line. A line that closes a page ends that page's count; where it is the header of the next sending, it begins
-- that one's
unfoldable pub own_after : ℕ → Paper → ℕ
unfolding added brought_by closing_of
own_after own answer = cond (eqb (closing_of answer) 0) (added own (brought_by answer).own) (brought_by answer).own

-- and of the page that a line closes: what was counted before it, and never more than a count holds, whatever watch is handed in
unfoldable pub own_closed : ℕ → Paper → ℕ
unfolding added closing_of
own_closed own answer = cond (eqb (closing_of answer) 0) 0 (added own 0)

-- ---- the watch

unfoldable pub new_watch : Watch
new_watch = record { gap = false; lines = 0; by10 = 0; by11 = 0; closed = 0; mended = 0; mended_lines = 0; own = 0 }

unfoldable pub line_watched : Watch → Bool → Paper → Watched
unfolding word_of gap_after added added_if is_number closing_of brought_by own_after own_closed
line_watched watch is_open answer =
    record {
      watch =
          record {
            gap = gap_after watch.gap is_open answer;
            lines = added watch.lines 1;
            by10 = added_if (is_number 10 answer.number) watch.by10;
            by11 = added_if (is_number 11 answer.number) watch.by11;
            closed = added_if (not (eqb (closing_of answer) 0)) watch.closed;
            mended = added watch.mended (brought_by answer).bytes;
            mended_lines = added watch.mended_lines (brought_by answer).lines;
            own = own_after watch.own answer;
          };
      word = word_of watch.gap (closing_of answer);
      own = own_closed watch.own answer;
    }

-- so many lines that were taken and closed nothing, and the bytes mended in them
unfoldable pub lines_passed : Watch → ℕ → Mended → Watch
unfolding added
lines_passed watch used mended =
    record {
      gap = watch.gap;
      lines = added watch.lines used;
      by10 = watch.by10;
      by11 = watch.by11;
      closed = watch.closed;
      mended = added watch.mended mended.bytes;
      mended_lines = added watch.mended_lines mended.lines;
      own = added watch.own mended.own;
    }

-- the bytes mended in all lines but one
unfoldable pub without : Mended → Mended → Mended
without all one = record { bytes = all.bytes - one.bytes; lines = all.lines - one.lines; own = all.own - one.own }

-- so many lines of a recording: all passed where it ended, and where it stopped all but the last, whose answer it stopped at
unfoldable pub recording_watched : Watch → ℕ → Mended → Bool → Option Paper → Watched
unfolding lines_passed line_watched without brought_by
recording_watched watch used mended is_open none = record { watch = lines_passed watch used mended; word = None; own = 0 }
recording_watched watch used mended is_open (some answer) =
    line_watched (lines_passed watch (used - 1) (without mended (brought_by answer))) is_open answer
