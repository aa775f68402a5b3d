-- `watch::after_line` meets its contract: part by part, from what was heard in the answer.
use mathlib.Core.Path.{sym}
use Rattle.receiver.specs.Entries.{refusal_number}
use Rattle.watch.specs.Watched.{line_watched, own_after, own_closed}
use Rattle.watch.proofs.Closed.{not_not, unclosed}
use Rattle.watch.proofs.after_line.Goals as goal

pub returns : goal.returns
unfolding line_watched own_after own_closed refusal_number
returns c =
    rw (
      c.gap_after.ensures,
      c.added_to.ensures,
      c.added_if.ensures,
      c.is_refused.ensures,
      c.added_if-2.ensures,
      c.is_refused-2.ensures,
      c.added_if-3.ensures,
      c.added_to-2.ensures,
      c.added_to-3.ensures,
      c.own_after.ensures,
      c.word_of.ensures,
      c.own_closed.ensures,
      c.mended_of-more.ensures,
      c.closing_in-closing.ensures,
      unclosed c.closing_in-closing.result,
      sym c.is_some-closed.ensures,
      not_not c.is_some-closed.result,
    )
