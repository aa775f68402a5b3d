-- `tally::share_text` meets its contract: text by text, each put behind those before it.
use Rattle.std.proofs.Common.{arith}
use Rattle.texts.proofs.Held.{adds-first, adds_put, adds_then, held_fits}
use Rattle.tally.specs.Tally.{share_size, share_text}
use Rattle.tally.proofs.Tallying.{share_length}
use Rattle.tally.proofs.share_text.Goals as goal

pub returns-clause-value : goal.returns-clause-value
unfolding share_text
returns-clause-value c =
    let a = c.args in
    adds-first (share_text a.mended a.mended_lines a.lines) c.new-text.ensures
    (adds_then c.put_count.ensures (adds_then (adds_put _ c.put_decimal.ensures) (adds_then (adds_put _ c.put.ensures) c.put_count-2.ensures)))
    (share_length a.mended a.mended_lines a.lines (omega arith) (omega arith) (omega arith))

pub returns-clause-bytes_len : goal.returns-clause-bytes_len
returns-clause-bytes_len c =
    let a = c.args in
    held_fits share_size (share_text a.mended a.mended_lines a.lines) (returns-clause-value c)
    (share_length a.mended a.mended_lines a.lines (omega arith) (omega arith) (omega arith))
