-- `tally::mended_text` meets its contract: a number and its word, put behind nothing.
use Rattle.std.proofs.Common.{arith}
use Rattle.texts.proofs.Held.{adds-first, held_fits}
use Rattle.tally.specs.Tally.{mended_size, mended_text}
use Rattle.tally.proofs.Tallying.{mended_length}
use Rattle.tally.proofs.mended_text.Goals as goal

pub returns-clause-value : goal.returns-clause-value
unfolding mended_text
returns-clause-value c = adds-first (mended_text c.args.count) c.new-text.ensures c.put_count.ensures (mended_length c.args.count (omega arith))

pub returns-clause-bytes_len : goal.returns-clause-bytes_len
returns-clause-bytes_len c = held_fits mended_size (mended_text c.args.count) (returns-clause-value c) (mended_length c.args.count (omega arith))
