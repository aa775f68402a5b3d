-- `listing::end_line` meets its contract: the word, the number and the line feed.
use Rattle.std.proofs.Common.{arith}
use Rattle.texts.proofs.Held.{adds_put, adds_then}
use Rattle.listing.specs.Lines.{end_text}
use Rattle.listing.proofs.Held.{end_length, written}
use Rattle.listing.proofs.end_line.Goals as goal

pub returns : goal.returns
unfolding end_text
returns c =
    written (end_text c.args.size) c.new-line.ensures (adds_then (adds_put _ c.put.ensures) (adds_then (adds_put _ c.put_decimal.ensures) (adds_put _ c.put-2.ensures)))
    (end_length c.args.size (omega arith))
