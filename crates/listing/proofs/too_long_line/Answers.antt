-- `listing::too_long_line` meets its contract: the words and their line feed.
use Rattle.std.proofs.Common.{arith}
use Rattle.texts.proofs.Held.{adds_put}
use Rattle.listing.specs.Lines.{too_long_text}
use Rattle.listing.proofs.Held.{written}
use Rattle.listing.proofs.too_long_line.Goals as goal

pub returns : goal.returns
unfolding too_long_text
returns c = written too_long_text c.new-line.ensures (adds_put too_long_text c.put.ensures) (omega arith)
