-- `receive::feed_whole` meets its contract: the whole lines are fed, and the part behind them is carried over.
use mathlib.Core.Path.{◌∙◌}
use native.Mathlib.Omega.{arith}
use Rattle.receive.proofs.Feeding.{turned}
use Rattle.receive.proofs.feed_whole.Goals as goal

pub returns : goal.returns
returns g c =
    let size = c.requires.0.1 in
    let fits = c.requires.1 in
    let fed = c.feed-fed in record {
      turned = turned c.args.chunk.now c.args.full (omega arith) c.args.turn.now.state fed.new.state c.carry.new.chunk fed.ensures.feeds c.carry.ensures;
      carried = ((fed.ensures.record_len, c.carry.auto.chunk ∙ size), omega arith);
    }
