-- `announcing::fresh_characters` meets its contract. The loop's invariant: the cells so far are as they were sent, or spaces.
use Rattle.std.proofs.Common.{arith}
use Rattle.announcing.proofs.Fresh.{fresh_is}
use Rattle.announcing.proofs.fresh_characters.Goals as goal

pub returns : goal.returns
returns c = fresh_is c.args.cells.now c.requires c.loop-i.sent c.loop-i.invariant.0 (λ k h. c.loop-i.invariant.1 k (omega arith))
