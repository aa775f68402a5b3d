-- `sending::line_count` meets its contract. In its loop the count so far and the rows that are left make the whole.
use native.Mathlib.Numerals.{add-one}
use native.Mathlib.Omega.{arith}
use mathlib.Core.Bool.{false}
use lib.ListN.{get_or}
use Rattle.sending.specs.Sending.{chosen_rows, line_count}
use Rattle.sending.proofs.Next.{next_count, none_left, one_at_most}
use Rattle.sending.proofs.line_count.Goals as goal

pub loop-yes-init : goal.loop-yes-init
unfolding line_count chosen_rows
loop-yes-init c = (omega arith, omega arith)

pub overflow_add-count : goal.overflow_add-count
overflow_add-count c = omega (arith, one_at_most (get_or c.args.wanted c.loop-yes.yes-index false))

pub loop-yes-preserved : goal.loop-yes-preserved
loop-yes-preserved c =
    let wanted = c.args.wanted in
    let loop = c.loop-yes in (
      omega (arith, one_at_most (get_or wanted loop.yes-index false)),
      rw (add-one loop.yes-index) (omega (arith, next_count wanted loop.yes-index (omega arith), loop.invariant.1)),
    )

pub returns : goal.returns
returns c =
    let loop = c.loop-yes in
    omega (arith, loop.invariant.1, none_left c.args.wanted loop.yes-index (omega arith))
