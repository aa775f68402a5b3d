use native.Mathlib.Omega.{arith}
use Rattle.coding.proofs.Heard.{heard-good, heard-refused, heard_law, small_good, small_heard}
use Rattle.receiver.specs.Private.{seen_with}
use Rattle.receiver.proofs.kinds.seen_with.Goals as goal

pub overflow_mul-second : goal.overflow_mul-second
overflow_mul-second c =
    let heard = heard_law _ _ c.message_at.ensures in
    omega (arith, small_good _ _ (small_heard _ _ heard) c.in-Some.is)

pub overflow_add-weight1 : goal.overflow_add-weight1
overflow_add-weight1 c =
    let heard = heard_law _ _ c.message_at.ensures in
    omega (arith, small_good _ _ (small_heard _ _ heard) c.in-Some.is)

pub returns-in-Some : goal.returns-in-Some
unfolding seen_with
returns-in-Some c =
    let heard = heard_law _ _ c.message_at.ensures in
    rw (c.our_row.ensures, heard-good _ heard _ c.in-Some.is)

pub returns-in-None : goal.returns-in-None
unfolding seen_with
returns-in-None c =
    let heard = heard_law _ _ c.message_at.ensures in
    rw (heard-refused _ heard c.in-None.is)
