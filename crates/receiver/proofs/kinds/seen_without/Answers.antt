use borrow.Author.Tests.{le-leb, lt-leb}
use Rattle.coding.proofs.Heard.{heard-good, heard-refused, heard_law}
use Rattle.receiver.specs.Private.{seen_without}
use Rattle.receiver.proofs.kinds.seen_without.Goals as goal

pub returns-then-second-ge-FIRST_HARMLESS : goal.returns-then-second-ge-FIRST_HARMLESS
unfolding seen_without
returns-then-second-ge-FIRST_HARMLESS c =
    let heard = heard_law _ _ c.message_at.ensures in
    rw (heard-good _ heard _ c.in-Some.is, le-leb _ _ c.if-second-ge-FIRST_HARMLESS.true)

pub returns-else-second-ge-FIRST_HARMLESS : goal.returns-else-second-ge-FIRST_HARMLESS
unfolding seen_without
returns-else-second-ge-FIRST_HARMLESS c =
    let heard = heard_law _ _ c.message_at.ensures in
    rw (heard-good _ heard _ c.in-Some.is, lt-leb _ _ c.if-second-ge-FIRST_HARMLESS.false)

pub returns-in-None : goal.returns-in-None
unfolding seen_without
returns-in-None c =
    let heard = heard_law _ _ c.message_at.ensures in
    rw (heard-refused _ heard c.in-None.is)
