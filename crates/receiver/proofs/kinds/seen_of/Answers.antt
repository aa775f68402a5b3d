use mathlib.Core.Path.{◌∙◌}
use native.Mathlib.Omega.{arith}
use Rattle.packet.specs.Lines.{packet_byte}
use Rattle.coding.proofs.Heard.{small_good, small_heard, heard-good, heard-refused, heard_law}
use Rattle.receiver.proofs.Seeing.{seen-elsewhere, seen-ours, seen-refused}
use Rattle.receiver.proofs.kinds.seen_of.Goals as goal

pub returns-then-first-ours : goal.returns-then-first-ours
unfolding packet_byte
returns-then-first-ours c =
    let heard = heard_law _ _ c.message_at.ensures in
    seen-elsewhere _ c.args.packet.now c.requires.2 _ (heard-good _ heard _ c.in-Some.is) c.if-first-ours.true

pub seen_with-requires : goal.seen_with-requires
seen_with-requires c =
    let heard = heard_law _ _ c.message_at.ensures in
    omega (arith, small_good _ _ (small_heard _ _ heard) c.in-Some.is)

pub returns-else-first-ours : goal.returns-else-first-ours
unfolding packet_byte
returns-else-first-ours c =
    let heard = heard_law _ _ c.message_at.ensures in
    let first = heard-good _ heard _ c.in-Some.is in
    c.seen_with.ensures ∙ seen-ours _ c.args.packet.now c.requires.2 _ first c.requires.0 c.requires.1 c.if-first-ours.false

pub returns-in-None : goal.returns-in-None
unfolding packet_byte
returns-in-None c =
    let heard = heard_law _ _ c.message_at.ensures in
    c.seen_without.ensures ∙ seen-refused _ c.args.packet.now c.requires.2 (heard-refused _ heard c.in-None.is)
