-- `packet::header_bytes` meets its contract. In its loop the array is what it was before, pasted over with the messages' bytes so far.
use mathlib.Core.Path.{◌∙◌}
use mathlib.Core.List.{◌++◌, map}
use Prim.Native.Nat.{◌+◌}
use native.Mathlib.Omega.{arith}
use borrow.Author.Rules.{rules}
use lib.ListN.{length-set, set, take}
use lib.Seq.{paste-zero}
use Rattle.packet.specs.Writing.{address_bytes, address_length, address_messages, header_bytes, message_byte}
use Rattle.packet.proofs.Filling.{filled, filled_more, started, started-length}
use Rattle.packet.proofs.writing.header_bytes.Goals as goal

pub loop-at-init : goal.loop-at-init
loop-at-init c =
    let long = started-length c.copy_from_slice.new.self 8 in
    (search rules, omega (arith, long, c.copy_from_slice.ensures.len), omega (arith, long, c.copy_from_slice.ensures.len), paste-zero _ address_length (map message_byte c.control_messages-messages.result))

pub loop-at-preserved : goal.loop-at-preserved
loop-at-preserved c =
    let loop = c.loop-at in (
      search rules,
      search rules,
      simp length-set loop.invariant.2,
      (λ i. set (loop.invariant.3 i) (address_length + loop.at) (c.message_byte.ensures i))
          ∙ filled_more message_byte (started c.copy_from_slice.new.self 8) address_length c.control_messages-messages.result loop.at (omega arith) (omega arith),
    )

pub returns : goal.returns
unfolding header_bytes address_bytes address_messages
returns c =
    let loop = c.loop-at in
    let address = c.copy_from_slice.ensures.after ∙ c.address_bytes.ensures in
    loop.invariant.3 ∙ (filled message_byte (started c.copy_from_slice.new.self 8) address_length c.control_messages-messages.result loop.at (omega arith) (omega arith)
    ∙ (λ i. take address_length (started (address i) 8) ++ map message_byte (c.control_messages-messages.ensures i)))
