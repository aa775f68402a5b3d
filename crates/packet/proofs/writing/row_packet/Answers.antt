-- `packet::row_packet` meets its contract. In its loop the array is what it was before, pasted over with the characters' bytes so far.
use mathlib.Core.Path.{◌∙◌}
use mathlib.Core.List.{◌++◌, map}
use Prim.Native.Nat.{◌+◌}
use native.Mathlib.Omega.{arith}
use borrow.Author.Rules.{rules}
use lib.ListN.{length-set, set, take}
use lib.Seq.{paste-zero}
use Rattle.packet.specs.Writing.{address_bytes, address_length, address_messages, row_packet, character_byte}
use Rattle.packet.proofs.Filling.{filled, filled_more, started, started-length}
use Rattle.packet.proofs.writing.row_packet.Goals as goal

pub loop-column-init : goal.loop-column-init
loop-column-init c =
    let long = started-length c.copy_from_slice.new.self 40 in
    (search rules, omega (arith, long, c.copy_from_slice.ensures.len), omega (arith, long, c.copy_from_slice.ensures.len), paste-zero _ address_length (map character_byte c.args.characters))

pub loop-column-preserved : goal.loop-column-preserved
loop-column-preserved c =
    let loop = c.loop-column in (
      search rules,
      search rules,
      simp length-set loop.invariant.2,
      (λ i. set (loop.invariant.3 i) (address_length + loop.column) (c.character_byte.ensures i))
          ∙ filled_more character_byte (started c.copy_from_slice.new.self 40) address_length c.args.characters loop.column (omega arith) (omega arith),
    )

pub returns : goal.returns
unfolding row_packet address_bytes address_messages
returns c =
    let loop = c.loop-column in
    let address = c.copy_from_slice.ensures.after ∙ c.address_bytes.ensures in
    loop.invariant.3 ∙ (filled character_byte (started c.copy_from_slice.new.self 40) address_length c.args.characters loop.column (omega arith) (omega arith)
    ∙ (λ i. take address_length (started (address i) 40) ++ map character_byte c.args.characters))
