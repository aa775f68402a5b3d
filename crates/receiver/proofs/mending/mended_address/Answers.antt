use mathlib.Core.Path.{◌∙◌, ap₂}
use Prim.Native.Nat.{ℕ, ◌+◌}
use lib.ListN.{get_or}
use Rattle.coding.specs.Bits.{turned_byte}
use Rattle.receiver.proofs.MendedBytes.{corrected-pair, one_at_most}
use borrow.Author.Rules.{rules}
use Rattle.receiver.proofs.mending.mended_address.Goals as goal

pub overflow_add-result : goal.overflow_add-result
overflow_add-result c =
    let first = c.one_if_mended.ensures in
    let second = c.one_if_mended-2.ensures in
    let packet = c.args.packet.now in
    let one = one_at_most (turned_byte (get_or packet 0 0)) in
    let two = one_at_most (turned_byte (get_or packet 1 0)) in
    search rules

pub returns : goal.returns
returns c =
    ap₂ (λ (one two : ℕ). one + two) c.one_if_mended.ensures c.one_if_mended-2.ensures ∙ corrected-pair c.args.packet.now c.requires
