use mathlib.Core.Path.{◌≡◌, refl, ap, ap₂, ◌∙◌}
use mathlib.Core.List.{[], ◌∷◌}
use Prim.Native.Nat.{ℕ, suc, ◌+◌, ◌-◌}
use native.Mathlib.Omega.{arith}
use borrow.Author.Rules.{rules}
use lib.ListN.{get_or}
use Rattle.coding.specs.Bits.{turned_byte}
use Rattle.coding.specs.Hamming.{how_many_corrected}
use Rattle.packet.specs.Lines.{packet_bytes}
use Rattle.packet.specs.Texts.{header_column}
use Rattle.packet.specs.Writing.{address_length}
use Rattle.receiver.proofs.MendedBytes.{at_most, corrected_more, one_at_most}
use Rattle.receiver.proofs.mending.mended_control.Goals as goal

pub loop-at-init : goal.loop-at-init
unfolding how_many_corrected packet_bytes
loop-at-init c = (search rules, search rules, refl)

pub overflow_add-mended : goal.overflow_add-mended
overflow_add-mended c =
    let turn = c.loop-at in
    let packet = c.args.packet.now in
    let so_far = at_most packet c.requires 3 (turn.at - address_length) (omega (arith, c.requires)) in
    let this = one_at_most (turned_byte (get_or packet turn.at 0)) in
    let counted = turn.invariant.2 in
    let read = c.one_if_mended-mended.ensures in
    search rules

pub loop-at-preserved : goal.loop-at-preserved
loop-at-preserved c =
    let turn = c.loop-at in
    let packet = c.args.packet.now in
    let count = turn.at - address_length in
    let place : turn.at ≡ (3 - 1) + count = omega (arith, turn.invariant.0) in
    let next : suc count ≡ turn.at + 1 - address_length = omega (arith, turn.invariant.0) in
    let this = c.one_if_mended-mended.ensures ∙ ap (λ (k : ℕ). how_many_corrected (turned_byte (get_or packet k 0) ∷ [])) place in (
      search rules,
      search rules,
      ap₂ (λ (so_far one : ℕ). so_far + one) turn.invariant.2 this
          ∙ (corrected_more packet 3 count (omega (arith, c.requires)) ∙ ap (λ (n : ℕ). how_many_corrected (packet_bytes packet 3 n)) next),
    )

pub returns : goal.returns
returns c =
    let turn = c.loop-at in
    let packet = c.args.packet.now in
    let all : turn.at - address_length ≡ header_column = omega (arith, turn.invariant.0) in
    turn.invariant.2 ∙ ap (λ (n : ℕ). how_many_corrected (packet_bytes packet 3 n)) all
