use mathlib.Core.Path.{sym, ap, ap₂, ◌∙◌}
use Prim.Native.Nat.{ℕ, ◌+◌}
use native.Mathlib.Omega.{arith}
use Rattle.receiver.specs.Mended.{examined, mended_in}
use Rattle.receiver.specs.declared.kinds.Seen.{Seen}
use Rattle.receiver.proofs.MendedBytes.{control-at-most, mended-header, pair-at-most}
use Rattle.receiver.proofs.mending.mended_bytes.Goals as goal

pub overflow_add-result : goal.overflow_add-result
overflow_add-result c =
    let packet = c.args.packet.now in
    omega (arith, pair-at-most packet c.requires, control-at-most packet c.requires, c.mended_address-address.ensures, c.mended_control.ensures)

pub returns-in-Another : goal.returns-in-Another
unfolding mended_in examined
returns-in-Another c = rw c.in-Another.is c.mended_address-address.ensures

pub returns-in-OurRow : goal.returns-in-OurRow
unfolding mended_in examined
returns-in-OurRow c = rw c.in-OurRow.is c.mended_address-address.ensures

pub returns-in-OurHeader : goal.returns-in-OurHeader
returns-in-OurHeader c =
    let packet = c.args.packet.now in
    ap₂ (λ (pair control : ℕ). pair + control) c.mended_address-address.ensures c.mended_control.ensures
    ∙ (sym (mended-header packet c.requires) ∙ ap (λ (s : Seen). mended_in s packet) (sym c.in-OurHeader.is))

pub returns-in-Unsure : goal.returns-in-Unsure
unfolding mended_in examined
returns-in-Unsure c = rw c.in-Unsure.is c.mended_address-address.ensures
