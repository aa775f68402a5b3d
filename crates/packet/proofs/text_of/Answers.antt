use mathlib.Core.Path.{◌≡◌, refl, sym, ap, ◌∙◌}
use Prim.Native.Nat.{ℕ, ◌+◌}
use native.Mathlib.Omega.{arith}
use borrow.Author.Rules.{rules}
use borrow.Author.Tests.{ne_eqb}
use lib.ListN.{get_or}
use Rattle.laws.proofs.Lists.{stored_more}
use Rattle.coding.specs.Bits.{turned_byte}
use Rattle.grid.specs.Grid.{columns}
use Rattle.packet.specs.Texts.{Text, text_of, text_paper}
use Rattle.packet.proofs.Bytes.{bytes_are}
use Rattle.packet.proofs.Whole.{whole_text}
use Rattle.packet.proofs.text_of.Goals as goal

pub returns-then-packet-ne-PACKET_LENGTH : goal.returns-then-packet-ne-PACKET_LENGTH
unfolding text_of text_paper
returns-then-packet-ne-PACKET_LENGTH c = rw (ne_eqb _ _ c.if-packet-ne-PACKET_LENGTH.true) (refl, refl)

pub loop-column-preserved : goal.loop-column-preserved
loop-column-preserved c = (
  search rules,
  stored_more (λ (k byte : ℕ). byte ≡ turned_byte (get_or c.args.packet.now (2 + k) 0))
      c.loop-column.bytes c.loop-column.column _ 0 (search rules) c.loop-column.invariant.1 c.turned.ensures,
)

pub returns : goal.returns
unfolding text_paper
returns c =
    let loop = c.loop-column in
    let packet = c.args.packet.now in
    let read = sym (whole_text packet (search rules)) in (
      ap (λ (t : Text). t.answer) read,
      bytes_are packet 3 columns (omega arith) loop.bytes loop.invariant.0 (λ k h. loop.invariant.1 k (omega arith)) ∙ ap (λ (t : Text). t.bytes) read,
    )
