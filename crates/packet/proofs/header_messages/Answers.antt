use mathlib.Core.Path.{◌≡◌, sym}
use mathlib.Core.Option.{some}
use Prim.Native.Nat.{ℕ, ◌+◌}
use native.Mathlib.Omega.{arith}
use borrow.Author.Rules.{rules}
use lib.ListN.{get_or}
use Rattle.laws.proofs.Lists.{stored_more}
use Rattle.coding.specs.Bits.{turned_byte}
use Rattle.coding.specs.Hamming.{message}
use Rattle.coding.specs.Heard.{heard}
use Rattle.coding.proofs.Heard.{heard-good, heard-refused, heard_law}
use Rattle.packet.proofs.Good.{header-good, header-spoiled}
use Rattle.packet.proofs.header_messages.Goals as goal

pub returns-in_err-messages : goal.returns-in_err-messages
unfolding heard
returns-in_err-messages c =
    let refused = heard-refused _ (heard_law _ _ c.message_at.ensures) c.in_err-messages.was in
    rw c.from_residual.ensures (sym (header-spoiled _ c.requires c.loop-at.at (search rules) refused))

pub loop-at-preserved : goal.loop-at-preserved
loop-at-preserved c =
    let packet = c.args.packet.now in
    let here = heard-good _ (heard_law _ _ c.message_at.ensures) _ c.in_ok-messages.was in (
      search rules,
      stored_more (λ (k m : ℕ). message (turned_byte (get_or packet (2 + k) 0)) ≡ some m)
          c.loop-at.messages c.loop-at.at _ 0 (search rules) c.loop-at.invariant.1 here,
    )

pub returns : goal.returns
unfolding heard
returns c = sym (header-good _ c.requires c.loop-at.messages (search rules) (λ k h. c.loop-at.invariant.1 k (omega arith)))
