use mathlib.Core.Path.{ap, ◌∙◌}
use Prim.Native.Nat.{ℕ}
use Rattle.laws.specs.Paper.{one_or_none}
use Rattle.coding.specs.Hamming.{message, message_in}
use Rattle.coding.specs.declared.Decoded.{Decoded}
use Rattle.coding.proofs.Unique.{decoded_is}
use Rattle.packet.proofs.message_at.Goals as goal

pub returns : goal.returns
unfolding message
returns c =
    let is = decoded_is _ _ c.message_of.ensures in
    c.message_in.ensures
    ∙ (ap (λ (d : Decoded). one_or_none (message_in d)) is ∙ ap (λ (n : ℕ). one_or_none (message n)) c.turned.ensures)
