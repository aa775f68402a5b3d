-- `packet::reversed` meets its contract, by one test over the 256 bytes: the upper half of a byte that was turned is its lower half the other way round.
use mathlib.Core.Path.{◌∙◌}
use Prim.Native.Nat.{◌/◌}
use borrow.Author.Rules.{rules}
use Rattle.laws.specs.Below.{all_below}
use Rattle.laws.specs.Digits.{binary}
use Rattle.laws.proofs.Below.{equal_at}
use Rattle.coding.specs.Bits.{turned_byte}
use Rattle.packet.specs.Headers.{lowest_first}
use Rattle.packet.proofs.reversed.Goals as goal

pub returns : goal.returns
unfolding all_below binary lowest_first turned_byte
returns c =
    (λ i. c.turned.ensures i / 16)
    ∙ equal_at 256 (λ byte. turned_byte byte / 16) (λ byte. binary (lowest_first byte)) tt c.args.message (search rules)
