-- `coding::message_bits` meets its contract, by one test over the 256 bytes, of what the check made of the code itself.
use Prim.Native.Nat.{ℕ, ◌*◌}
use native.Mathlib.Omega.{arith}
use borrow.Author.Rules.{rules}
use borrow.Fn.Function.{res_v}
use lib.Bits.{and_le_r}
use Rattle.laws.specs.Below.{all_below}
use Rattle.laws.proofs.Below.{equal_at}
use Rattle.coding.specs.Hamming.{message_bits}
use Rattle.coding.proofs.message_bits.Reads as reads
use Rattle.coding.proofs.message_bits.Lts as lts
use Rattle.coding.proofs.message_bits.Goals as goal

-- four copies of a byte, and the mask that keeps one message bit of each
abbrev copies : ℕ → ℕ
copies byte = byte * 0x01010101

abbrev keeping : ℕ
keeping = 0x80200802

-- what the code returns: `m14` is its last place
abbrev returned : ℕ → ℕ
returned byte = res_v lts.r tt (lts.m14 reads.Pre reads.Post (record { byte = byte })).0

-- what is kept is no more than the mask
pub overflow_mul-result : goal.overflow_mul-result
overflow_mul-result c = record { fits = omega (arith, and_le_r (copies c.args.byte) keeping) }

pub returns : goal.returns
unfolding message_bits all_below
returns c = equal_at 256 returned message_bits tt c.args.byte (search rules)
