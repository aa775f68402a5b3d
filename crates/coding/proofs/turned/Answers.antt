-- `coding::turned` meets its contract, by one test over the 256 bytes. The test runs what the check made of the code itself, so that no line here
-- writes the code's operands again.
use Prim.Native.Nat.{ℕ}
use borrow.Author.Rules.{rules}
use borrow.Fn.Function.{res_v}
use Rattle.laws.specs.Below.{all_below}
use Rattle.laws.proofs.Below.{equal_at}
use Rattle.coding.specs.Bits.{turned_byte}
use Rattle.coding.proofs.turned.Reads as reads
use Rattle.coding.proofs.turned.Lts as lts
use Rattle.coding.proofs.turned.Goals as goal

-- what the code returns: `m26` is its last place
abbrev returned : ℕ → ℕ
returned byte = res_v lts.r tt (lts.m26 reads.Pre reads.Post (record { byte = byte })).0

pub returns : goal.returns
unfolding turned_byte all_below
returns c = equal_at 256 returned turned_byte tt c.args.byte (search rules)
