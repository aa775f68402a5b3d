-- `coding::sent_message` meets its contract, by one test over the 256 numbers, of what the check made of the code itself.
use Prim.Native.Nat.{ℕ, ◌%◌}
use borrow.Author.Rules.{rules}
use borrow.Fn.Function.{res_v}
use Rattle.laws.specs.Below.{all_below}
use Rattle.laws.proofs.Below.{equal_at}
use Rattle.coding.specs.Hamming.{sent_message}
use Rattle.coding.proofs.sent_message.Reads as reads
use Rattle.coding.proofs.sent_message.Lts as lts
use Rattle.coding.proofs.sent_message.Goals as goal

-- what the code returns: `m30` is its last place
abbrev returned : ℕ → ℕ
returned message = res_v lts.r tt (lts.m30 reads.Pre reads.Post (record { message = message })).0

pub returns : goal.returns
unfolding sent_message all_below
returns c = equal_at 256 returned (λ message. sent_message (message % 16)) tt c.args.message (search rules)
