-- `display::pattern_of` meets its contract, by one test over the 256 bytes. The test runs what the check made of the code itself, so that no line here
-- writes the code's operands again.
use Prim.Native.Nat.{ℕ}
use borrow.Author.Rules.{rules}
use borrow.Fn.Function.{res_v}
use Rattle.laws.specs.Below.{all_below}
use Rattle.laws.proofs.Below.{equal_at}
use Rattle.display.specs.Display.{pattern}
use Rattle.display.proofs.state.pattern_of.Reads as reads
use Rattle.display.proofs.state.pattern_of.Lts as lts
use Rattle.display.proofs.state.pattern_of.Goals as goal

-- what the code returns: `m10` is its last place
abbrev returned : ℕ → ℕ
returned code = res_v lts.r tt (lts.m10 reads.Pre reads.Post (record { code = code })).0

pub returns : goal.returns
unfolding pattern all_below
returns c = equal_at 256 returned pattern tt c.args.code (search rules)
