-- `packing::word_of` meets its contract: each byte has 256 times the worth of the next.
use native.Mathlib.Omega.{arith}
use borrow.Author.Rules.{rules}
use Rattle.laws.specs.Fields.{total}
use Rattle.laws.proofs.Words.{word}
use Rattle.packing.proofs.Bits.{eight_bytes, number_is}
use Rattle.packing.proofs.word_of.Goals as goal

pub returns : goal.returns
unfolding word total
returns c = omega (arith, c.from_be_bytes.ensures, number_is c.args.bytes (eight_bytes c.args.bytes (search rules) (λ k. search rules)))
