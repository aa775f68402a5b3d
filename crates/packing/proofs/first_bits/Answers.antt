use native.Mathlib.Omega.{arith}
use borrow.Author.Rules.{rules}
use lib.Bits.{and_le_r}
use Rattle.laws.specs.Fields.{total}
use Rattle.laws.proofs.Words.{mask, word}
use Rattle.packing.proofs.Bits.{eight_bytes, first-bits-are, over}
use Rattle.packing.proofs.first_bits.Goals as goal

pub overflow_mul-result : goal.overflow_mul-result
unfolding word total
overflow_mul-result c = record { fits = omega (arith, and_le_r c.word_of.result (over 2)) }

pub returns : goal.returns
unfolding word total mask
returns c =
    first-bits-are c.args.marks (eight_bytes c.args.marks (search rules) (λ k. search rules)) c.word_of.result c.word_of.ensures
