use native.Mathlib.Omega.{arith}
use borrow.Author.Rules.{rules}
use lib.Bits.{and_le_r}
use Rattle.laws.specs.Fields.{total}
use Rattle.laws.proofs.Words.{mask, word}
use Rattle.packing.proofs.Bits.{eight_bytes, last-bits-are, over}
use Rattle.packing.proofs.last_bits.Goals as goal

pub overflow_mul-result : goal.overflow_mul-result
unfolding word total
overflow_mul-result c = record { fits = omega (arith, and_le_r c.word_of-2.result (over 1)) }

pub overflow_add-result : goal.overflow_add-result
unfolding word total
overflow_add-result c =
    record { fits = omega (arith, and_le_r c.word_of.result (over 127), and_le_r c.word_of-2.result (over 1)) }

pub returns : goal.returns
unfolding word total mask
returns c =
    last-bits-are c.args.marks (eight_bytes c.args.marks (search rules) (λ k. search rules)) c.word_of-2.result c.word_of-2.ensures
    c.args.characters (eight_bytes c.args.characters (search rules) (λ k. search rules)) c.word_of.result c.word_of.ensures
