use native.Mathlib.Omega.{arith}
use lib.Bits.{and_le_l, and_le_r}
use Rattle.laws.specs.Fields.{total}
use Rattle.laws.proofs.Words.{mask}
use Rattle.packing.proofs.Back.{back_one, bytes-together, bytes_alone, nine_mask, pair_mask, together-below}
use Rattle.packing.proofs.Bits.{single_mask}
use Rattle.packing.proofs.together.Goals as goal

pub overflow_sub-bytes : goal.overflow_sub-bytes
unfolding mask total
overflow_sub-bytes c = and_le_l c.args.word single_mask

pub overflow_sub-twos : goal.overflow_sub-twos
unfolding mask total
overflow_sub-twos c = omega (arith, and_le_l (bytes_alone c.args.word) nine_mask)

pub overflow_mul-fours : goal.overflow_mul-fours
unfolding mask total
overflow_mul-fours c = record { fits = omega (arith, and_le_r (back_one (bytes_alone c.args.word)) pair_mask) }

pub overflow_sub-fours : goal.overflow_sub-fours
unfolding mask total
overflow_sub-fours c = omega (arith, and_le_l (back_one (bytes_alone c.args.word)) pair_mask)

pub returns : goal.returns
unfolding mask total
returns c = (bytes-together c.args.word c.ranges.word.fits, together-below c.args.word c.ranges.word.fits)
