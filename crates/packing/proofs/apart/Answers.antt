use native.Mathlib.Omega.{arith}
use lib.Bits.{and_le_r}
use Rattle.laws.specs.Fields.{total}
use Rattle.laws.proofs.Words.{mask}
use Rattle.packing.proofs.Moves.{fours, moved_apart, one_mask, two_mask, twos}
use Rattle.packing.proofs.apart.Goals as goal

pub overflow_mul-twos : goal.overflow_mul-twos
unfolding mask total
overflow_mul-twos c = record { fits = omega (arith, and_le_r (fours c.args.bytes) two_mask) }

pub overflow_add-twos : goal.overflow_add-twos
unfolding mask total
overflow_add-twos c = record { fits = omega (arith, and_le_r (fours c.args.bytes) two_mask) }

pub overflow_add-result : goal.overflow_add-result
unfolding mask total
overflow_add-result c =
    record { fits = omega (arith, and_le_r (fours c.args.bytes) two_mask, and_le_r (twos c.args.bytes) one_mask) }

pub returns : goal.returns
unfolding mask total
returns c = moved_apart c.args.bytes c.requires
