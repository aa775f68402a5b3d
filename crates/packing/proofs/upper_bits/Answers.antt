use native.Mathlib.Omega.{arith}
use lib.Bits.{and_le_r}
use Rattle.laws.specs.Fields.{total}
use Rattle.laws.proofs.Words.{mask, word}
use Rattle.packing.proofs.Back.{bits_up}
use Rattle.packing.proofs.Bits.{single_mask}
use Rattle.packing.proofs.upper_bits.Goals as goal

pub overflow_add-result : goal.overflow_add-result
unfolding mask word total
overflow_add-result c = record { fits = omega (arith, and_le_r c.args.word single_mask) }

pub returns : goal.returns
unfolding mask word total
returns c = bits_up c.args.word c.ranges.word.fits
