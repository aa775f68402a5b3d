use native.Mathlib.Omega.{arith}
use Rattle.laws.specs.Digits.{binary, weight}
use Rattle.packet.specs.Headers.{control_of, lowest_first}
use Rattle.packet.proofs.control_of.Goals as goal

pub overflow_mul-result-4 : goal.overflow_mul-result-4
unfolding binary lowest_first weight control_of
overflow_mul-result-4 c = omega arith

pub overflow_add-result-3 : goal.overflow_add-result-3
unfolding binary lowest_first weight control_of
overflow_add-result-3 c = omega arith

pub overflow_add-result-4 : goal.overflow_add-result-4
unfolding binary lowest_first weight control_of
overflow_add-result-4 c = omega arith

pub returns : goal.returns
unfolding binary lowest_first weight control_of
returns c = omega arith
