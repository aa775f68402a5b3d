use native.Mathlib.Omega.{arith}
use Rattle.page.proofs.Heads.{bit_below, five_bytes}
use Rattle.page.proofs.writing.head_bytes.Goals as goal

pub overflow_mul-result-8 : goal.overflow_mul-result-8
overflow_mul-result-8 c = record { fits = omega (arith, bit_below c.args.clean) }

pub overflow_add-result-7 : goal.overflow_add-result-7
overflow_add-result-7 c = record { fits = omega (arith, bit_below c.args.clean) }

pub overflow_add-result-8 : goal.overflow_add-result-8
overflow_add-result-8 c = record { fits = omega (arith, bit_below c.args.clean) }

pub returns : goal.returns
returns c = five_bytes c.args.magazine c.args.header c.args.clean
