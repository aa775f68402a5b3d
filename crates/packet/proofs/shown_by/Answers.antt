use native.Mathlib.Omega.{arith}
use Rattle.packet.specs.Addresses.{shown}
use Rattle.coding.specs.Heard.{heard}
use Rattle.coding.proofs.Heard.{small_good}
use Rattle.packet.proofs.shown_by.Goals as goal

pub overflow_mul-result : goal.overflow_mul-result
overflow_mul-result c = omega (arith, small_good _ _ c.requires.1 c.in-Some-Some.is-1)

pub overflow_add-result : goal.overflow_add-result
overflow_add-result c = omega (arith, small_good _ _ c.requires.0 c.in-Some-Some.is-0, small_good _ _ c.requires.1 c.in-Some-Some.is-1)

pub returns-in-Some-Some : goal.returns-in-Some-Some
unfolding heard shown
returns-in-Some-Some c = rw (c.in-Some-Some.is-0, c.in-Some-Some.is-1, c.magazine_of.ensures)

pub returns-in-Some-None : goal.returns-in-Some-None
unfolding heard shown
returns-in-Some-None c = rw (c.in-Some-None.is-0, c.in-Some-None.is-1, c.magazine_of-in-Some-None.ensures)

pub returns-in-None-Some : goal.returns-in-None-Some
unfolding heard shown
returns-in-None-Some c = rw (c.in-None-Some.is-0, c.in-None-Some.is-1)

pub returns-in-None-None : goal.returns-in-None-None
unfolding heard shown
returns-in-None-None c = rw (c.in-None-None.is-0, c.in-None-None.is-1)
