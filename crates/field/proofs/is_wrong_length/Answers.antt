-- `field::is_wrong_length` meets its contract: a length of 44 is wrong nowhere, and for any other the test is the definition's.
use mathlib.Core.Bool.{and-true, and-false}
use borrow.Author.Tests.{eq-eqb, ne_eqb}
use Rattle.field.specs.Field.{wrong_length}
use Rattle.field.proofs.is_wrong_length.Goals as goal

pub returns-then-length-eq-LENGTH : goal.returns-then-length-eq-LENGTH
unfolding wrong_length
returns-then-length-eq-LENGTH c = rw (eq-eqb _ _ c.if-length-eq-LENGTH.true, and-false _)

pub returns : goal.returns
unfolding wrong_length
returns c =
    rw (ne_eqb _ _ c.if-length-eq-LENGTH.false, and-true _, c.is_low.ensures, c.is_high.ensures, c.is_teletext.ensures)
