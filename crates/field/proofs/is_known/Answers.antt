-- `field::is_known` meets its contract: the code's test is the definition's.
use Rattle.field.specs.Field.{known}
use Rattle.field.proofs.is_known.Goals as goal

pub returns : goal.returns
unfolding known
returns c = rw (c.is_low.ensures, c.is_high.ensures)
