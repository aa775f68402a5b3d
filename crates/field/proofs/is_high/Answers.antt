-- `field::is_high` meets its contract: the code's test is the definition's.
use mathlib.Core.Path.{refl}
use Rattle.field.specs.Field.{high}
use Rattle.field.proofs.is_high.Goals as goal

pub returns : goal.returns
unfolding high
returns c = refl
