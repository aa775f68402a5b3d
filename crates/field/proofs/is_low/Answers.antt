-- `field::is_low` meets its contract: the code's test is the definition's.
use mathlib.Core.Path.{refl}
use Rattle.field.specs.Field.{low}
use Rattle.field.proofs.is_low.Goals as goal

pub returns : goal.returns
unfolding low
returns c = refl
