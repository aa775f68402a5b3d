-- `field::offset_passes` meets its contract: the code's test is the definition's.
use mathlib.Core.Path.{refl}
use Rattle.field.specs.Search.{offset_passes}
use Rattle.field.proofs.offset_passes.Goals as goal

pub returns : goal.returns
unfolding offset_passes
returns c = refl
