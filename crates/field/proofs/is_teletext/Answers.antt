-- `field::is_teletext` meets its contract: the code's test is the definition's.
use mathlib.Core.Path.{refl}
use Rattle.field.specs.Field.{teletext_id}
use Rattle.field.proofs.is_teletext.Goals as goal

pub returns : goal.returns
unfolding teletext_id
returns c = refl
