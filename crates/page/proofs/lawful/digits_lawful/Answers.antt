use mathlib.Core.Path.{refl}
use Rattle.page.specs.Lawful.{digits_lawful}
use Rattle.page.proofs.lawful.digits_lawful.Goals as goal

pub returns : goal.returns
unfolding digits_lawful
returns c = refl
