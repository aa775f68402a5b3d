use mathlib.Core.Bool.{and_assoc, and-true}
use Rattle.page.specs.Lawful.{header_fits}
use Rattle.page.proofs.lawful.header_fits.Goals as goal

pub returns : goal.returns
unfolding header_fits
returns c = simp (and_assoc, and-true)
