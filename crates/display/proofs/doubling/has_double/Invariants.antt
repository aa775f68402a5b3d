use mathlib.Core.Path.{◌≡◌}
use mathlib.Core.Bool.{◌||◌}
use lib.ListN.{drop}
use Rattle.display.specs.Pages.{has_double}
use Rattle.display.proofs.doubling.has_double.Given as goal

abbrev pub invariant-loop-code : goal.invariant-loop-code
invariant-loop-code l = l.found || has_double (drop l.code-index l.codes) ≡ has_double l.codes
