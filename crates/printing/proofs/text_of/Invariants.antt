use mathlib.Core.Path.{◌≡◌}
use Rattle.printing.proofs.Pages.{laid}
use Rattle.printing.proofs.text_of.Given as goal

abbrev pub invariant-loop-place : goal.invariant-loop-place
invariant-loop-place l = l.text ≡ laid l.cells l.place
