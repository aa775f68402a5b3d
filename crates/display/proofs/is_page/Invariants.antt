use mathlib.Core.Path.{◌≡◌}
use mathlib.Core.Bool.{not, ◌&&◌}
use lib.ListN.{drop}
use Rattle.display.specs.Pages.{all_codes}
use Rattle.display.proofs.is_page.Given as goal

abbrev pub invariant-loop-code : goal.invariant-loop-code
invariant-loop-code l = not l.high && all_codes (drop l.code-index l.codes) ≡ all_codes l.codes
