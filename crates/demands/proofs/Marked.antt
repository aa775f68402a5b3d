-- The thirteen marked cases, by one claim over their list, computed.
use mathlib.Core.Path.{◌≡◌, refl}
use lib.ListN.{length}
use Rattle.demands.specs.Marked.{CasesHold, marked_cases}

pub cases_hold : CasesHold
unfolding marked_cases
cases_hold = refl

pub cases_are_thirteen : length marked_cases ≡ 13
unfolding marked_cases
cases_are_thirteen = refl
