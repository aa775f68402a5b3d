-- What the code asks of an answer's closing word, by the word's number.
use mathlib.Core.Path.{◌≡◌, refl}
use mathlib.Core.Bool.{Bool, true, false, not}
use lib.Dec.{eqb}
use Rattle.std.specs.Prelude.{Option, Some, None, is_some}
use Rattle.receiver.specs.Entries.{closing_number}
use Rattle.receiver.specs.declared.Closing.{Closing}
use Rattle.receiver.specs.declared.Closing.TheVariants.{Clean, Doubt}

pub unclosed : (word : Option Closing) → eqb (closing_number word) 0 ≡ not (is_some word)
unfolding closing_number
unclosed None = refl
unclosed (Some Clean) = refl
unclosed (Some Doubt) = refl

pub not_not : (b : Bool) → not (not b) ≡ b
not_not true = refl
not_not false = refl
