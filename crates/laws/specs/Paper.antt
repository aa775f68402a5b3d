-- The shape of an answer of document 01: its number, which some answers have not, and its values in the order in which the paper names them.
use Rattle.std.specs.Prelude.{List, [], ◌∷◌, ℕ}
use Rattle.std.proofs.Math.Option.{Option, none, some}

pub record Paper : Type 0 where
  pub number : Option ℕ
  pub values : List ℕ

-- an accepted answer has the number 0
unfoldable pub accepted : List ℕ → Paper
accepted values = record { number = some 0; values = values }

-- a refusal by its number, with its values where it has any
unfoldable pub refused_by : ℕ → List ℕ → Paper
refused_by number values = record { number = some number; values = values }

-- an answer without a number, and with no value
unfoldable pub unnumbered : Paper
unnumbered = record { number = none; values = [] }

-- one value, or an answer without a number where there is none
unfoldable pub one_or_none : Option ℕ → Paper
unfolding accepted unnumbered
one_or_none none = unnumbered
one_or_none (some value) = accepted (value ∷ [])
