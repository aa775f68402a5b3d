-- What a byte was heard to hold: a message or a character, or none. For contracts of functions that are not public, here and in the layers above: no
-- promise rests on this word.
use Rattle.std.specs.Prelude as code
use Rattle.std.proofs.Math.Option.{Option, none, some}

-- an Option of the code as one of these definitions
unfoldable pub heard : {A : Type 0} → code.Option A → Option A
heard (code.Some value) = some value
heard code.None = none
