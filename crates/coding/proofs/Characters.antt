-- A character's byte reads back as that character.
use mathlib.Core.Path.{◌≡◌}
use mathlib.Core.Option.{some}
use Prim.Native.Nat.{ℕ, ◌<◌}
use lib.Dec.{T}
use Rattle.laws.specs.Below.{all_below}
use Rattle.laws.proofs.Below.{at}
use Rattle.laws.proofs.Found.{is, is_it}
use Rattle.coding.specs.Characters.{character, sent_character}

inverts_each : T (all_below 128 (λ code. is code (character (sent_character code))))
unfolding all_below character sent_character
inverts_each = tt

pub inverts : (code : ℕ) → code < 128 → character (sent_character code) ≡ some code
inverts code h = is_it code (character (sent_character code)) (at 128 (λ n. is n (character (sent_character n))) inverts_each code h)
