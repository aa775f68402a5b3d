-- What a read tells of the buffer. Which bytes were read no contract can say.
use Rattle.std.specs.Prelude.{List, ◌≡◌, ℕ, ◌+◌, ◌≤◌, ◌<◌, length, take, Result, Ok, Err}
use Rattle.console.specs.declared.Stop.{Stop}

-- so many bytes, one or more, at the buffer's start
abbrev pub Read : Result ℕ Stop → List ℕ → Type 0
Read (Ok count) buffer = (0 < count) × (count ≤ length buffer)
Read (Err stop) buffer = Unit {0}

-- so many bytes from a place on, none only where there was no room for them
abbrev pub Within : Result ℕ Stop → ℕ → List ℕ → Type 0
Within (Ok count) place buffer = place < length buffer → (0 < count) × (place + count ≤ length buffer)
Within (Err stop) place buffer = Unit {0}

-- and what lies before the place is as it was
pub record ReadBehind (got : Result ℕ Stop) (place : ℕ) (before after : List ℕ) : Type 0 where
  pub within : Within got place before
  pub kept : take place after ≡ take place before

-- a count of a buffer's first bytes: no more than there are
abbrev pub IsPrefixLen : ℕ → List ℕ → Type 0
IsPrefixLen count buffer = (count ≤ length buffer) × (count ≡ length (take count buffer))
