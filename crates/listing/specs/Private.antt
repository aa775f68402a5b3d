-- What the crate's private functions answer. No public promise cites it.
use Rattle.std.specs.Prelude.{◌≡◌, List, ℕ, ◌≤◌, length, None}
use Rattle.texts.specs.declared.Text.{Text}
use Rattle.listing.specs.Held.{line_of, room}
use Rattle.listing.specs.declared.Listed.{Listed}

-- a line after which nothing is listed
abbrev pub stopped : Text room → Listed
stopped line = record { line = line; next = None }

-- a line that holds a text which it has room for
pub record Written (line : Text room) (text : List ℕ) : Type 0 where
  pub is : line ≡ line_of text
  pub fits : length text ≤ room
