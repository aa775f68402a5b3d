-- How a text is held: at the start of an array of 64 bytes, with zeros past it, and its length. And what the answers of the crate's functions are.
use Rattle.std.specs.Prelude.{List, ℕ, Some, None}
use Rattle.std.specs.Prelude as std
use Rattle.std.proofs.Math.Option.{Option, none, some}
use Rattle.texts.specs.Held as texts
use Rattle.texts.specs.declared.Text.{Text}
use Rattle.listing.specs.Lines.{Told}
use Rattle.listing.specs.declared.Listed.{Listed}

abbrev pub room : ℕ
room = 64

-- zeros past the text
abbrev pub line_of : List ℕ → Text room
line_of text = texts.held room text

pub record Held : Type 0 where
  pub line : Text room
  pub next : Option ℕ

unfoldable pub held : Told → Held
held told = record { line = line_of told.text; next = told.next }

unfoldable pub next_paper : std.Option ℕ → Option ℕ
next_paper (Some place) = some place
next_paper None = none

unfoldable pub listed_paper : Listed → Held
unfolding next_paper
listed_paper listed = record { line = listed.line; next = next_paper listed.next }
