-- A text in a room of its own: what is said by it, how it is held, and how it grows.
use Rattle.std.specs.Prelude.{cond, List, ◌++◌, ◌≡◌, ℕ, ◌+◌, ◌≤◌, ltb, length, take}
use Rattle.laws.specs.Text.{padded}
use Rattle.texts.specs.Put.{laid_at}
use Rattle.texts.specs.declared.Text.{Text}

-- its first bytes, as many as are used
abbrev pub text_of : {room : ℕ} → Text room → List ℕ
text_of text = take text.used text.bytes

-- held at the start of a room, with zeros past it
unfoldable pub held : (room : ℕ) → List ℕ → Text room
held room text = record { bytes = padded room text; used = length text }

-- one more text put behind it; where there is no room for that one, nothing is put (`Put.antt`, `PutsWhole`)
unfoldable pub added : {room : ℕ} → Text room → List ℕ → Text room
added text more =
    cond (ltb (length text.bytes) (text.used + length more)) text
    (record { bytes = laid_at text.bytes text.used more; used = text.used + length more })

-- a text was put behind whatever was held, where it fits
pub record Adds {room : ℕ} (before : Text room) (more : List ℕ) (after : Text room) : Type 0 where
  pub holds : (text : List ℕ) → before ≡ held room text → length text + length more ≤ room → after ≡ held room (text ++ more)
