-- Texts as lists of bytes.
use Rattle.std.specs.Prelude.{List, [], ◌∷◌, ◌++◌, ℕ, ◌+◌, ◌-◌, ◌/◌, ◌%◌, length, replicate}

-- what ends a line
abbrev pub line_feed : List ℕ
line_feed = 0x0A ∷ []

-- how a text is held in an array: at its start, with zeros past it
abbrev pub padded : ℕ → List ℕ → List ℕ
padded room text = text ++ replicate (room - length text) 0

-- "refused ", a number of two digits, and a line feed
abbrev pub refused_text : ℕ → List ℕ
refused_text number =
    (0x72 ∷ 0x65 ∷ 0x66 ∷ 0x75 ∷ 0x73 ∷ 0x65 ∷ 0x64 ∷ 0x20 ∷ []) ++ ((0x30 + number / 10) ∷ (0x30 + number % 10) ∷ line_feed)
