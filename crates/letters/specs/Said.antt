-- What is said where English stands in: which value of C12 to C14 has no set.
use Rattle.std.specs.Prelude.{List, [], ◌∷◌, ◌++◌, ℕ, ◌+◌, length}
use Rattle.letters.specs.Sets.{option_of}

-- "English stands in for letter set "
abbrev pub stand_in_words : List ℕ
stand_in_words =
    0x45 ∷ 0x6E ∷ 0x67 ∷ 0x6C ∷ 0x69 ∷ 0x73 ∷ 0x68 ∷ 0x20 ∷ 0x73 ∷ 0x74 ∷ 0x61 ∷ 0x6E ∷ 0x64 ∷ 0x73 ∷ 0x20 ∷ 0x69 ∷ 0x6E ∷ 0x20 ∷ 0x66 ∷ 0x6F ∷ 0x72
    ∷ 0x20 ∷ 0x6C ∷ 0x65 ∷ 0x74 ∷ 0x74 ∷ 0x65 ∷ 0x72 ∷ 0x20 ∷ 0x73 ∷ 0x65 ∷ 0x74 ∷ 0x20 ∷ []

-- and the value
unfoldable pub stand_in_text : ℕ → List ℕ
unfolding option_of
stand_in_text control = stand_in_words ++ ((0x30 + option_of control) ∷ [])

abbrev pub stand_in_size : ℕ
stand_in_size = length stand_in_words + 1
