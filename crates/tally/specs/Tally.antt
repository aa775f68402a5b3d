-- What is said of mended bytes, each text with its line feed: of a page "3 bytes mended", and of all lines "3 bytes mended, in 2 of 5 lines".
use Rattle.std.specs.Prelude.{cond, List, [], ◌∷◌, ◌++◌, ℕ, ◌+◌, eqb, length}
use Rattle.laws.specs.Text.{line_feed}
use Rattle.texts.specs.Decimal.{decimal, most_digits}
use Rattle.texts.specs.Held.{held}
use Rattle.texts.specs.declared.Text.{Text}

-- a number, and what stands behind one and behind any other number
unfoldable pub count_text : ℕ → List ℕ → List ℕ → List ℕ
unfolding decimal
count_text count one others = decimal count ++ cond (eqb count 1) one others

-- " byte mended"
abbrev pub byte_mended : List ℕ
byte_mended = 0x20 ∷ 0x62 ∷ 0x79 ∷ 0x74 ∷ 0x65 ∷ 0x20 ∷ 0x6D ∷ 0x65 ∷ 0x6E ∷ 0x64 ∷ 0x65 ∷ 0x64 ∷ []

-- " bytes mended"
abbrev pub bytes_mended : List ℕ
bytes_mended = 0x20 ∷ 0x62 ∷ 0x79 ∷ 0x74 ∷ 0x65 ∷ 0x73 ∷ 0x20 ∷ 0x6D ∷ 0x65 ∷ 0x6E ∷ 0x64 ∷ 0x65 ∷ 0x64 ∷ []

-- ", in "
abbrev pub in_word : List ℕ
in_word = 0x2C ∷ 0x20 ∷ 0x69 ∷ 0x6E ∷ 0x20 ∷ []

-- " of "
abbrev pub of_word : List ℕ
of_word = 0x20 ∷ 0x6F ∷ 0x66 ∷ 0x20 ∷ []

-- " line"
abbrev pub line_word : List ℕ
line_word = 0x20 ∷ 0x6C ∷ 0x69 ∷ 0x6E ∷ 0x65 ∷ []

-- " lines"
abbrev pub lines_word : List ℕ
lines_word = 0x20 ∷ 0x6C ∷ 0x69 ∷ 0x6E ∷ 0x65 ∷ 0x73 ∷ []

-- of a page
unfoldable pub mended_text : ℕ → List ℕ
unfolding count_text
mended_text count = count_text count (byte_mended ++ line_feed) (bytes_mended ++ line_feed)

-- of all lines: how many bytes were mended, in how many lines, and how many lines there were
unfoldable pub share_text : ℕ → ℕ → ℕ → List ℕ
unfolding count_text decimal
share_text mended mended_lines lines =
    count_text mended (byte_mended ++ in_word) (bytes_mended ++ in_word)
    ++ (decimal mended_lines ++ (of_word ++ count_text lines (line_word ++ line_feed) (lines_word ++ line_feed)))

-- ---- how they are held: at the start of an array with room for any of them, with zeros past them

abbrev pub mended_size : ℕ
mended_size = most_digits + length (bytes_mended ++ line_feed)

abbrev pub mended_held : ℕ → Text mended_size
mended_held count = held mended_size (mended_text count)

abbrev pub share_size : ℕ
share_size = most_digits + length (bytes_mended ++ in_word) + (most_digits + length of_word) + (most_digits + length (lines_word ++ line_feed))

abbrev pub share_held : ℕ → ℕ → ℕ → Text share_size
share_held mended mended_lines lines = held share_size (share_text mended mended_lines lines)
