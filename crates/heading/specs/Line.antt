-- The line that says what closed: the page and its time, the word, and how many bytes were mended in its own lines. By request 4 of document 02 it says of a clean page
-- where English stands in; of a page in doubt nothing is printed, and so it says nothing of letters.
use Rattle.std.specs.Prelude.{cond, List, [], ◌∷◌, ◌++◌, ℕ, ◌+◌, Option, Some, None, length}
use Rattle.texts.specs.Decimal.{digit_text}
use Rattle.texts.specs.Held.{held}
use Rattle.texts.specs.declared.Text.{Text}
use Rattle.tally.specs.Tally.{mended_size, mended_text}
use Rattle.letters.specs.Said.{stand_in_size, stand_in_text}
use Rattle.letters.specs.Sets.{stands_in}
use Rattle.packet.specs.declared.Header.{Header}
use Rattle.watch.specs.declared.Word.{Word}
use Rattle.watch.specs.declared.Word.TheVariants as word

-- "page 100 at 12:34:"
unfoldable pub heading_text : ℕ → Header → List ℕ
unfolding digit_text
heading_text magazine header =
    0x70 ∷ 0x61 ∷ 0x67 ∷ 0x65 ∷ 0x20 ∷ digit_text magazine ∷ digit_text header.tens ∷ digit_text header.units
    ∷ 0x20 ∷ 0x61 ∷ 0x74 ∷ 0x20 ∷ digit_text header.hours_tens ∷ digit_text header.hours_units ∷ 0x3A
    ∷ digit_text header.minutes_tens ∷ digit_text header.minutes_units ∷ 0x3A ∷ []

-- " clean, "
abbrev pub clean_text : List ℕ
clean_text = 0x20 ∷ 0x63 ∷ 0x6C ∷ 0x65 ∷ 0x61 ∷ 0x6E ∷ 0x2C ∷ 0x20 ∷ []

-- " doubt, "
abbrev pub doubt_text : List ℕ
doubt_text = 0x20 ∷ 0x64 ∷ 0x6F ∷ 0x75 ∷ 0x62 ∷ 0x74 ∷ 0x2C ∷ 0x20 ∷ []

-- " doubt, lines are missing, "
abbrev pub missing_text : List ℕ
missing_text =
    0x20 ∷ 0x64 ∷ 0x6F ∷ 0x75 ∷ 0x62 ∷ 0x74 ∷ 0x2C ∷ 0x20 ∷ 0x6C ∷ 0x69 ∷ 0x6E ∷ 0x65 ∷ 0x73 ∷ 0x20 ∷ 0x61 ∷ 0x72 ∷ 0x65
    ∷ 0x20 ∷ 0x6D ∷ 0x69 ∷ 0x73 ∷ 0x73 ∷ 0x69 ∷ 0x6E ∷ 0x67 ∷ 0x2C ∷ 0x20 ∷ []

-- ", "
abbrev pub comma : List ℕ
comma = 0x2C ∷ 0x20 ∷ []

-- "English stands in for letter set 7, ", where it does
unfoldable pub english_text : ℕ → List ℕ
unfolding stands_in stand_in_text
english_text control = cond (stands_in control) (stand_in_text control ++ comma) []

-- where no page closed there is no word, and no line is said (`announcing/specs/Told.antt`, `page_said`)
unfoldable pub word_text : Option Word → ℕ → List ℕ
unfolding english_text
word_text None control = []
word_text (Some word.Clean) control = clean_text ++ english_text control
word_text (Some word.Doubt) control = doubt_text
word_text (Some word.Missing) control = missing_text

-- "page 100 at 12:34: clean, 3 bytes mended"
unfoldable pub line_text : Option Word → ℕ → Header → ℕ → List ℕ
unfolding heading_text word_text mended_text
line_text which magazine header mended = heading_text magazine header ++ (word_text which header.control ++ mended_text mended)

-- ---- how it is held: at the start of an array with room for the longest, with zeros past it

abbrev pub heading_size : ℕ
heading_size = 18

abbrev pub english_size : ℕ
english_size = stand_in_size + length comma

-- the longest word: clean, where English stands in
abbrev pub word_size : ℕ
word_size = length clean_text + english_size

abbrev pub line_size : ℕ
line_size = heading_size + word_size + mended_size

abbrev pub line_held : List ℕ → Text line_size
line_held text = held line_size text
