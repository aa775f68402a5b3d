-- Worked rows, computed from the definitions: the start of a row's text is that of its first codes.
use mathlib.Core.Path.{◌≡◌, refl}
use mathlib.Core.List.{List, [], ◌∷◌, map}
use Prim.Native.Nat.{ℕ}
use Rattle.letters.specs.Sets.{letter_of}
use Rattle.letters.specs.Utf8.{utf8_text}
use Rattle.display.specs.Display.{start, along}
use Rattle.display.specs.Pages.{under}
use Rattle.printing.specs.Printed.{cell_byte}

abbrev bytes_of : List ℕ → List ℕ
bytes_of codes = map cell_byte (along start codes)

-- marked case 10: a space, and then mosaics, the last one blank
pub mosaics_held : bytes_of (0x11 ∷ 0x7F ∷ 0x1E ∷ 0x12 ∷ 0x20 ∷ []) ≡ 0x20 ∷ 0x3F ∷ 0x3F ∷ 0x3F ∷ 0x3F ∷ []
unfolding cell_byte along start
mosaics_held = refl

-- concealed letters as letters, and 7F
pub concealed : bytes_of (0x18 ∷ 0x41 ∷ 0x7F ∷ 0x7E ∷ []) ≡ 0x20 ∷ 0x41 ∷ 0x3F ∷ 0x7E ∷ []
unfolding cell_byte along start
concealed = refl

-- hold in letters shows a space; among mosaics the codes 40 to 5F are letters
pub letters : bytes_of (0x1E ∷ 0x01 ∷ 0x11 ∷ 0x41 ∷ 0x61 ∷ []) ≡ 0x20 ∷ 0x20 ∷ 0x20 ∷ 0x41 ∷ 0x3F ∷ []
unfolding cell_byte along start
letters = refl

-- below a headline: a lower half prints its letter again, and nothing stands under what is not double
pub lower_again : map cell_byte (map under (along start (0x41 ∷ 0x0D ∷ 0x42 ∷ 0x43 ∷ 0x0C ∷ 0x44 ∷ [])))
    ≡ 0x20 ∷ 0x20 ∷ 0x42 ∷ 0x43 ∷ 0x20 ∷ 0x20 ∷ []
unfolding cell_byte under along start
lower_again = refl

-- ---- in UTF-8

abbrev utf8_of : ℕ → List ℕ → List ℕ
utf8_of control bytes = utf8_text (map (letter_of control) bytes)

-- English: pounds, five, a half; in German the same codes are a number sign and an O with two dots
pub pounds : utf8_of 0 (bytes_of (0x23 ∷ 0x35 ∷ 0x5C ∷ [])) ≡ 0xC2 ∷ 0xA3 ∷ 0x35 ∷ 0xC2 ∷ 0xBD ∷ []
unfolding utf8_text letter_of cell_byte along start
pounds = refl

pub german : utf8_of 1 (bytes_of (0x23 ∷ 0x35 ∷ 0x5C ∷ [])) ≡ 0x23 ∷ 0x35 ∷ 0xC3 ∷ 0x96 ∷ []
unfolding utf8_text letter_of cell_byte along start
german = refl

-- among mosaics an arrow of 5B, in three bytes; 23 is a mosaic there
pub among_mosaics : utf8_of 0 (bytes_of (0x11 ∷ 0x5B ∷ 0x23 ∷ [])) ≡ 0x20 ∷ 0xE2 ∷ 0x86 ∷ 0x90 ∷ 0x3F ∷ []
unfolding utf8_text letter_of cell_byte along start
among_mosaics = refl

-- below a headline the letter again
pub lower_pounds : utf8_of 0 (map cell_byte (map under (along start (0x0D ∷ 0x23 ∷ 0x35 ∷ [])))) ≡ 0x20 ∷ 0xC2 ∷ 0xA3 ∷ 0x35 ∷ []
unfolding utf8_text letter_of cell_byte under along start
lower_pounds = refl
