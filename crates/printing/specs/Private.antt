-- For the contracts of private functions: no promise rests on these words.
use Rattle.std.specs.Prelude.{List, map, ℕ, ◌<◌, ◌≤◌, length}
use Rattle.letters.specs.Sets.{letter_in, letter_of, stands_in}
use Rattle.letters.specs.Utf8.{most_of_letters, utf8, utf8_text}
use Rattle.texts.specs.Held.{held}
use Rattle.printing.specs.Letters.{utf8_page_size}
use Rattle.printing.specs.declared.Utf8Page.{Utf8Page}

-- a set whose letters all have a form, of few bytes
abbrev pub Spells : List ℕ → Type 0
Spells set = (code : ℕ) → code < 256 → (1 ≤ length (utf8 (letter_in set code))) × (length (utf8 (letter_in set code)) ≤ most_of_letters)

-- a page that is shown, by its text before its letters were looked up
unfoldable pub spelled_page : ℕ → List ℕ → Utf8Page
unfolding stands_in letter_of utf8_text held
spelled_page control text =
    let letters : List ℕ = utf8_text (map (letter_of control) text) in
    record { english = stands_in control; text = held utf8_page_size letters }
