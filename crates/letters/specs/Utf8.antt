-- UTF-8: the form of a letter in one to four bytes, and a general reader of such forms. The reader takes a form apart byte by byte, and asks only then whether what it has read
-- is a letter and long enough for so many bytes. It refuses overlong forms, surrogates, numbers past 10FFFF, stray bytes and missing ones.
use Rattle.std.specs.Prelude.{Bool, not, cond, ◌&&◌, List, [], ◌∷◌, ◌++◌, ℕ, zero, suc, ◌+◌, ◌-◌, ◌*◌, ◌/◌, ◌%◌, leb, ltb, length}
use Rattle.std.proofs.Math.Option.{Option, none, some}
use Rattle.texts.specs.declared.Text.{Text}
use Rattle.texts.specs.Held.{held}

-- ---- letters

abbrev pub last_letter : ℕ
last_letter = 0x10FFFF

-- D800 to DFFF
unfoldable pub is_surrogate : ℕ → Bool
is_surrogate number = leb 0xD800 number && leb number 0xDFFF

-- the numbers that have a form
unfoldable pub is_letter : ℕ → Bool
unfolding is_surrogate
is_letter number = leb number last_letter && not (is_surrogate number)

-- the least letters of two, three and four bytes
abbrev pub least_of_two : ℕ
least_of_two = 0x80

abbrev pub least_of_three : ℕ
least_of_three = 0x800

abbrev pub least_of_four : ℕ
least_of_four = 0x10000

-- ---- writing

-- a byte behind the first: 80, and six bits
abbrev pub behind : ℕ → ℕ
behind bits = 0x80 + bits % 64

-- the first byte tells by its high bits how many there are, and has the highest bits of the letter; each byte behind it has the next six
unfoldable pub form_of : ℕ → List ℕ
form_of letter =
    cond (ltb letter least_of_two) (letter ∷ [])
    (cond (ltb letter least_of_three) ((0xC0 + letter / 64) ∷ behind letter ∷ [])
    (cond (ltb letter least_of_four) ((0xE0 + letter / 4096) ∷ behind (letter / 64) ∷ behind letter ∷ [])
    ((0xF0 + letter / 262144) ∷ behind (letter / 4096) ∷ behind (letter / 64) ∷ behind letter ∷ [])))

-- a number that is no letter has no form
unfoldable pub utf8 : ℕ → List ℕ
unfolding is_letter form_of
utf8 number = cond (is_letter number) (form_of number) []

-- letters one behind the other
unfoldable pub utf8_text : List ℕ → List ℕ
unfolding utf8
utf8_text [] = []
utf8_text (letter ∷ letters) = utf8 letter ++ utf8_text letters

-- ---- reading

-- what is read at the start of some bytes, and the bytes that are left
pub record LetterRead : Type 0 where
  pub letter : ℕ
  pub left : List ℕ

-- so many bytes behind the first, each of 80 to BF with six bits more: a missing one is refused, and so is any other byte
unfoldable pub following : ℕ → ℕ → List ℕ → Option LetterRead
following zero bits bytes = some (record { letter = bits; left = bytes })
following (suc count) bits [] = none
following (suc count) bits (byte ∷ bytes) =
    cond (leb 0x80 byte && leb byte 0xBF) (following count (bits * 64 + (byte - 0x80)) bytes) none

-- what has a shorter form too is refused as overlong; and what is no letter is refused
unfoldable pub if_well_formed : ℕ → Option LetterRead → Option LetterRead
unfolding is_letter
if_well_formed least none = none
if_well_formed least (some found) = cond (leb least found.letter && is_letter found.letter) (some found) none

-- by the first byte: up to 7F it is the letter itself; 80 to BF is a stray byte; C0 to DF has one byte behind it, E0 to EF two, F0 to F7 three; no form begins with F8 or
-- more
unfoldable pub first_letter : List ℕ → Option LetterRead
unfolding following if_well_formed
first_letter [] = none
first_letter (byte ∷ bytes) =
    cond (ltb byte 0x80) (some (record { letter = byte; left = bytes }))
    (cond (ltb byte 0xC0) none
    (cond (ltb byte 0xE0) (if_well_formed least_of_two (following 1 (byte - 0xC0) bytes))
    (cond (ltb byte 0xF0) (if_well_formed least_of_three (following 2 (byte - 0xE0) bytes))
    (cond (ltb byte 0xF8) (if_well_formed least_of_four (following 3 (byte - 0xF0) bytes)) none))))

-- a letter in front of others
abbrev pub in_front : ℕ → Option (List ℕ) → Option (List ℕ)
in_front letter none = none
in_front letter (some letters) = some (letter ∷ letters)

-- the letter that was read, and the letters of what is left
abbrev pub read_on : (List ℕ → Option (List ℕ)) → Option LetterRead → Option (List ℕ)
read_on further none = none
read_on further (some found) = in_front found.letter (further found.left)

-- all letters of some bytes, of which there are at most so many; none where a byte belongs to no form
unfoldable pub letters_up_to : ℕ → List ℕ → Option (List ℕ)
unfolding first_letter
letters_up_to zero [] = some []
letters_up_to zero (byte ∷ bytes) = none
letters_up_to (suc bound) [] = some []
letters_up_to (suc bound) (byte ∷ bytes) = read_on (letters_up_to bound) (first_letter (byte ∷ bytes))

-- a letter has at least one byte
unfoldable pub letters_of : List ℕ → Option (List ℕ)
unfolding letters_up_to
letters_of bytes = letters_up_to (length bytes) bytes

-- ---- how a form is held: at the start of four bytes, with zeros past it

abbrev pub most_bytes : ℕ
most_bytes = 4

-- the letters of the sets have no more than three (`Laws.antt`, `short`)
abbrev pub most_of_letters : ℕ
most_of_letters = 3

abbrev pub form_held : List ℕ → Text most_bytes
form_held form = held most_bytes form
