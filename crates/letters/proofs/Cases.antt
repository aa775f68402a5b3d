-- Worked values, computed from the definitions. Of UTF-8 those that RFC 3629 prints in its section 7, both ways, and forms that its section 3 rules out; of the sets the pound sign, and
-- the codes that tell German from Swedish and C12 from C14.
use mathlib.Core.Path.{◌≡◌, refl}
use mathlib.Core.Bool.{Bool, true, false}
use mathlib.Core.List.{List, [], ◌∷◌, map}
use mathlib.Core.Option.{Option, none, some}
use Prim.Native.Nat.{ℕ}
use lib.Dec.{T}
use Rattle.laws.specs.Every.{every}
use Rattle.letters.specs.Sets.{letter_of, stands_in}
use Rattle.letters.specs.Utf8.{LetterRead, first_letter, letters_of, utf8_text}

-- ---- "A", not identical to, Alpha, "."

pub identical_written : utf8_text (0x41 ∷ 0x2262 ∷ 0x391 ∷ 0x2E ∷ []) ≡ 0x41 ∷ 0xE2 ∷ 0x89 ∷ 0xA2 ∷ 0xCE ∷ 0x91 ∷ 0x2E ∷ []
unfolding utf8_text
identical_written = refl

pub identical_read : letters_of (0x41 ∷ 0xE2 ∷ 0x89 ∷ 0xA2 ∷ 0xCE ∷ 0x91 ∷ 0x2E ∷ []) ≡ some (0x41 ∷ 0x2262 ∷ 0x391 ∷ 0x2E ∷ [])
unfolding letters_of
identical_read = refl

-- ---- three of three bytes: the Korean language, the Japanese language

pub korean_written : utf8_text (0xD55C ∷ 0xAD6D ∷ 0xC5B4 ∷ []) ≡ 0xED ∷ 0x95 ∷ 0x9C ∷ 0xEA ∷ 0xB5 ∷ 0xAD ∷ 0xEC ∷ 0x96 ∷ 0xB4 ∷ []
unfolding utf8_text
korean_written = refl

pub korean_read : letters_of (0xED ∷ 0x95 ∷ 0x9C ∷ 0xEA ∷ 0xB5 ∷ 0xAD ∷ 0xEC ∷ 0x96 ∷ 0xB4 ∷ []) ≡ some (0xD55C ∷ 0xAD6D ∷ 0xC5B4 ∷ [])
unfolding letters_of
korean_read = refl

pub japanese_written : utf8_text (0x65E5 ∷ 0x672C ∷ 0x8A9E ∷ []) ≡ 0xE6 ∷ 0x97 ∷ 0xA5 ∷ 0xE6 ∷ 0x9C ∷ 0xAC ∷ 0xE8 ∷ 0xAA ∷ 0x9E ∷ []
unfolding utf8_text
japanese_written = refl

pub japanese_read : letters_of (0xE6 ∷ 0x97 ∷ 0xA5 ∷ 0xE6 ∷ 0x9C ∷ 0xAC ∷ 0xE8 ∷ 0xAA ∷ 0x9E ∷ []) ≡ some (0x65E5 ∷ 0x672C ∷ 0x8A9E ∷ [])
unfolding letters_of
japanese_read = refl

-- ---- one of four bytes, behind a byte order mark

pub stump_written : utf8_text (0xFEFF ∷ 0x233B4 ∷ []) ≡ 0xEF ∷ 0xBB ∷ 0xBF ∷ 0xF0 ∷ 0xA3 ∷ 0x8E ∷ 0xB4 ∷ []
unfolding utf8_text
stump_written = refl

pub stump_read : letters_of (0xEF ∷ 0xBB ∷ 0xBF ∷ 0xF0 ∷ 0xA3 ∷ 0x8E ∷ 0xB4 ∷ []) ≡ some (0xFEFF ∷ 0x233B4 ∷ [])
unfolding letters_of
stump_read = refl

-- ---- what is refused

abbrev is_refused : Option LetterRead → Bool
is_refused none = true
is_refused (some found) = false

-- overlong forms of 00, 7F, 2F and FFFF
abbrev overlong : List (List ℕ)
overlong = (0xC0 ∷ 0x80 ∷ []) ∷ (0xC1 ∷ 0xBF ∷ []) ∷ (0xE0 ∷ 0x80 ∷ 0xAF ∷ []) ∷ (0xF0 ∷ 0x8F ∷ 0xBF ∷ 0xBF ∷ []) ∷ []

-- the first and the last surrogate, and the first number past 10FFFF
abbrev no_letters : List (List ℕ)
no_letters = (0xED ∷ 0xA0 ∷ 0x80 ∷ []) ∷ (0xED ∷ 0xBF ∷ 0xBF ∷ []) ∷ (0xF4 ∷ 0x90 ∷ 0x80 ∷ 0x80 ∷ []) ∷ []

-- a byte behind no first, one that begins no form, and a letter in the place of a byte behind
abbrev stray : List (List ℕ)
stray = (0x80 ∷ []) ∷ (0xBF ∷ 0x41 ∷ []) ∷ (0xF8 ∷ 0x88 ∷ 0x80 ∷ 0x80 ∷ 0x80 ∷ []) ∷ (0xFF ∷ []) ∷ (0xC2 ∷ 0x41 ∷ []) ∷ (0xE2 ∷ 0x86 ∷ 0xC0 ∷ []) ∷ []

abbrev missing : List (List ℕ)
missing = [] ∷ (0xC2 ∷ []) ∷ (0xE2 ∷ 0x86 ∷ []) ∷ (0xF0 ∷ 0xA3 ∷ 0x8E ∷ []) ∷ []

abbrev all_refused : List (List ℕ) → Bool
all_refused forms = every (λ (bytes : List ℕ). is_refused (first_letter bytes)) forms

pub overlong_refused : T (all_refused overlong)
unfolding every first_letter
overlong_refused = tt

pub no_letters_refused : T (all_refused no_letters)
unfolding every first_letter
no_letters_refused = tt

pub stray_refused : T (all_refused stray)
unfolding every first_letter
stray_refused = tt

pub missing_refused : T (all_refused missing)
unfolding every first_letter
missing_refused = tt

-- ---- letters under control bits

-- 23 in the sets 0 to 7: pound, number sign, number sign, pound, e acute, c cedilla, number sign, and the English pound
pub pounds : map (λ (control : ℕ). letter_of control 0x23) (0 ∷ 1 ∷ 2 ∷ 3 ∷ 4 ∷ 5 ∷ 6 ∷ 7 ∷ []) ≡ 0xA3 ∷ 0x23 ∷ 0x23 ∷ 0xA3 ∷ 0xE9 ∷ 0xE7 ∷ 0x23 ∷ 0xA3 ∷ []
unfolding letter_of
pounds = refl

-- 5D is a German U with two dots and a Swedish A with a ring; C12 alone is French, and C14 alone German
pub german_and_swedish : map (λ (control : ℕ). letter_of control 0x5D) (1 ∷ 2 ∷ 4 ∷ []) ≡ 0xDC ∷ 0xC5 ∷ 0xF9 ∷ []
unfolding letter_of
german_and_swedish = refl

-- of all values 7 alone has no set, whatever the other control bits are
pub seven : map stands_in (6 ∷ 7 ∷ 2040 ∷ 2047 ∷ []) ≡ false ∷ true ∷ false ∷ true ∷ []
unfolding stands_in
seven = refl
