-- Document 02, request 4: what is proved once over all the sets; and of UTF-8, over all letters, that its forms and nothing else are read. The laws are types, and their
-- proofs stand in proofs/.
use Rattle.std.specs.Prelude.{true, false, List, [], ◌++◌, ◌≡◌, ℕ, ◌<◌, ◌≤◌, length}
use Rattle.std.proofs.Math.Option.{some}
use Rattle.laws.specs.Every.{every}
use Rattle.letters.specs.Sets.{is_national, letter_of}
use Rattle.letters.specs.Utf8.{LetterRead, first_letter, is_letter, letters_of, most_of_letters, utf8, utf8_text}

-- codes outside the thirteen give the same letter in each set, which is the code itself; and every letter's UTF-8 form reads back as that letter, with nothing left. A code
-- is a byte: a larger number could be a surrogate
pub record OverAllSets : Type 0 where
  pub outside : (control code : ℕ) → is_national code ≡ false → letter_of control code ≡ code
  pub read_back : (control code : ℕ) → code < 256 → first_letter (utf8 (letter_of control code)) ≡ some (record { letter = letter_of control code; left = [] })
  pub short : (control code : ℕ) → code < 256 → length (utf8 (letter_of control code)) ≤ most_of_letters

-- the form of every letter is read as that letter, whatever stands behind it; what is read is a letter in its form, so that there is no second one; and a text of letters is
-- read as these letters
pub record OnlyForms : Type 0 where
  pub forms : (letter : ℕ) → is_letter letter ≡ true → (left : List ℕ) → first_letter (utf8 letter ++ left) ≡ some (record { letter = letter; left = left })
  pub no_other : (bytes : List ℕ) (found : LetterRead) → first_letter bytes ≡ some found
      → (is_letter found.letter ≡ true) × (bytes ≡ utf8 found.letter ++ found.left)
  pub texts : (letters : List ℕ) → every is_letter letters ≡ true → letters_of (utf8_text letters) ≡ some letters
