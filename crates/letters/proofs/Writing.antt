-- The form of a letter by how many bytes it has, and texts of letters.
use mathlib.Core.Path.{◌≡◌, refl, sym, ◌∙◌, ap}
use mathlib.Core.Bool.{true}
use mathlib.Core.List.{List, [], ◌∷◌, ◌++◌, append_assoc, append-nil}
use Prim.Native.Nat.{ℕ, ◌+◌, ◌/◌, ◌<◌, ◌≤◌}
use native.Mathlib.Omega.{arith}
use borrow.Author.Tests.{le-leb, le-ltb, leb-true, lt-leb, lt-ltb}
use Rattle.laws.proofs.Bools.{both_true}
use Rattle.letters.specs.Utf8.{behind, is_letter, last_letter, least_of_four, least_of_three, least_of_two, utf8, utf8_text}

-- below the surrogates every number is a letter
pub is_letter_below : (number : ℕ) → number < 0xD800 → is_letter number ≡ true
unfolding is_letter
is_letter_below number h = rw (le-leb number last_letter (omega arith), lt-leb 0xD800 number h)

pub at_most_last : (number : ℕ) → is_letter number ≡ true → number ≤ last_letter
unfolding is_letter
at_most_last number e = leb-true number last_letter (both_true _ _ e).0

module _ (letter : ℕ) where
  pub of_one : letter < least_of_two → utf8 letter ≡ letter ∷ []
  unfolding utf8
  of_one h = rw (is_letter_below letter (omega arith), lt-ltb letter least_of_two h)

  pub of_two : least_of_two ≤ letter → letter < least_of_three → utf8 letter ≡ (0xC0 + letter / 64) ∷ behind letter ∷ []
  unfolding utf8
  of_two low h = rw (is_letter_below letter (omega arith), le-ltb letter least_of_two low, lt-ltb letter least_of_three h)

  pub of_three : is_letter letter ≡ true → least_of_three ≤ letter → letter < least_of_four
      → utf8 letter ≡ (0xE0 + letter / 4096) ∷ behind (letter / 64) ∷ behind letter ∷ []
  unfolding utf8
  of_three e low h = rw (e, le-ltb letter least_of_two (omega arith), le-ltb letter least_of_three low, lt-ltb letter least_of_four h)

  pub of_four : is_letter letter ≡ true → least_of_four ≤ letter
      → utf8 letter ≡ (0xF0 + letter / 262144) ∷ behind (letter / 4096) ∷ behind (letter / 64) ∷ behind letter ∷ []
  unfolding utf8
  of_four e low = rw (e, le-ltb letter least_of_two (omega arith), le-ltb letter least_of_three (omega arith), le-ltb letter least_of_four low)

-- ---- texts

pub text_append : (letters more : List ℕ) → utf8_text (letters ++ more) ≡ utf8_text letters ++ utf8_text more
unfolding utf8_text
text_append [] more = refl
text_append (letter ∷ letters) more =
    ap (λ (text : List ℕ). utf8 letter ++ text) (text_append letters more) ∙ sym (append_assoc (utf8 letter) (utf8_text letters) (utf8_text more))

-- one letter more
pub text_more : (letters : List ℕ) (letter : ℕ) → utf8_text (letters ++ (letter ∷ [])) ≡ utf8_text letters ++ utf8 letter
unfolding utf8_text
text_more letters letter =
    text_append letters (letter ∷ []) ∙ ap (λ (text : List ℕ). utf8_text letters ++ text) (append-nil (utf8 letter))
