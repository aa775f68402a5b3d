-- The laws over all sets. Forms are tried by one test that the checker computes, over every value of C12 to C14 and every byte as a code; that codes outside the thirteen are
-- their own letters holds of every number.
use mathlib.Core.Path.{◌≡◌, refl, sym}
use mathlib.Core.Bool.{Bool, false, ◌&&◌}
use mathlib.Core.List.{List, [], ◌∷◌}
use mathlib.Core.Option.{Option, none, some}
use Prim.Native.Nat.{ℕ, ◌<◌, ◌≤◌}
use native.Mathlib.Omega.{arith}
use borrow.Author.Tests.{ltb-false}
use lib.Dec.{T, eqb, leb, leb→le, eqb→eq}
use lib.ListN.{length}
use Rattle.laws.specs.Below.{all_below}
use Rattle.laws.proofs.Below.{at}
use Rattle.laws.proofs.Bools.{both_left, both_right}
use Rattle.letters.specs.Laws.{OverAllSets}
use Rattle.letters.specs.Sets.{is_national, letter_in, letter_of, national_codes, option_of, position_among, set_for}
use Rattle.letters.specs.Utf8.{LetterRead, first_letter, most_of_letters, utf8}
use Rattle.letters.proofs.National.{option_small, own-letter, position_most, set_whole}
use Rattle.letters.proofs.Reading.{some_byte}

-- read as a letter, and nothing is left
is_alone : ℕ → Option LetterRead → Bool
is_alone letter none = false
is_alone letter (some found) = eqb found.letter letter && eqb (length found.left) 0

none_left : (left : List ℕ) → length left ≡ 0 → left ≡ []
none_left [] e = refl
none_left (byte ∷ left) e = absurd (omega arith)

alone : (letter : ℕ) (found : Option LetterRead) → T (is_alone letter found) → found ≡ some (record { letter = letter; left = [] })
unfolding is_alone
alone letter none t = absurd t
alone letter (some found) t =
    let same = eqb→eq found.letter letter (both_left (eqb found.letter letter) (eqb (length found.left) 0) t) in
    let left = none_left found.left (eqb→eq (length found.left) 0 (both_right (eqb found.letter letter) (eqb (length found.left) 0) t)) in
    λ i. some (record { letter = same i; left = left i })

-- a letter's form reads back, and is short
is_fine : ℕ → Bool
is_fine letter = is_alone letter (first_letter (utf8 letter)) && leb (length (utf8 letter)) most_of_letters

test : ℕ → ℕ → Bool
test option code = is_fine (letter_in (set_for option) code)

all_fine : T (all_below 8 (λ option. all_below 256 (test option)))
unfolding test is_fine is_alone first_letter utf8 letter_in set_for all_below
all_fine = tt

fine : (control code : ℕ) → code < 256 → T (is_fine (letter_of control code))
unfolding test letter_of
fine control code h = at 256 (test (option_of control)) (at 8 (λ option. all_below 256 (test option)) all_fine (option_of control) (option_small control)) code h

outside : (control code : ℕ) → is_national code ≡ false → letter_of control code ≡ code
unfolding letter_of is_national
outside control code e =
    let most = position_most national_codes code in
    let past = ltb-false (position_among national_codes code) (length national_codes) e in
    sym (own-letter (set_for (option_of control)) (set_whole control) code (position_among national_codes code) refl (omega arith))

module _ (control code : ℕ) (h : code < 256) where
  letter : ℕ
  letter = letter_of control code

  reads : Bool
  reads = is_alone letter (first_letter (utf8 letter))

  fits : Bool
  fits = leb (length (utf8 letter)) most_of_letters

  read_back_law : first_letter (utf8 letter) ≡ some (record { letter = letter; left = [] })
  unfolding is_fine reads fits letter
  read_back_law = alone letter (first_letter (utf8 letter)) (both_left reads fits (fine control code h))

  short : length (utf8 letter) ≤ most_of_letters
  unfolding is_fine reads fits letter
  short = leb→le (length (utf8 letter)) most_of_letters (both_right reads fits (fine control code h))

  -- a letter has a byte at least
  pub some_bytes : 1 ≤ length (utf8 (letter_of control code))
  unfolding letter
  some_bytes = some_byte (utf8 letter) (record { letter = letter; left = [] }) read_back_law

pub over_all_sets : OverAllSets
unfolding letter
over_all_sets = record { outside = outside; read_back = read_back_law; short = short }
