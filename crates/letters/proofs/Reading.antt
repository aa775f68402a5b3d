-- What the reader of UTF-8 takes: the form of each letter, whatever stands behind it, and nothing else; and so a text of letters, whole.
use mathlib.Core.Path.{◌≡◌, refl, sym, ◌∙◌, ap, subst}
use mathlib.Core.Bool.{Bool, true, false, cond, ◌&&◌}
use mathlib.Core.List.{List, [], ◌∷◌, ◌++◌}
use mathlib.Core.Option.{Option, none, some}
use Prim.Native.Nat.{ℕ, zero, suc, ◌+◌, ◌-◌, ◌*◌, ◌/◌, ◌%◌, ◌<◌, ◌≤◌}
use native.Mathlib.Omega.{arith}
use borrow.Author.Tests.{le-leb, le-ltb, leb-true, lt-ltb, ltb-false, ltb-true}
use lib.Dec.{leb, ltb}
use lib.ListN.{length, length-append}
use Rattle.laws.specs.Every.{every}
use Rattle.laws.proofs.Bools.{both_true}
use Rattle.letters.specs.Laws.{OnlyForms}
use Rattle.letters.specs.Utf8.{
  LetterRead,
  behind,
  first_letter,
  following,
  in_front,
  is_letter,
  least_of_four,
  least_of_three,
  least_of_two,
  letters_of,
  letters_up_to,
  read_on,
  if_well_formed,
  utf8,
  utf8_text,
}
use Rattle.letters.proofs.Writing.{at_most_last, is_letter_below, of_four, of_one, of_three, of_two}

abbrev read_as : ℕ → List ℕ → LetterRead
read_as letter left = record { letter = letter; left = left }

-- ---- by the first byte

module _ (byte : ℕ) (bytes : List ℕ) where
  first_one : byte < 0x80 → first_letter (byte ∷ bytes) ≡ some (read_as byte bytes)
  unfolding first_letter
  first_one h = rw (lt-ltb byte 0x80 h)

  first_two : 0xC0 ≤ byte → byte < 0xE0 → first_letter (byte ∷ bytes) ≡ if_well_formed least_of_two (following 1 (byte - 0xC0) bytes)
  unfolding first_letter
  first_two low h = rw (le-ltb byte 0x80 (omega arith), le-ltb byte 0xC0 low, lt-ltb byte 0xE0 h)

  first_three : 0xE0 ≤ byte → byte < 0xF0 → first_letter (byte ∷ bytes) ≡ if_well_formed least_of_three (following 2 (byte - 0xE0) bytes)
  unfolding first_letter
  first_three low h = rw (le-ltb byte 0x80 (omega arith), le-ltb byte 0xC0 (omega arith), le-ltb byte 0xE0 low, lt-ltb byte 0xF0 h)

  first-four : 0xF0 ≤ byte → byte < 0xF8 → first_letter (byte ∷ bytes) ≡ if_well_formed least_of_four (following 3 (byte - 0xF0) bytes)
  unfolding first_letter
  first-four low h =
      rw (le-ltb byte 0x80 (omega arith), le-ltb byte 0xC0 (omega arith), le-ltb byte 0xE0 (omega arith), le-ltb byte 0xF0 low, lt-ltb byte 0xF8 h)

-- ---- forms are read

-- a byte behind the first gives its six bits
one_behind : (count bits more : ℕ) (bytes : List ℕ) → following (suc count) bits (behind more ∷ bytes) ≡ following count (bits * 64 + more % 64) bytes
unfolding following
one_behind count bits more bytes =
    let six : 0x80 + more % 64 - 0x80 ≡ more % 64 = omega arith in
    rw (le-leb 0x80 (behind more) (omega arith), le-leb (behind more) 0xBF (omega arith), six)

-- what was read is the letter
taken : (letter least bits : ℕ) (left : List ℕ) → least ≤ letter → is_letter letter ≡ true → bits ≡ letter
    → if_well_formed least (following 0 bits left) ≡ some (read_as letter left)
unfolding if_well_formed following
taken letter least bits left low e is = rw (is, le-leb least letter low, e)

module _ (letter : ℕ) (e : is_letter letter ≡ true) (left : List ℕ) where
  abbrev IsRead : Type 0
  IsRead = first_letter (utf8 letter ++ left) ≡ some (read_as letter left)

  by_one : letter < least_of_two → IsRead
  by_one h = rw (of_one letter h) (first_one letter left h)

  by_two : least_of_two ≤ letter → letter < least_of_three → IsRead
  by_two low h =
      let bits = 0xC0 + letter / 64 - 0xC0 in
      rw (
        of_two letter low h,
        first_two (0xC0 + letter / 64) (behind letter ∷ left) (omega arith) (omega arith),
        one_behind 0 bits letter left,
      ) (taken letter least_of_two (bits * 64 + letter % 64) left low e (omega arith))

  by_three : least_of_three ≤ letter → letter < least_of_four → IsRead
  by_three low h =
      let bits = 0xE0 + letter / 4096 - 0xE0 in
      let more = bits * 64 + letter / 64 % 64 in
      rw (
        of_three letter e low h,
        first_three (0xE0 + letter / 4096) (behind (letter / 64) ∷ behind letter ∷ left) (omega arith) (omega arith),
        one_behind 1 bits (letter / 64) (behind letter ∷ left),
        one_behind 0 more letter left,
      ) (taken letter least_of_three (more * 64 + letter % 64) left low e (omega arith))

  by-four : least_of_four ≤ letter → IsRead
  by-four low =
      let last = at_most_last letter e in
      let bits = 0xF0 + letter / 262144 - 0xF0 in
      let more = bits * 64 + letter / 4096 % 64 in
      let most = more * 64 + letter / 64 % 64 in
      rw (
        of_four letter e low,
        first-four (0xF0 + letter / 262144) (behind (letter / 4096) ∷ behind (letter / 64) ∷ behind letter ∷ left) (omega arith) (omega arith),
        one_behind 2 bits (letter / 4096) (behind (letter / 64) ∷ behind letter ∷ left),
        one_behind 1 more (letter / 64) (behind letter ∷ left),
        one_behind 0 most letter left,
      ) (taken letter least_of_four (most * 64 + letter % 64) left low e (omega arith))

  by_size : (two three four : Bool) → ltb letter least_of_two ≡ two → ltb letter least_of_three ≡ three → ltb letter least_of_four ≡ four → IsRead
  by_size true three four t h f = by_one (ltb-true letter least_of_two t)
  by_size false true four t h f = by_two (ltb-false letter least_of_two t) (ltb-true letter least_of_three h)
  by_size false false true t h f = by_three (ltb-false letter least_of_three h) (ltb-true letter least_of_four f)
  by_size false false false t h f = by-four (ltb-false letter least_of_four f)

  forms : IsRead
  forms = by_size (ltb letter least_of_two) (ltb letter least_of_three) (ltb letter least_of_four) refl refl refl

-- ---- and nothing else is

-- a byte of 80 to BF was taken, and what stands behind it
record Stepped (count bits : ℕ) (bytes : List ℕ) (found : LetterRead) : Type 0 where
  byte : ℕ
  rest : List ℕ
  is : bytes ≡ byte ∷ rest
  low : 0x80 ≤ byte
  high : byte ≤ 0xBF
  further : following count (bits * 64 + (byte - 0x80)) rest ≡ some found

none_some : {found : LetterRead} {A : Type 0} → ◌≡◌ {A = Option LetterRead} none (some found) → A
none_some e = absurd (let z : ◌≡◌ {A = ℕ} 0 1 = cc in omega arith)

stepped_by : (count bits : ℕ) (found : LetterRead) (byte : ℕ) (rest : List ℕ) (inside : Bool) → (leb 0x80 byte && leb byte 0xBF) ≡ inside
    → cond inside (following count (bits * 64 + (byte - 0x80)) rest) none ≡ some found → Stepped count bits (byte ∷ rest) found
stepped_by count bits found byte rest true e is =
    let both = both_true (leb 0x80 byte) (leb byte 0xBF) e in
    record { byte = byte; rest = rest; is = refl; low = leb-true 0x80 byte both.0; high = leb-true byte 0xBF both.1; further = is }
stepped_by count bits found byte rest false e is = none_some is

stepped : (count bits : ℕ) (bytes : List ℕ) (found : LetterRead) → following (suc count) bits bytes ≡ some found → Stepped count bits bytes found
unfolding following
stepped count bits [] found e = none_some e
stepped count bits (byte ∷ rest) found e = stepped_by count bits found byte rest (leb 0x80 byte && leb byte 0xBF) refl e

-- a form that is not overlong, of a letter
record Lawful (least : ℕ) (read : Option LetterRead) (found : LetterRead) : Type 0 where
  is : read ≡ some found
  enough : least ≤ found.letter
  letter : is_letter found.letter ≡ true

lawful_by : (least : ℕ) (given found : LetterRead) (fine : Bool) → (leb least given.letter && is_letter given.letter) ≡ fine
    → cond fine (some given) none ≡ some found → Lawful least (some given) found
lawful_by least given found true e is =
    let both = both_true (leb least given.letter) (is_letter given.letter) e in
    let same : given ≡ found = cc in
    record {
      is = is;
      enough = leb-true least found.letter (ap (λ (r : LetterRead). leb least r.letter) (sym same) ∙ both.0);
      letter = ap (λ (r : LetterRead). is_letter r.letter) (sym same) ∙ both.1;
    }
lawful_by least given found false e is = none_some is

lawful : (least : ℕ) (read : Option LetterRead) (found : LetterRead) → if_well_formed least read ≡ some found → Lawful least read found
unfolding if_well_formed
lawful least none found e = none_some e
lawful least (some given) found e = lawful_by least given found (leb least given.letter && is_letter given.letter) refl e

ended : (bits : ℕ) (rest : List ℕ) (found : LetterRead) → following 0 bits rest ≡ some found → (bits ≡ found.letter) × (rest ≡ found.left)
unfolding following
ended bits rest found e =
    let same : read_as bits rest ≡ found = cc in
    (ap (λ (r : LetterRead). r.letter) same, ap (λ (r : LetterRead). r.left) same)

abbrev IsForm : List ℕ → LetterRead → Type 0
IsForm bytes found = (is_letter found.letter ≡ true) × (bytes ≡ utf8 found.letter ++ found.left)

module _ (byte : ℕ) (bytes : List ℕ) (found : LetterRead) (e : first_letter (byte ∷ bytes) ≡ some found) where
  only_one : byte < 0x80 → IsForm (byte ∷ bytes) found
  only_one h =
      let same : read_as byte bytes ≡ found = let is = sym (first_one byte bytes h) ∙ e in cc in
      let is : IsForm (byte ∷ bytes) (read_as byte bytes) = (is_letter_below byte (omega arith), rw (of_one byte h) refl) in
      subst (λ (r : LetterRead). IsForm (byte ∷ bytes) r) same is

  only_two : 0xC0 ≤ byte → byte < 0xE0 → IsForm (byte ∷ bytes) found
  only_two low h =
      let read = lawful least_of_two (following 1 (byte - 0xC0) bytes) found (sym (first_two byte bytes low h) ∙ e) in
      let one = stepped 0 (byte - 0xC0) bytes found read.is in
      let end = ended _ one.rest found one.further in
      let letter = found.letter in
      let first : byte ≡ 0xC0 + letter / 64 = omega arith in
      let second : one.byte ≡ behind letter = omega arith in
      let form = of_two letter read.enough (omega arith) in
      (read.letter, rw form (ap (λ (more : List ℕ). byte ∷ more) one.is ∙ (λ i. first i ∷ second i ∷ end.1 i)))

  only-three : 0xE0 ≤ byte → byte < 0xF0 → IsForm (byte ∷ bytes) found
  only-three low h =
      let read = lawful least_of_three (following 2 (byte - 0xE0) bytes) found (sym (first_three byte bytes low h) ∙ e) in
      let one = stepped 1 (byte - 0xE0) bytes found read.is in
      let two = stepped 0 _ one.rest found one.further in
      let end = ended _ two.rest found two.further in
      let letter = found.letter in
      let first : byte ≡ 0xE0 + letter / 4096 = omega arith in
      let second : one.byte ≡ behind (letter / 64) = omega arith in
      let third : two.byte ≡ behind letter = omega arith in
      let form = of_three letter read.letter read.enough (omega arith) in
      let bytes_are = one.is ∙ ap (λ (more : List ℕ). one.byte ∷ more) two.is in
      (read.letter, rw form (ap (λ (more : List ℕ). byte ∷ more) bytes_are ∙ (λ i. first i ∷ second i ∷ third i ∷ end.1 i)))

  only-four : 0xF0 ≤ byte → byte < 0xF8 → IsForm (byte ∷ bytes) found
  only-four low h =
      let read = lawful least_of_four (following 3 (byte - 0xF0) bytes) found (sym (first-four byte bytes low h) ∙ e) in
      let one = stepped 2 (byte - 0xF0) bytes found read.is in
      let two = stepped 1 _ one.rest found one.further in
      let three = stepped 0 _ two.rest found two.further in
      let end = ended _ three.rest found three.further in
      let letter = found.letter in
      let first : byte ≡ 0xF0 + letter / 262144 = omega arith in
      let second : one.byte ≡ behind (letter / 4096) = omega arith in
      let third : two.byte ≡ behind (letter / 64) = omega arith in
      let fourth : three.byte ≡ behind letter = omega arith in
      let form = of_four letter read.letter read.enough in
      let bytes_are =
      one.is ∙ ap (λ (more : List ℕ). one.byte ∷ more) (two.is ∙ ap (λ (more : List ℕ). two.byte ∷ more) three.is) in
      (read.letter, rw form (ap (λ (more : List ℕ). byte ∷ more) bytes_are ∙ (λ i. first i ∷ second i ∷ third i ∷ fourth i ∷ end.1 i)))

no_other_law : (bytes : List ℕ) (found : LetterRead) → first_letter bytes ≡ some found → IsForm bytes found
unfolding first_letter
no_other_law [] found e = none_some e
no_other_law (byte ∷ bytes) found e = by_first (ltb byte 0x80) (ltb byte 0xC0) (ltb byte 0xE0) (ltb byte 0xF0) (ltb byte 0xF8) refl refl refl refl refl
  where
    by_first : (a b c d f : Bool) → ltb byte 0x80 ≡ a → ltb byte 0xC0 ≡ b → ltb byte 0xE0 ≡ c → ltb byte 0xF0 ≡ d → ltb byte 0xF8 ≡ f → IsForm (byte ∷ bytes) found
    by_first true b c d f p q r s t = only_one byte bytes found e (ltb-true byte 0x80 p)
    by_first false true c d f p q r s t = none_some (rw (p, q) at e)
    by_first false false true d f p q r s t = only_two byte bytes found e (ltb-false byte 0xC0 q) (ltb-true byte 0xE0 r)
    by_first false false false true f p q r s t = only-three byte bytes found e (ltb-false byte 0xE0 r) (ltb-true byte 0xF0 s)
    by_first false false false false true p q r s t = only-four byte bytes found e (ltb-false byte 0xF0 s) (ltb-true byte 0xF8 t)
    by_first false false false false false p q r s t = none_some (rw (p, q, r, s, t) at e)

-- ---- texts

-- where a letter is read there is a byte, and the letters go on behind it
pub some_byte : (bytes : List ℕ) (found : LetterRead) → first_letter bytes ≡ some found → 1 ≤ length bytes
unfolding first_letter
some_byte [] found e = none_some e
some_byte (byte ∷ bytes) found e = omega arith

read_on_law : (bound : ℕ) (bytes : List ℕ) (found : LetterRead) → first_letter bytes ≡ some found
    → letters_up_to (suc bound) bytes ≡ in_front found.letter (letters_up_to bound found.left)
unfolding first_letter letters_up_to
read_on_law bound [] found e = none_some e
read_on_law bound (byte ∷ bytes) found e = ap (read_on (letters_up_to bound)) e

up_to : (letters : List ℕ) (bound : ℕ) → every is_letter letters ≡ true → length letters ≤ bound → letters_up_to bound (utf8_text letters) ≡ some letters
unfolding utf8_text letters_up_to every
up_to [] zero e h = refl
up_to [] (suc bound) e h = refl
up_to (letter ∷ letters) zero e h = absurd (omega arith)
up_to (letter ∷ letters) (suc bound) e h =
    let both = both_true (is_letter letter) (every is_letter letters) e in
    read_on_law bound (utf8 letter ++ utf8_text letters) (read_as letter (utf8_text letters)) (forms letter both.0 (utf8_text letters))
    ∙ ap (in_front letter) (up_to letters bound both.1 (omega arith))

-- at least a byte for each
long_enough : (letters : List ℕ) → every is_letter letters ≡ true → length letters ≤ length (utf8_text letters)
unfolding utf8_text every
long_enough [] e = omega arith
long_enough (letter ∷ letters) e =
    let both = both_true (is_letter letter) (every is_letter letters) e in
    let one = some_byte (utf8 letter ++ []) (read_as letter []) (forms letter both.0 []) in
    let alone = length-append (utf8 letter) [] in
    let more = long_enough letters both.1 in
    let whole = length-append (utf8 letter) (utf8_text letters) in
    omega arith

texts : (letters : List ℕ) → every is_letter letters ≡ true → letters_of (utf8_text letters) ≡ some letters
unfolding letters_of
texts letters e = up_to letters (length (utf8_text letters)) e (long_enough letters e)

pub only_forms : OnlyForms
only_forms = record { forms = forms; no_other = no_other_law; texts = texts }
