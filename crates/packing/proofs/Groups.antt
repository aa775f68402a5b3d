-- A group of eight cells and its nine bytes are one number: what the steps on words come to.
use mathlib.Core.Path.{◌≡◌, refl, ◌∙◌, ap, sym}
use mathlib.Core.List.{List, [], ◌∷◌, ◌++◌, map, zip_with}
use Prim.Native.Nat.{ℕ, ◌+◌, ◌*◌, ◌/◌, ◌%◌, ◌^◌, ◌<◌}
use native.Mathlib.Nat.{div-add-mod', mod-lt, zero-lt-suc}
use native.Mathlib.Omega.{arith}
use borrow.Author.Rules.{rules}
use lib.Arith.{digits_div, digits_mod}
use lib.Bits.{bit_and}
use lib.ListN.{get_or, length, length-append, replicate}
use lib.Seq.{get_or_at, take_at}
use Rattle.laws.specs.Digits.{binary}
use Rattle.laws.specs.Fields.{bits_of, bytes_of, digits, fields_bits, fields_of, total}
use Rattle.laws.proofs.Digits.{digits_binary}
use Rattle.laws.proofs.Fields.{Fit, bits_of_bits, length_bits_of, length_bytes}
use Rattle.laws.proofs.Table.{tabulate}
use Rattle.laws.proofs.Tabulated.{tabulated}
use Rattle.laws.proofs.Words.{bits_of_values, bytes_below, bytes-masked, bytes_of_word, bytes_word_law, bytes_word, fields-of-word, last_byte, next_byte, reduced, word, word_below, word_is}
use Rattle.packing.specs.Cells.{cell_bytes, cell_fields, cell_values, cell_widths, eight_from, nine_from}
use Rattle.packing.specs.Private.{bits_in, bytes_in, first_bit, last_bits, twice}
use Rattle.packing.proofs.Back.{bytes_fit, highest, turns-are, turns_fit}
use Rattle.packing.proofs.Bits.{EightBytes, eight, lower_7, over}
use Rattle.packing.proofs.Splits.{length_values, length_widths}

-- ---- written

-- the words that the code makes of the marks and the characters
abbrev pub last_word : List ℕ → List ℕ → ℕ
last_word ms cs = binary (bits_of (zip_with last_bits ms cs))

abbrev pub apart_word : List ℕ → List ℕ → ℕ
apart_word ms cs = binary (fields_bits (replicate 7 9) (bytes_of 7 (digits 56 (last_word ms cs / 256)))) * 2

abbrev pub first_word : List ℕ → ℕ
first_word ms = binary (fields_bits (replicate 8 9) (map first_bit ms))

mark_split : (m : ℕ) → m % 4 ≡ first_bit m * 2 + m % 2
mark_split m = omega arith

-- eight marks and eight characters by turns
abbrev in_turn : (ℕ → ℕ) → (ℕ → ℕ) → List ℕ
in_turn m c =
    m 0 ∷ c 0 ∷ m 1 ∷ c 1 ∷ m 2 ∷ c 2 ∷ m 3 ∷ c 3 ∷ m 4 ∷ c 4 ∷ m 5 ∷ c 5 ∷ m 6 ∷ c 6 ∷ m 7 ∷ c 7 ∷ []

-- the marks' upper and lower bits and the characters, as the cells have them and as the code arranges them
arranged : (upper lower c : ℕ → ℕ) → word (cell_widths 8) (in_turn (λ k. upper k * 2 + lower k) c)
    ≡ (word (replicate 7 9) (tabulate (λ k. lower k * 128 + c k) 0 7) * 2 + word (replicate 8 9) (tabulate upper 0 8)) * 256 + (lower 7 * 128 + c 7)
unfolding word total cell_widths
arranged upper lower c = omega arith

module _ (m c : ℕ → ℕ) where
  abbrev b : ℕ → ℕ
  b k = last_bits (m k) (c k)

  last_word_here : last_word (eight m) (eight c) ≡ bytes_word 8 (eight b)
  unfolding zip_with
  last_word_here = let fit : Fit (replicate 8 8) (eight b) = search rules in bytes_word_law 8 (eight b) refl fit

  apart-word : apart_word (eight m) (eight c) ≡ word (replicate 7 9) (tabulate b 0 7) * 2
  unfolding word total
  apart-word =
      let fit : Fit (replicate 7 8) (tabulate b 0 7) = search rules in
      let fit-9 : Fit (replicate 7 9) (tabulate b 0 7) = search rules in
      let seven : last_word (eight m) (eight c) / 256 ≡ bytes_word 7 (tabulate b 0 7) = omega (arith, last_word_here) in
      ap (λ (n : ℕ). binary (fields_bits (replicate 7 9) (bytes_of 7 (digits 56 n))) * 2) seven
      ∙ (ap (λ (xs : List ℕ). binary (fields_bits (replicate 7 9) xs) * 2) (bytes_of_word 7 (tabulate b 0 7) fit)
      ∙ ap (λ (n : ℕ). n * 2) (word_is (replicate 7 9) (tabulate b 0 7) fit-9))

  first-word : first_word (eight m) ≡ word (replicate 8 9) (map first_bit (eight m))
  first-word = let fit : Fit (replicate 8 9) (map first_bit (eight m)) = search rules in word_is (replicate 8 9) (map first_bit (eight m)) fit

  pub group-fits : apart_word (eight m) (eight c) + first_word (eight m) < 2 ^ 64
  unfolding word total
  group-fits = omega (arith, apart-word, first-word)

  -- the number of the cells' bits
  group-number : word (cell_widths 8) (reduced (cell_widths 8) (cell_values (eight m) (eight c)))
      ≡ (apart_word (eight m) (eight c) + first_word (eight m)) * 256 + last_word (eight m) (eight c) % 256
  unfolding word total cell_widths cell_values
  group-number =
      let last : last_word (eight m) (eight c) % 256 ≡ b 7 = omega (arith, last_word_here) in
      (λ i. word (cell_widths 8) (in_turn (λ k. mark_split (m k) i) (λ k. c k % 128)))
      ∙ (arranged (λ k. first_bit (m k)) (λ k. m k % 2) (λ k. c k % 128)
      ∙ sym (λ i. (apart-word i + first-word i) * 256 + last i))

-- nine bytes, the last by itself
nine_from_law : (xs : List ℕ) (x : ℕ) → length xs ≡ 8 → nine_from (xs ++ (x ∷ [])) ≡ record { first = xs; last = x }
nine_from_law xs x e = λ i. record { first = take_at xs (x ∷ []) 8 e i; last = get_or_at xs x [] 0 8 e i }

-- the bytes of a number that is a word and a byte
bytes_of_both : (high low : ℕ) → low < 256 → bytes_of 9 (digits 72 (high * 256 + low)) ≡ bytes_of 8 (digits 64 high) ++ (low ∷ [])
bytes_of_both high low h =
    last_byte 8 (high * 256 + low)
    ∙ (λ i. bytes_of 8 (digits 64 (digits_div high h i)) ++ (digits_mod high h i ∷ []))

module _ (ms cs : List ℕ) (h : EightBytes ms) (k : EightBytes cs) where
  abbrev high : ℕ
  high = apart_word ms cs + first_word ms

  abbrev low : ℕ
  low = last_word ms cs % 256

  -- of lists, as of their elements
  listed : (P : List ℕ → List ℕ → Type 0) → ((m c : ℕ → ℕ) → P (eight m) (eight c)) → P ms cs
  listed P each =
      rw (tabulated 8 ms h.0, tabulated 8 cs k.0) (each (λ i. get_or ms i 0) (λ i. get_or cs i 0))

  pub high_fits : high < 2 ^ 64
  high_fits = listed (λ ms cs. apart_word ms cs + first_word ms < 2 ^ 64) group-fits

  number_of : word (cell_widths 8) (reduced (cell_widths 8) (cell_values ms cs)) ≡ high * 256 + low
  number_of =
      listed
      (λ ms cs. word (cell_widths 8) (reduced (cell_widths 8) (cell_values ms cs)) ≡ (apart_word ms cs + first_word ms) * 256 + last_word ms cs % 256) group-number

  pub nine-are : record { first = bytes_of 8 (digits 64 high); last = low } ≡ nine_from (cell_bytes 8 9 ms cs)
  unfolding cell_bytes total
  nine-are =
      let bits = bits_of_values (cell_widths 8) (cell_values ms cs) (length_widths 8 ∙ sym (length_values 8 ms cs h.0 k.0)) in
      sym (ap (λ (xs : List ℕ). nine_from (bytes_of 9 xs)) (bits ∙ ap (digits 72) number_of)
      ∙ (ap nine_from (bytes_of_both high low (mod-lt (last_word ms cs) (zero-lt-suc 255)))
      ∙ nine_from_law (bytes_of 8 (digits 64 high)) low (length_bytes 8 (digits 64 high))))

-- ---- read

module _ (first : List ℕ) (h : EightBytes first) (last : ℕ) (small : last < 256) where
  abbrev number : ℕ
  number = binary (bits_of first)

  number_fits : number < 2 ^ 64
  number_fits = rw h.0 at (bytes_below first)

  -- each cell's first bit, and its last eight
  abbrev u : ℕ → ℕ
  u k = get_or (bits_in number) k 0

  abbrev v : ℕ → ℕ
  v k = get_or (bytes_in number ++ (last ∷ [])) k 0

  abbrev cell_mark : ℕ → ℕ
  cell_mark k = u k * 2 + v k / 128

  abbrev cell_character : ℕ → ℕ
  cell_character k = v k % 128

  -- the word of the last eight
  abbrev pub lasts_read : ℕ
  lasts_read = binary (bits_of (bytes_in number)) * 256 + last

  lasts_fit : Fit (replicate 8 8) (eight v)
  lasts_fit = let bytes = bytes_fit number number_fits in search rules

  lasts-read : lasts_read ≡ bytes_word 8 (eight v)
  unfolding word total
  lasts-read = omega (arith, bytes_word_law 7 (bytes_in number) refl (bytes_fit number number_fits))

  abbrev pub characters_word : ℕ
  characters_word = bit_and lasts_read (over 127)

  abbrev pub marks_word : ℕ
  marks_word = bit_and lasts_read (over 128) / 128 + binary (bits_of (map twice (bits_in number)))

  characters-word : characters_word ≡ bytes_word 8 (eight cell_character)
  characters-word = ap (λ (n : ℕ). bit_and n (over 127)) lasts-read ∙ bytes-masked 127 (omega arith) (λ x. x % 128) lower_7 8 (eight v) lasts_fit

  marks-word : marks_word ≡ bytes_word 8 (eight cell_mark)
  unfolding word total
  marks-word =
      let turns = turns_fit number number_fits in
      let fit : Fit (replicate 8 8) (map twice (bits_in number)) = search rules in
      omega (
        arith,
        ap (λ (n : ℕ). bit_and n (over 128)) lasts-read ∙ bytes-masked 128 (omega arith) (λ x. x / 128 * 128) highest 8 (eight v) lasts_fit,
        bytes_word_law 8 (map twice (bits_in number)) refl fit,
      )

  marks-fit : Fit (replicate 8 8) (eight cell_mark)
  marks-fit = let turns = turns_fit number number_fits in let bytes = lasts_fit in search rules

  pub marks-word-fits : marks_word < 2 ^ 64
  unfolding total
  marks-word-fits = rw marks-word (word_below (replicate 8 8) (eight cell_mark) marks-fit)

  -- all nine bytes are the number of the cells
  nine-number : number * 256 + last ≡ word (cell_widths 8) (in_turn cell_mark cell_character)
  unfolding word total cell_widths
  nine-number =
      let apart : number ≡ word (replicate 7 9) (bytes_in number) * 2 + word (replicate 8 9) (bits_in number) = omega (arith, turns-are number number_fits) in
      ap (λ (n : ℕ). n * 256 + last) apart
      ∙ sym (arranged u (λ k. v k / 128) cell_character
      ∙ (λ i. (word (replicate 7 9) (tabulate (λ k. div-add-mod' (v k) 128 i) 0 7) * 2 + word (replicate 8 9) (bits_in number)) * 256 + div-add-mod' last 128 i))

  cells-number : binary (bits_of (first ++ (last ∷ []))) ≡ word (cell_widths 8) (in_turn cell_mark cell_character)
  cells-number = next_byte first last small ∙ nine-number

  cells_fit : Fit (cell_widths 8) (in_turn cell_mark cell_character)
  unfolding cell_widths
  cells_fit = let turns = turns_fit number number_fits in let bytes = lasts_fit in search rules

  cells-read : cell_fields 8 (first ++ (last ∷ [])) ≡ in_turn cell_mark cell_character
  unfolding cell_fields total cell_widths
  cells-read =
      let nine = first ++ (last ∷ []) in
      let long : length (bits_of nine) ≡ 72 = length_bits_of nine ∙ ap (λ (n : ℕ). 8 * n) (length-append first (last ∷ []) ∙ ap (λ (n : ℕ). n + 1) h.0) in
      ap (fields_of (cell_widths 8)) (sym (digits_binary (bits_of nine) (bits_of_bits nine)) ∙ (ap (λ (n : ℕ). digits n (binary (bits_of nine))) long ∙ ap (digits 72) cells-number))
      ∙ fields-of-word (cell_widths 8) (in_turn cell_mark cell_character) cells_fit

  pub eight_are : record { marks = bytes_of 8 (digits 64 marks_word); characters = bytes_of 8 (digits 64 characters_word) } ≡ eight_from (cell_fields 8 (first ++ (last ∷ [])))
  unfolding eight_from
  eight_are =
      let characters_fit : Fit (replicate 8 8) (eight cell_character) = search rules in
      (λ i. record {
        marks = (ap (λ (n : ℕ). bytes_of 8 (digits 64 n)) marks-word ∙ bytes_of_word 8 (eight cell_mark) marks-fit) i;
        characters = (ap (λ (n : ℕ). bytes_of 8 (digits 64 n)) characters-word ∙ bytes_of_word 8 (eight cell_character) characters_fit) i;
      })
      ∙ sym (ap eight_from cells-read)
