-- The first eight bytes of eight cells, as one number: single bits and bytes by turns. The bytes are moved together, and the single bits to their marks.
use mathlib.Core.Path.{◌≡◌, refl, ◌∙◌, ap, subst, sym}
use mathlib.Core.Bool.{Bool, true, false}
use mathlib.Core.List.{List, [], ◌∷◌, map}
use Prim.Native.Nat.{ℕ, zero, suc, ◌+◌, ◌*◌, ◌-◌, ◌/◌, ◌^◌, ◌<◌, ◌≤◌}
use native.Mathlib.Nat.{sub-le, zero-mul}
use native.Mathlib.Omega.{arith}
use borrow.Author.Rules.{rules}
use lib.Bits.{bit_and}
use lib.ListN.{get_or, replicate}
use lib.Pow.{pow_mono, pow_pos}
use Rattle.laws.specs.Below.{all_below}
use Rattle.laws.specs.Digits.{binary}
use Rattle.laws.specs.Fields.{bits_of, digits, total}
use Rattle.laws.proofs.Below.{equal_at}
use Rattle.laws.proofs.Fields.{Fit, length_fields}
use Rattle.laws.proofs.Table.{tabulate}
use Rattle.laws.proofs.Tabulated.{tabulated}
use Rattle.laws.proofs.Words.{bytes-masked, bytes_word_law, bytes_word, cut-fit, mask, masked, word, word-of-fields}
use Rattle.packing.specs.Private.{bits_in, bytes_in, turn_widths, turns_in, twice}
use Rattle.packing.proofs.Bits.{over, single_kept, single_mask}
use Rattle.packing.proofs.Moves.{four_apart, four_widths, seven, two_apart, two_widths}

-- ---- the steps of `together`

abbrev pub bytes_alone : ℕ → ℕ
bytes_alone word = word - bit_and word single_mask

-- the widths between which every other byte stands, nine bits apart
abbrev nine_widths : List ℕ
nine_widths = 8 ∷ 10 ∷ 8 ∷ 10 ∷ 8 ∷ 10 ∷ 8 ∷ 1 ∷ []

abbrev nine_kept : List Bool
nine_kept = true ∷ false ∷ true ∷ false ∷ true ∷ false ∷ true ∷ false ∷ []

abbrev pub nine_mask : ℕ
nine_mask = mask nine_widths nine_kept

abbrev pub back_one : ℕ → ℕ
back_one bytes = bytes - bit_and bytes nine_mask / 2

-- and the first two of each four
abbrev pair_widths : List ℕ
pair_widths = 16 ∷ 20 ∷ 16 ∷ 10 ∷ []

abbrev pair_kept : List Bool
pair_kept = true ∷ false ∷ true ∷ false ∷ []

abbrev pub pair_mask : ℕ
pair_mask = mask pair_widths pair_kept

abbrev pub back_two : ℕ → ℕ
back_two twos = twos - bit_and twos pair_mask / 4 * 3

abbrev pub back_four : ℕ → ℕ
back_four fours = fours - fours / 268435456 * 251658240

module _ (a b c d e f g : ℕ) (fit : Fit (replicate 7 8) (seven a b c d e f g)) where
  abbrev nine_apart : List ℕ
  nine_apart = a ∷ b * 2 ∷ c ∷ d * 2 ∷ e ∷ f * 2 ∷ g ∷ 0 ∷ []

  abbrev pairs_apart : List ℕ
  pairs_apart = (a * 256 + b) ∷ (c * 256 + d) * 4 ∷ (e * 256 + f) ∷ g ∷ []

  back_one_here : (bytes : ℕ) → bytes ≡ word (replicate 7 9) (seven a b c d e f g) * 2 → back_one bytes ≡ word two_widths (two_apart a b c d e f g)
  unfolding word total
  back_one_here bytes is =
      let fits : Fit nine_widths nine_apart = search rules in
      let form : bytes ≡ word nine_widths nine_apart = omega arith in
      omega (arith, ap (λ (n : ℕ). bit_and n nine_mask) form ∙ masked nine_widths nine_kept nine_apart fits refl)

  back-two : (twos : ℕ) → twos ≡ word two_widths (two_apart a b c d e f g) → back_two twos ≡ word four_widths (four_apart a b c d e f g)
  unfolding word total
  back-two twos is =
      let fits : Fit pair_widths pairs_apart = search rules in
      let form : twos ≡ word pair_widths pairs_apart = omega arith in
      omega (arith, ap (λ (n : ℕ). bit_and n pair_mask) form ∙ masked pair_widths pair_kept pairs_apart fits refl)

  back-four : (fours : ℕ) → fours ≡ word four_widths (four_apart a b c d e f g) → back_four fours ≡ bytes_word 7 (seven a b c d e f g)
  unfolding word total
  back-four fours is = omega arith

  pub moved-together : (bytes : ℕ) → bytes ≡ word (replicate 7 9) (seven a b c d e f g) * 2
      → back_four (back_two (back_one bytes)) ≡ bytes_word 7 (seven a b c d e f g)
  moved-together bytes is = back-four (back_two (back_one bytes)) (back-two (back_one bytes) (back_one_here bytes is))

-- ---- of a number of fields by turns

-- what a mask of its highest bit leaves of a byte
pub highest : (x : ℕ) → x < 256 → bit_and x 128 ≡ x / 128 * 128
unfolding all_below
highest x h = equal_at 256 (λ k. bit_and k 128) (λ k. k / 128 * 128) tt x h

-- a single bit anywhere in a byte raises 127 to its highest
raised_bit : (place bit : ℕ) → 1 ≤ place → place ≤ 128 → bit < 2 → (bit * place + 127) / 128 * 128 ≡ bit * 128
raised_bit place zero low high h = simp zero-mul
raised_bit place (suc zero) low high h = omega arith
raised_bit place (suc (suc bit)) low high h = absurd (omega arith)

abbrev pub singles_up : ℕ → ℕ
singles_up number = bit_and (bit_and number single_mask + over 127) (over 128) / 64

module _ (t : ℕ → ℕ) (fit : Fit turn_widths (tabulate t 0 15)) (number : ℕ) (is : number ≡ word turn_widths (tabulate t 0 15)) where
  abbrev turn_bytes : List ℕ
  turn_bytes = tabulate (λ k. t (2 * k + 1)) 0 7

  abbrev turn_bits : List ℕ
  turn_bits = tabulate (λ k. t (2 * k)) 0 8

  singles : bit_and number single_mask ≡ word (replicate 8 9) turn_bits
  unfolding word total
  singles = ap (λ (n : ℕ). bit_and n single_mask) is ∙ (masked turn_widths single_kept (tabulate t 0 15) fit refl ∙ omega arith)

  pub together-is : back_four (back_two (back_one (bytes_alone number))) ≡ bytes_word 7 turn_bytes
  unfolding word total
  together-is =
      let bytes : Fit (replicate 7 8) turn_bytes = search rules in
      let alone : bytes_alone number ≡ word (replicate 7 9) turn_bytes * 2 = omega (arith, singles) in
      moved-together (t 1) (t 3) (t 5) (t 7) (t 9) (t 11) (t 13) bytes (bytes_alone number) alone

  -- each single bit in a byte of its own, and 127 added
  abbrev raised : List ℕ
  raised = tabulate (λ k. t (2 * k) * 2 ^ (7 - k) + 127) 0 8

  raised_at : (k : ℕ) → t (2 * k) < 2 → (t (2 * k) * 2 ^ (7 - k) + 127) / 128 * 128 ≡ t (2 * k) * 128
  raised_at k h = raised_bit (2 ^ (7 - k)) (t (2 * k)) (pow_pos (7 - k)) (pow_mono (sub-le 7 k)) h

  raised_all : bytes_word 8 (map (λ x. x / 128 * 128) raised) ≡ bytes_word 8 (map (λ x. x * 128) turn_bits)
  raised_all =
      let single_bits : Fit (replicate 8 1) turn_bits = search rules in
      λ i.
      bytes_word 8
      (raised_at 0 single_bits.0 i ∷ raised_at 1 single_bits.1.0 i ∷ raised_at 2 single_bits.1.1.0 i ∷ raised_at 3 single_bits.1.1.1.0 i
      ∷ raised_at 4 single_bits.1.1.1.1.0 i ∷ raised_at 5 single_bits.1.1.1.1.1.0 i ∷ raised_at 6 single_bits.1.1.1.1.1.1.0 i
      ∷ raised_at 7 single_bits.1.1.1.1.1.1.1.0 i ∷ [])

  pub upper_is : singles_up number ≡ bytes_word 8 (map twice turn_bits)
  unfolding word total
  upper_is =
      let bytes : Fit (replicate 8 8) raised = search rules in
      let form : bit_and number single_mask + over 127 ≡ bytes_word 8 raised = omega (arith, singles) in
      omega (arith, ap (λ (n : ℕ). bit_and n (over 128)) form ∙ bytes-masked 128 (omega arith) (λ x. x / 128 * 128) highest 8 raised bytes ∙ raised_all)

-- ---- of any number

module _ (number : ℕ) (fits : number < 2 ^ 64) where
  abbrev turn : ℕ → ℕ
  turn k = get_or (turns_in number) k 0

  all-turns : turns_in number ≡ tabulate turn 0 15
  unfolding turns_in
  all-turns = tabulated 15 (turns_in number) (length_fields turn_widths (digits 64 number))

  pub turns_fit : Fit turn_widths (tabulate turn 0 15)
  unfolding turns_in total
  turns_fit = subst (Fit turn_widths) all-turns (cut-fit turn_widths number)

  pub turns-are : number ≡ word turn_widths (tabulate turn 0 15)
  unfolding turns_in total
  turns-are = sym (word-of-fields turn_widths number fits) ∙ ap (word turn_widths) all-turns

  pub bytes_fit : Fit (replicate 7 8) (bytes_in number)
  bytes_fit = let turns = turns_fit in search rules

  pub bytes-together : back_four (back_two (back_one (bytes_alone number))) ≡ binary (bits_of (bytes_in number))
  bytes-together = together-is turn turns_fit number turns-are ∙ sym (bytes_word_law 7 (bytes_in number) refl bytes_fit)

  pub together-below : back_four (back_two (back_one (bytes_alone number))) < 2 ^ 56
  unfolding word total
  together-below = let bytes = bytes_fit in omega (arith, together-is turn turns_fit number turns-are)

  pub bits_up : singles_up number ≡ binary (bits_of (map twice (bits_in number)))
  bits_up =
      let turns = turns_fit in
      let fit : Fit (replicate 8 8) (map twice (bits_in number)) = search rules in
      upper_is turn turns_fit number turns-are ∙ sym (bytes_word_law 8 (map twice (bits_in number)) refl fit)
