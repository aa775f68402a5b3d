-- The bits of eight cells: each cell's first bit and its last eight, gathered out of the words of the marks and of the characters.
use mathlib.Core.Path.{◌≡◌, refl, ◌∙◌, ap, sym}
use mathlib.Core.Bool.{Bool, true, false}
use mathlib.Core.List.{List, [], ◌∷◌, map, zip_with}
use Prim.Native.Nat.{ℕ, ◌+◌, ◌*◌, ◌/◌, ◌%◌, ◌<◌}
use native.Mathlib.Omega.{arith}
use borrow.Author.Rules.{rules}
use mir.Syntax.{w8}
use mir.Val.{Fits}
use lib.Bits.{bit_and}
use lib.ListN.{get_or, length, replicate}
use Rattle.laws.specs.Below.{all_below}
use Rattle.laws.specs.Digits.{binary}
use Rattle.laws.specs.Fields.{bits_of, fields_bits, total}
use Rattle.laws.proofs.Below.{equal_at}
use Rattle.laws.proofs.Fields.{Fit}
use Rattle.laws.proofs.Table.{tabulate}
use Rattle.laws.proofs.Tabulated.{tabulated}
use Rattle.laws.proofs.Words.{bytes-masked, bytes_word_law, bytes_word, mask, masked, word, word_is}
use Rattle.packing.specs.Private.{first_bit, last_bits, turn_widths}

-- what a mask leaves of a byte
pub lower_7 : (x : ℕ) → x < 256 → bit_and x 127 ≡ x % 128
unfolding all_below
lower_7 x h = equal_at 256 (λ k. bit_and k 127) (λ k. k % 128) tt x h

lowest : (x : ℕ) → x < 256 → bit_and x 1 ≡ x % 2
unfolding all_below
lowest x h = equal_at 256 (λ k. bit_and k 1) (λ k. k % 2) tt x h

second : (x : ℕ) → x < 256 → bit_and x 2 ≡ first_bit x * 2
unfolding all_below
second x h = equal_at 256 (λ k. bit_and k 2) (λ k. first_bit k * 2) tt x h

-- eight numbers
abbrev pub eight : (ℕ → ℕ) → List ℕ
eight at = tabulate at 0 8

pub eight_fit : (at : ℕ → ℕ) → ((k : ℕ) → at k < 256) → Fit (replicate 8 8) (eight at)
eight_fit at small = (small 0, (small 1, (small 2, (small 3, (small 4, (small 5, (small 6, (small 7, tt))))))))

-- the masks that the code lays over eight bytes
abbrev pub over : ℕ → ℕ
over y = bytes_word 8 (replicate 8 y)

-- the fields that stand by turns: single bits are kept, and bytes dropped
abbrev pub single_kept : List Bool
single_kept = true ∷ false ∷ true ∷ false ∷ true ∷ false ∷ true ∷ false ∷ true ∷ false ∷ true ∷ false ∷ true ∷ false ∷ true ∷ []

abbrev pub single_mask : ℕ
single_mask = mask turn_widths single_kept

module _ (m : ℕ → ℕ) (m-small : (k : ℕ) → m k < 256) where
  module _ (c : ℕ → ℕ) (c-small : (k : ℕ) → c k < 256) where
    pub lasts_are : bit_and (bytes_word 8 (eight c)) (over 127) + bit_and (bytes_word 8 (eight m)) (over 1) * 128 ≡ binary (bits_of (zip_with last_bits (eight m) (eight c)))
    unfolding word total zip_with
    lasts_are =
        let fit : Fit (replicate 8 8) (zip_with last_bits (eight m) (eight c)) = search rules in
        omega (
          arith,
          bytes-masked 127 (omega arith) (λ x. x % 128) lower_7 8 (eight c) (eight_fit c c-small),
          bytes-masked 1 (omega arith) (λ x. x % 2) lowest 8 (eight m) (eight_fit m m-small),
          bytes_word_law 8 (zip_with last_bits (eight m) (eight c)) refl fit,
        )

  -- a first bit at every place of its byte
  abbrev e : ℕ → ℕ
  e k = first_bit (m k)

  abbrev spread : List ℕ
  spread =
      e 0 ∷ (e 0 * 254 + e 1) ∷ e 1 ∷ (e 1 * 252 + e 2 * 3) ∷ e 2 ∷ (e 2 * 248 + e 3 * 7) ∷ e 3 ∷ (e 3 * 240 + e 4 * 15)
      ∷ e 4 ∷ (e 4 * 224 + e 5 * 31) ∷ e 5 ∷ (e 5 * 192 + e 6 * 63) ∷ e 6 ∷ (e 6 * 128 + e 7 * 127) ∷ e 7 ∷ []

  pub firsts-are : bit_and (bit_and (bytes_word 8 (eight m)) (over 2) / 2 * 255) single_mask ≡ binary (fields_bits (replicate 8 9) (map first_bit (eight m)))
  unfolding word total
  firsts-are =
      let fit : Fit turn_widths spread = search rules in
      let fit-9 : Fit (replicate 8 9) (map first_bit (eight m)) = search rules in
      let bits = bytes-masked 2 (omega arith) (λ x. first_bit x * 2) second 8 (eight m) (eight_fit m m-small) in
      let all : bit_and (bytes_word 8 (eight m)) (over 2) / 2 * 255 ≡ word turn_widths spread = omega (arith, bits) in
      ap (λ (n : ℕ). bit_and n single_mask) all
      ∙ (masked turn_widths single_kept spread fit refl ∙ (omega arith) ∙ sym (word_is (replicate 8 9) (map first_bit (eight m)) fit-9))

-- of lists of eight bytes
abbrev pub EightBytes : List ℕ → Type 0
EightBytes xs = (length xs ≡ 8) × ((k : ℕ) → get_or xs k 0 < 256)

pub eight_bytes : (xs : List ℕ) → length xs ≡ 8 → ((k : ℕ) → Fits w8 (get_or xs k 0)) → EightBytes xs
eight_bytes xs e fits = (e, λ k. (fits k).fits)

pub number_is : (xs : List ℕ) → EightBytes xs → binary (bits_of xs) ≡ bytes_word 8 (eight (λ k. get_or xs k 0))
number_is xs h =
    ap (λ (ys : List ℕ). binary (bits_of ys)) (tabulated 8 xs h.0)
    ∙ bytes_word_law 8 (eight (λ k. get_or xs k 0)) refl (eight_fit (λ k. get_or xs k 0) h.1)

module _ (ms : List ℕ) (h : EightBytes ms) (marks : ℕ) (is : marks ≡ binary (bits_of ms)) where
  pub last-bits-are : (cs : List ℕ) → EightBytes cs → (characters : ℕ) → characters ≡ binary (bits_of cs)
      → bit_and characters (over 127) + bit_and marks (over 1) * 128 ≡ binary (bits_of (zip_with last_bits ms cs))
  last-bits-are cs k characters are =
      rw (is ∙ number_is ms h, are ∙ number_is cs k) (lasts_are (λ k. get_or ms k 0) h.1 (λ j. get_or cs j 0) k.1)
      ∙ (ap (λ (xs : List ℕ). binary (bits_of (zip_with last_bits xs (eight (λ j. get_or cs j 0))))) (sym (tabulated 8 ms h.0))
      ∙ ap (λ (xs : List ℕ). binary (bits_of (zip_with last_bits ms xs))) (sym (tabulated 8 cs k.0)))

  pub first-bits-are : bit_and (bit_and marks (over 2) / 2 * 255) single_mask ≡ binary (fields_bits (replicate 8 9) (map first_bit ms))
  first-bits-are =
      rw (is ∙ number_is ms h) (firsts-are (λ k. get_or ms k 0) h.1)
      ∙ ap (λ (xs : List ℕ). binary (fields_bits (replicate 8 9) (map first_bit xs))) (sym (tabulated 8 ms h.0))
