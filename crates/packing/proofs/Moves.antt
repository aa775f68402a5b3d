-- Seven bytes that stand together, moved nine bits apart, step by step: a number of fields before, a number of fields after.
use mathlib.Core.Path.{◌≡◌, refl, ◌∙◌, ap, subst, sym}
use mathlib.Core.Bool.{Bool, true, false}
use mathlib.Core.List.{List, [], ◌∷◌}
use Prim.Native.Nat.{ℕ, ◌+◌, ◌*◌, ◌/◌, ◌^◌, ◌<◌}
use native.Mathlib.Omega.{arith}
use borrow.Author.Rules.{rules}
use lib.Bits.{bit_and}
use lib.ListN.{get_or, replicate}
use Rattle.laws.specs.Digits.{binary}
use Rattle.laws.specs.Fields.{bytes_of, digits, fields_bits, total}
use Rattle.laws.proofs.Fields.{Fit, length_bytes}
use Rattle.laws.proofs.Table.{tabulate}
use Rattle.laws.proofs.Tabulated.{tabulated}
use Rattle.laws.proofs.Words.{cut-fit, mask, masked, word, word_is, word-of-fields}

-- the first four by four bits
abbrev pub fours : ℕ → ℕ
fours bytes = bytes + bytes / 16777216 * 251658240

abbrev pub four_widths : List ℕ
four_widths = 16 ∷ 20 ∷ 16 ∷ 8 ∷ []

abbrev two_kept : List Bool
two_kept = true ∷ false ∷ true ∷ false ∷ []

abbrev pub two_mask : ℕ
two_mask = mask four_widths two_kept

-- the first two of each four by two
abbrev pub twos : ℕ → ℕ
twos bytes = fours bytes + bit_and (fours bytes) two_mask * 3

abbrev pub two_widths : List ℕ
two_widths = 8 ∷ 10 ∷ 8 ∷ 10 ∷ 8 ∷ 10 ∷ 8 ∷ []

abbrev one_kept : List Bool
one_kept = true ∷ false ∷ true ∷ false ∷ true ∷ false ∷ true ∷ []

abbrev pub one_mask : ℕ
one_mask = mask two_widths one_kept

-- every other by one
abbrev pub ones : ℕ → ℕ
ones bytes = twos bytes + bit_and (twos bytes) one_mask

module _ (a b c d e f g : ℕ) where
  abbrev pub seven : List ℕ
  seven = a ∷ b ∷ c ∷ d ∷ e ∷ f ∷ g ∷ []

  abbrev pub four_apart : List ℕ
  four_apart = (a * 256 + b) ∷ (c * 256 + d) * 16 ∷ (e * 256 + f) ∷ g ∷ []

  abbrev pub two_apart : List ℕ
  two_apart = a ∷ b * 4 ∷ c ∷ d * 4 ∷ e ∷ f * 4 ∷ g ∷ []

  module _ (fit : Fit (replicate 7 8) seven) (bytes : ℕ) (is : bytes ≡ word (replicate 7 8) seven) where
    four-apart : fours bytes ≡ word four_widths four_apart
    unfolding word total
    four-apart = omega arith

    two-apart : twos bytes ≡ word two_widths two_apart
    unfolding word total
    two-apart =
        let fits : Fit four_widths four_apart = search rules in
        omega (arith, four-apart, ap (λ (n : ℕ). bit_and n two_mask) four-apart ∙ masked four_widths two_kept four_apart fits refl)

    pub one_apart : ones bytes ≡ word (replicate 7 9) seven * 2
    unfolding word total
    one_apart =
        let fits : Fit two_widths two_apart = search rules in
        omega (arith, two-apart, ap (λ (n : ℕ). bit_and n one_mask) two-apart ∙ masked two_widths one_kept two_apart fits refl)

-- any number of seven bytes
pub moved_apart : (number : ℕ) → number < 2 ^ 56 → ones number ≡ binary (fields_bits (replicate 7 9) (bytes_of 7 (digits 56 number))) * 2
unfolding bytes_of total word
moved_apart number h =
    let bytes = bytes_of 7 (digits 56 number) in
    let each = tabulated 7 bytes (length_bytes 7 (digits 56 number)) in
    let fit : Fit (replicate 7 8) (tabulate (λ k. get_or bytes k 0) 0 7) = subst (Fit (replicate 7 8)) each (cut-fit (replicate 7 8) number) in
    let wider : Fit (replicate 7 9) (tabulate (λ k. get_or bytes k 0) 0 7) = search rules in
    one_apart (get_or bytes 0 0) (get_or bytes 1 0) (get_or bytes 2 0) (get_or bytes 3 0) (get_or bytes 4 0) (get_or bytes 5 0) (get_or bytes 6 0) fit number
    (sym (word-of-fields (replicate 7 8) number h) ∙ ap (word (replicate 7 8)) each)
    ∙ ap (λ (n : ℕ). n * 2) (sym (word_is (replicate 7 9) (tabulate (λ k. get_or bytes k 0) 0 7) wider)
    ∙ ap (λ (xs : List ℕ). binary (fields_bits (replicate 7 9) xs)) (sym each))
