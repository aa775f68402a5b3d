-- For the contracts of private functions: no promise rests on these words.
use Rattle.std.specs.Prelude.{List, [], ◌∷◌, ℕ, ◌+◌, ◌*◌, ◌/◌, ◌%◌, get_or}
use Rattle.laws.specs.Fields.{digits, fields_of}
use Rattle.laws.proofs.Table.{tabulate}

-- a cell's nine bits: the first, which is its mark's upper bit, and the others, which are the mark's lower bit and the character
abbrev pub first_bit : ℕ → ℕ
first_bit mark = mark / 2 % 2

abbrev pub last_bits : ℕ → ℕ → ℕ
last_bits mark character = mark % 2 * 128 + character % 128

-- in the first eight bytes of eight cells these stand by turns, with the last cell's first bit at the end
abbrev pub turn_widths : List ℕ
turn_widths = 1 ∷ 8 ∷ 1 ∷ 8 ∷ 1 ∷ 8 ∷ 1 ∷ 8 ∷ 1 ∷ 8 ∷ 1 ∷ 8 ∷ 1 ∷ 8 ∷ 1 ∷ []

unfoldable pub turns_in : ℕ → List ℕ
unfolding fields_of digits
turns_in word = fields_of turn_widths (digits 64 word)

abbrev pub bits_in : ℕ → List ℕ
bits_in word = tabulate (λ k. get_or (turns_in word) (2 * k) 0) 0 8

abbrev pub bytes_in : ℕ → List ℕ
bytes_in word = tabulate (λ k. get_or (turns_in word) (2 * k + 1) 0) 0 7

abbrev pub twice : ℕ → ℕ
twice bit = bit * 2
