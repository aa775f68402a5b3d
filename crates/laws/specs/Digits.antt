-- The bits of a number, and numbers written in binary digits, the most significant first.
use Rattle.std.specs.Prelude.{List, [], ◌∷◌, ℕ, ◌+◌, ◌-◌, ◌*◌, ◌/◌, ◌%◌, ◌^◌, length}

-- b1 has weight 1, and in a byte b8 weight 128
unfoldable pub weight : ℕ → ℕ
weight n = 2 ^ (n - 1)

-- the bit bN of a number
unfoldable pub bit : ℕ → ℕ → ℕ
unfolding weight
bit value n = value / weight n % 2

unfoldable pub binary : List ℕ → ℕ
binary [] = 0
binary (digit ∷ digits) = digit * 2 ^ length digits + binary digits

-- the largest number of 64 bits: a count holds no more
abbrev pub most_counted : ℕ
most_counted = 18446744073709551615
