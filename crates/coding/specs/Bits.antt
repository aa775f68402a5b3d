-- Document 01, "From bits to packets": turning a byte end for end, how many bits differ, and the framing test.
use Rattle.std.specs.Prelude.{Bool, ℕ, zero, suc, ◌+◌, ◌-◌, ◌*◌, ◌%◌, eqb, leb}
use Rattle.std.specs.Int.Bits.{bit_xor}
use Rattle.std.specs.Int.Count.{ones}
use Rattle.laws.specs.Digits.{weight, bit}

-- the number whose bits b1 to bN are given
unfoldable pub from_bits : ℕ → (ℕ → ℕ) → ℕ
unfolding weight
from_bits zero bits = 0
from_bits (suc n) bits = bits (suc n) * weight (suc n) + from_bits n bits

-- a byte turned end for end: b1 is what b8 was, and so on
unfoldable pub turned_byte : ℕ → ℕ
unfolding from_bits bit
turned_byte byte = from_bits 8 (λ n. bit byte (9 - n))

-- an odd count
unfoldable pub odd : ℕ → Bool
odd n = eqb (n % 2) 1

-- in how many bits two bytes differ
unfoldable pub distance : ℕ → ℕ → ℕ
unfolding ones
distance a b = ones (bit_xor a b)

-- 11100100, the first bit sent the most significant
abbrev pub framing_code : ℕ
framing_code = 0xE4

-- the framing code is accepted with at most one wrong bit
unfoldable pub framing_passes : ℕ → Bool
unfolding distance
framing_passes byte = leb (distance byte framing_code) 1
