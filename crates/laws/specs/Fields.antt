-- Fields packed bit by bit, the most significant bit first: each has a width, and stands in so many bits right after the one before it. Bytes are
-- fields of eight bits.
use Rattle.std.specs.Prelude.{Bool, List, [], ◌∷◌, ◌++◌, ℕ, zero, suc, ◌+◌, ◌/◌, ◌%◌, ◌^◌, ltb, length, take, drop, replicate}
use Rattle.laws.specs.Digits.{binary}

-- so many binary digits of a number, the most significant first
unfoldable pub digits : ℕ → ℕ → List ℕ
digits zero value = []
digits (suc width) value = value / 2 ^ width % 2 ∷ digits width value

-- a value that is not too large for so many bits
unfoldable pub fits : ℕ → ℕ → Bool
fits width value = ltb value (2 ^ width)

-- the bits of some fields, in order
unfoldable pub fields_bits : List ℕ → List ℕ → List ℕ
unfolding digits
fields_bits [] values = []
fields_bits (width ∷ widths) [] = []
fields_bits (width ∷ widths) (value ∷ values) = digits width value ++ fields_bits widths values

-- the values of the fields that stand in some bits
unfoldable pub fields_of : List ℕ → List ℕ → List ℕ
unfolding binary
fields_of [] bits = []
fields_of (width ∷ widths) bits = binary (take width bits) ∷ fields_of widths (drop width bits)

-- how many bits some fields have in all
unfoldable pub total : List ℕ → ℕ
total [] = 0
total (width ∷ widths) = width + total widths

abbrev pub byte_width : ℕ
byte_width = 8

-- so many bytes out of their bits, and the bits of bytes
unfoldable pub bytes_of : ℕ → List ℕ → List ℕ
unfolding fields_of
bytes_of count bits = fields_of (replicate count byte_width) bits

unfoldable pub bits_of : List ℕ → List ℕ
unfolding fields_bits
bits_of bytes = fields_bits (replicate (length bytes) byte_width) bytes
