-- Binary digits and the number that they write are one and the same, both ways; and where digits are cut in two, so is the number.
use mathlib.Core.Path.{◌≡◌, refl, ◌∙◌, ap, sym}
use mathlib.Core.List.{List, [], ◌∷◌, ◌++◌}
use Prim.Native.Nat.{ℕ, zero, suc, ◌+◌, ◌*◌, ◌/◌, ◌%◌, ◌^◌, ◌<◌}
use native.Mathlib.Nat.{add_comm, add-mul, zero-add, suc-add, mul_assoc, mod-one, mod-lt, mod-eq_of_lt, mul-add-div_right, mul-add-mod_self_right, pow-succ', zero-lt-suc}
use native.Mathlib.Numerals.{one-add}
use native.Mathlib.Omega.{arith}
use lib.Arith.{digits_lt}
use lib.ListN.{length, length-append, take, drop}
use lib.Pow.{mod-pow-add, pow-add, pow_pos, shr-shr, high}
use Rattle.laws.specs.Digits.{binary}
use Rattle.laws.specs.Fields.{digits}

-- a list of digits 0 and 1
abbrev pub AreBits : List ℕ → Type 0
AreBits [] = Unit
AreBits (bit ∷ bits) = (bit < 2) × AreBits bits

pub bits_append : (xs ys : List ℕ) → AreBits xs → AreBits ys → AreBits (xs ++ ys)
bits_append [] ys h k = k
bits_append (x ∷ xs) ys h k = (h.0, bits_append xs ys h.1 k)

pub bits_take : (n : ℕ) (xs : List ℕ) → AreBits xs → AreBits (take n xs)
bits_take zero xs h = tt
bits_take (suc n) [] h = tt
bits_take (suc n) (x ∷ xs) h = (h.0, bits_take n xs h.1)

pub bits_drop : (n : ℕ) (xs : List ℕ) → AreBits xs → AreBits (drop n xs)
bits_drop zero xs h = h
bits_drop (suc n) [] h = tt
bits_drop (suc n) (x ∷ xs) h = bits_drop n xs h.1

pub length_digits : (width value : ℕ) → length (digits width value) ≡ width
unfolding digits
length_digits zero value = refl
length_digits (suc width) value = ap suc (length_digits width value)

pub digits_bits : (width value : ℕ) → AreBits (digits width value)
unfolding digits
digits_bits zero value = tt
digits_bits (suc width) value = (mod-lt (value / 2 ^ width) (zero-lt-suc 1), digits_bits width value)

-- the number of its own digits
pub binary_digits : (width value : ℕ) → binary (digits width value) ≡ value % 2 ^ width
unfolding digits binary
binary_digits zero value = sym (mod-one value)
binary_digits (suc width) value =
    ap (λ (n : ℕ). value / 2 ^ width % 2 * 2 ^ n + binary (digits width value)) (length_digits width value)
    ∙ (ap (λ (n : ℕ). value / 2 ^ width % 2 * 2 ^ width + n) (binary_digits width value)
    ∙ (sym (mod-pow-add value 1 width) ∙ ap (λ (n : ℕ). value % 2 ^ n) (one-add width)))

pub binary_digits_fit : (width value : ℕ) → value < 2 ^ width → binary (digits width value) ≡ value
binary_digits_fit width value h = binary_digits width value ∙ mod-eq_of_lt h

-- what lies above the digits does not show in them
pub digits_above : (width above value : ℕ) → digits width (above * 2 ^ width + value) ≡ digits width value
unfolding digits
digits_above zero above value = refl
digits_above (suc width) above value =
    let twice : above * 2 ^ suc width ≡ (above * 2) * 2 ^ width =
    ap (λ (n : ℕ). above * n) (pow-succ' 2 width) ∙ sym (mul_assoc above 2 (2 ^ width)) in
    rw (twice, mul-add-div_right (pow_pos width) (above * 2) value, mul-add-mod_self_right above 2 (value / 2 ^ width), digits_above width (above * 2) value)

pub binary_below : (bits : List ℕ) → AreBits bits → binary bits < 2 ^ length bits
unfolding binary
binary_below [] h = zero-lt-suc 0
binary_below (bit ∷ bits) h = rw (pow-succ' 2 (length bits)) (digits_lt h.0 (binary_below bits h.1))

-- the digits of their own number
pub digits_binary : (bits : List ℕ) → AreBits bits → digits (length bits) (binary bits) ≡ bits
unfolding digits binary
digits_binary [] h = refl
digits_binary (bit ∷ bits) h =
    rw (high bit (length bits) (binary_below bits h.1), mod-eq_of_lt h.0, digits_above (length bits) bit (binary bits), digits_binary bits h.1)

-- digits cut in two
pub digits_cut : (j k value : ℕ) → digits (j + k) value ≡ digits j (value / 2 ^ k) ++ digits k value
unfolding digits
digits_cut zero k value = rw (zero-add k)
digits_cut (suc j) k value = rw (suc-add j k, digits_cut j k value, shr-shr value k j, add_comm k j)

pub binary_append : (xs ys : List ℕ) → binary (xs ++ ys) ≡ binary xs * 2 ^ length ys + binary ys
unfolding binary
binary_append [] ys = omega arith
binary_append (x ∷ xs) ys =
    rw (binary_append xs ys, length-append xs ys, pow-add 2 (length xs) (length ys), add-mul, mul_assoc) (omega arith)

-- ---- runs of digits, one after another, as one number

pub two_runs : (i j x y : ℕ) → binary (digits i x ++ digits j y) ≡ x % 2 ^ i * 2 ^ j + y % 2 ^ j
two_runs i j x y =
    binary_append (digits i x) (digits j y) ∙ rw (length_digits j y, binary_digits i x, binary_digits j y)

pub three_runs : (i j k x y z : ℕ)
    → binary (digits i x ++ (digits j y ++ digits k z)) ≡ x % 2 ^ i * 2 ^ (j + k) + y % 2 ^ j * 2 ^ k + z % 2 ^ k
three_runs i j k x y z =
    binary_append (digits i x) (digits j y ++ digits k z)
    ∙ rw (length-append (digits j y) (digits k z), length_digits j y, length_digits k z, binary_digits i x, two_runs j k y z) (omega arith)
